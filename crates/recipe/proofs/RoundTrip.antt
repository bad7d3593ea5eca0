-- What is written reads back the same.
use Rattle.std.proofs.Common.{◌≡◌, ℕ, ◌+◌, ◌*◌, ◌%◌, ◌^◌, ◌<◌, ◌≤◌, Bool, true, false, cond, ltb, leb, List, [], ◌∷◌, ◌++◌, length, take, drop, IfOk, Ok, Err, decimal, Result, sym, refl, ap, ◌∙◌, subst, arith, length-append}
use Rattle.std.proofs.lemmas.Fmt.{decimal_by_steps, length-decimal-le}
use Rattle.std.proofs.lemmas.List.{take_at}
use Rattle.std.proofs.lemmas.Bool.{and_parts, leb-true}
use Rattle.std.specs.List.{flat_map}
use Rattle.refusal.specs.declared.Refusal.{Refusal}
use Rattle.refusal.specs.Reports.{answer, accepted, refused}
use Rattle.refusal.specs.declared.Part.TheVariants as part
use Rattle.recipe.specs.declared.words.Word.{Word}
use Rattle.recipe.specs.declared.words.Word.TheVariants.{Step, Hold, Join, Meet, Forget}
use Rattle.recipe.specs.Grammar.{Digits, Number, Spells, Ends, SpellsAll, Text}
use Rattle.recipe.specs.Legal.{size_fits, sizes_fit, Legal}
use Rattle.recipe.specs.Shapes.{numeral}
use Rattle.recipe.specs.Written.{spelling, spaced, written, write_answer, overwritten}
use Rattle.recipe.proofs.Answering.{not_refused, same_value}
use Rattle.recipe.proofs.Shaping.{numeral_push}

-- the digits of a number above 0 are a number, and write it
pub record Writes (n : ℕ) (ds : List ℕ) : Type 0 where
  digits : Digits ds
  number : 1 ≤ n → Number ds
  value : numeral 0 ds ≡ n

digits_push : (ds : List ℕ) (d : ℕ) → Digits ds → 48 ≤ d → d ≤ 57 → Digits (ds ++ d ∷ [])
digits_push [] d h low high = (low, high, tt)
digits_push (x ∷ ds) d h low high = (h.0, h.1, digits_push ds d h.2 low high)

number_push : (ds : List ℕ) (d : ℕ) → Number ds → 48 ≤ d → d ≤ 57 → Number (ds ++ d ∷ [])
number_push [] d h low high = absurd h
number_push (x ∷ ds) d h low high = (h.0, digits_push (x ∷ ds) d h.1 low high)

decimal_writes : (n : ℕ) → n < 2 ^ 64 → Writes n (decimal n)
decimal_writes n small =
    decimal_by_steps Writes
    (λ m less. record {
      digits = (omega arith, omega arith, tt);
      number = λ some. ((λ z. omega arith), (omega arith, omega arith, tt));
      value = omega arith;
    })
    (λ m ds more h. record {
      digits = digits_push ds (48 + m % 10) h.digits (omega arith) (omega arith);
      number = λ some. number_push ds (48 + m % 10) (h.number (omega arith)) (omega arith) (omega arith);
      value = omega (arith, numeral_push 0 ds (48 + m % 10), h.value);
    })
    n small

spelling_spells : (w : Word) → size_fits w ≡ true → Spells w (spelling w)
spelling_spells (Step f) e =
    let h = and_parts (leb 1 f.size) (leb f.size 200) e in
    let low = leb-true 1 f.size h.0 in
    let high = leb-true f.size 200 h.1 in
    let d = decimal_writes f.size (omega arith) in
    record { digits = decimal f.size; is = refl; number = d.number low; value = d.value; low = low; high = high }
spelling_spells Hold e = refl
spelling_spells Join e = refl
spelling_spells Meet e = refl
spelling_spells Forget e = refl

joined_ends : (ws : List Word) → Ends (flat_map spaced ws)
joined_ends [] = tt
joined_ends (w ∷ ws) = refl

-- words, each after a space, say themselves
joined_spells : (ws : List Word) → sizes_fit ws ≡ true → SpellsAll (flat_map spaced ws) ws
joined_spells [] e = tt
joined_spells (w ∷ ws) e =
    let h = and_parts (size_fits w) (sizes_fit ws) e in
    record {
      gap = 32 ∷ [];
      bytes = spelling w;
      rest = flat_map spaced ws;
      is = refl;
      spaces = (refl, tt);
      spells = spelling_spells w h.0;
      ends = joined_ends ws;
      left = joined_spells ws h.1;
    }

written_spells : (ws : List Word) → sizes_fit ws ≡ true → SpellsAll (written ws) ws
written_spells [] e = tt
written_spells (w ∷ ws) e =
    let h = and_parts (size_fits w) (sizes_fit ws) e in
    record {
      gap = [];
      bytes = spelling w;
      rest = flat_map spaced ws;
      is = refl;
      spaces = tt;
      spells = spelling_spells w h.0;
      ends = joined_ends ws;
      left = joined_spells ws h.1;
    }

short_spelling : (w : Word) → size_fits w ≡ true → length (spelling w) ≤ 4
short_spelling (Step f) e =
    let high = leb-true f.size 200 (and_parts (leb 1 f.size) (leb f.size 200) e).1 in
    omega (arith, length-decimal-le 3 f.size (omega arith) (omega arith) (omega arith))
short_spelling Hold e = omega arith
short_spelling Join e = omega arith
short_spelling Meet e = omega arith
short_spelling Forget e = omega arith

short_joined : (ws : List Word) → sizes_fit ws ≡ true → length (flat_map spaced ws) ≤ 5 * length ws
short_joined [] e = omega arith
short_joined (w ∷ ws) e =
    let h = and_parts (size_fits w) (sizes_fit ws) e in
    omega (arith, short_spelling w h.0, short_joined ws h.1, length-append (spaced w) (flat_map spaced ws))

pub short_written : (ws : List Word) → sizes_fit ws ≡ true → length (written ws) ≤ 5 * length ws
short_written [] e = omega arith
short_written (w ∷ ws) e =
    let h = and_parts (size_fits w) (sizes_fit ws) e in
    omega (arith, short_spelling w h.0, short_joined ws h.1, length-append (spelling w) (flat_map spaced ws))

-- what is written of legal words belongs to the grammar, as those words
pub written_text : (ws : List Word) → Legal ws → Text (written ws) ws
written_text ws legal = record {
  short = omega (arith, legal.few, short_written ws legal.sizes);
  few = legal.few;
  fit = legal.fit;
  spells = written_spells ws legal.sizes;
}

-- the front of what a text was written over is that text
pub front_is : (text front back : List ℕ) (n : ℕ) → front ≡ text → n ≡ length text → take n (front ++ back) ≡ text
front_is text front back n same long = take_at front back n (ap length same ∙ sym long) ∙ same

-- the front of the buffer after a text is written over it is that text
module _ (P : List ℕ → Type 0) (text buffer : List ℕ) (holds : P text) where
  if-short : (short : Bool) (r : Result ℕ Refusal) → answer r ≡ cond short (refused 18 0 part.Recipe) (accepted (length text)) → IfOk r (λ n. P (take n (cond short buffer (text ++ drop (length text) buffer))))
  if-short true (Ok n) h = not_refused h
  if-short true (Err e) h = tt
  if-short false (Ok n) h = subst P (sym (take_at text (drop (length text) buffer) n (sym (same_value h)))) holds
  if-short false (Err e) h = tt

  pub front_holds : (r : Result ℕ Refusal) → answer r ≡ write_answer text buffer → IfOk r (λ n. P (take n (overwritten text buffer)))
  front_holds r h = if-short (ltb (length buffer) (length text)) r h
