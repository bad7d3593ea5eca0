-- The words of a recipe, put one after another.
use Rattle.std.proofs.Common.{◌≡◌, ℕ, zero, suc, ◌+◌, ◌<◌, ◌≤◌, ltb, List, [], ◌∷◌, ◌++◌, length, get_or, take, drop, set, sym, ap, ◌∙◌, append_assoc, add-zero, zero-add, arith, length-append, length-drop, take-append-drop}
use Rattle.std.proofs.lemmas.List.{flat_map_more, set_split, take_more, take_at, drop_at, length-take-le, drop-drop}
use Rattle.std.proofs.lemmas.List.Folds.{length-flat_map-take}
use Rattle.std.proofs.lemmas.Slice.{first_rest}
use Rattle.std.proofs.lemmas.Bool.{cond-false, le-ltb}
use Rattle.std.specs.List.{between, flat_map}
use Rattle.refusal.specs.Reports.{accepted}
use Rattle.filters.specs.declared.families.Family.TheVariants.{Dilation}
use Rattle.recipe.specs.declared.words.Word.{Word}
use Rattle.recipe.specs.Legal.{Legal}
use Rattle.recipe.specs.Shapes.{step_of}
use Rattle.recipe.specs.Written.{spelling, spaced, written, write_answer, overwritten, placed}
use Rattle.recipe.proofs.RoundTrip.{short_written}

-- bytes put over others leave the length
pub length_placed : (bytes : List ℕ) (at : ℕ) (put : List ℕ) → at + length put ≤ length bytes → length (placed bytes at put) ≡ length bytes
length_placed bytes at put h =
    omega (arith, length-append (take at bytes) (put ++ drop (at + length put) bytes), length-append put (drop (at + length put) bytes), length-take-le at bytes (omega arith), length-drop (at + length put) bytes)

-- bytes put at a place, and then others right after them
pub placed_more : (bytes : List ℕ) (at : ℕ) (put more : List ℕ) → at + length put + length more ≤ length bytes → placed (placed bytes at put) (at + length put) more ≡ placed bytes at (put ++ more)
placed_more bytes at put more h =
    let front : List ℕ = take at bytes ++ put in
    let back : List ℕ = drop (at + length put) bytes in
    let split : placed bytes at put ≡ front ++ back = sym (append_assoc (take at bytes) put back) in
    let long : length front ≡ at + length put = length-append (take at bytes) put ∙ ap (λ n. n + length put) (length-take-le at bytes (omega arith)) in
    ap (λ l. take (at + length put) l ++ (more ++ drop (at + length put + length more) l)) split
    ∙ ap (λ l. l ++ (more ++ drop (at + length put + length more) (front ++ back))) (take_at front back (at + length put) long)
    ∙ ap (λ l. front ++ (more ++ l)) (sym (drop-drop (length more) (at + length put) (front ++ back)) ∙ ap (drop (length more)) (drop_at front back (at + length put) long) ∙ drop-drop (length more) (at + length put) bytes)
    ∙ append_assoc (take at bytes) put (more ++ drop (at + length put + length more) bytes)
    ∙ ap (λ l. take at bytes ++ l) (sym (append_assoc put more (drop (at + length put + length more) bytes)))
    ∙ ap (λ n. take at bytes ++ ((put ++ more) ++ drop n bytes)) (omega (arith, length-append put more))

-- one byte
pub placed_byte : (bytes : List ℕ) (at b : ℕ) → at < length bytes → set bytes at b ≡ placed bytes at (b ∷ [])
placed_byte bytes at b h = set_split bytes at b h ∙ ap (λ n. take at bytes ++ b ∷ drop n bytes) {x = suc at} {y = at + 1} (omega arith)

-- the same of buffers
pub placed_then : (buffer mid last : List ℕ) (at next : ℕ) (put more : List ℕ) → mid ≡ placed buffer at put → next ≡ at + length put → last ≡ placed mid next more → at + length put + length more ≤ length buffer → last ≡ placed buffer at (put ++ more)
placed_then buffer mid last at next put more first is second completes = second ∙ (λ i. placed (first i) (is i) more) ∙ placed_more buffer at put more completes

pub placed_none : (bytes : List ℕ) (at : ℕ) → bytes ≡ placed bytes at []
placed_none bytes at = sym (ap (λ n. take at bytes ++ drop n bytes) (add-zero at) ∙ take-append-drop at bytes)

-- one word more after a space
pub joined_next : (ws : List Word) (i : ℕ) (d : Word) → i < length ws → flat_map spaced (take (i + 1) ws) ≡ flat_map spaced (take i ws) ++ spaced (get_or ws i d)
joined_next ws i d h = ap (flat_map spaced) (take_more ws i d h) ∙ sym (flat_map_more spaced [] (take i ws) (get_or ws i d))

pub joined_within : (n : ℕ) (ws : List Word) → length (flat_map spaced (take n ws)) ≤ length (flat_map spaced ws)
joined_within zero ws = omega arith
joined_within (suc n) [] = omega arith
joined_within (suc n) (w ∷ ws) = omega (arith, joined_within n ws, length-append (spaced w) (flat_map spaced (take n ws)), length-append (spaced w) (flat_map spaced ws))

pub length_next : (ws : List Word) (i : ℕ) (d : Word) → i < length ws → length (flat_map spaced (take (i + 1) ws)) ≡ length (flat_map spaced (take i ws)) + length (spaced (get_or ws i d))
length_next ws i d h = ap length (joined_next ws i d h) ∙ length-append (flat_map spaced (take i ws)) (spaced (get_or ws i d))

-- what a read of a word past the end would give
abbrev pub past : Word
past = step_of Dilation 0

-- a text by its first word and the others
module _ (ws : List Word) (some : 0 < length ws) where
  abbrev pub first : List ℕ
  first = spelling (get_or ws 0 past)

  abbrev pub others : List ℕ
  others = flat_map spaced (between 1 (length ws) ws)

  pub written_first : written ws ≡ first ++ others
  written_first = ap written (first_rest ws past some)

  pub length_written : length (written ws) ≡ length first + length others
  length_written = ap length written_first ∙ length-append first others

  module _ (buffer : List ℕ) (completes : length (written ws) ≤ length buffer) where
    pub whole_answer : write_answer (written ws) buffer ≡ accepted (length (written ws))
    whole_answer = cond-false (ltb (length buffer) (length (written ws))) _ _ (le-ltb _ _ completes)

    pub whole_buffer : placed (placed buffer 0 first) (0 + length first) others ≡ overwritten (written ws) buffer
    whole_buffer =
        placed_more buffer 0 first others (omega (arith, length_written))
        ∙ ap (placed buffer 0) (sym written_first)
        ∙ ap (λ n. written ws ++ drop n buffer) (zero-add (length (written ws)))
        ∙ sym (cond-false (ltb (length buffer) (length (written ws))) _ _ (le-ltb _ _ completes))

  -- the text of a recipe has room
  room : Legal ws → length first + length others ≤ 480
  room legal = omega (arith, legal.few, short_written ws legal.sizes, ap length written_first, length-append first others)

  -- and so it has for one more word, after the first and some of the others
  pub room_next : Legal ws → (none one text : List ℕ) (i : ℕ) → none ≡ [] → one ≡ none ++ first → text ≡ one ++ flat_map spaced (take i (between 1 (length ws) ws)) → i < length (between 1 (length ws) ws) → length text + length (spaced (get_or (between 1 (length ws) ws) i past)) ≤ 480
  room_next legal none one text i begins begun is here =
      let rest : List Word = between 1 (length ws) ws in
      omega (arith, room legal, ap length begins, ap length begun, ap length is, length-append none first, length-append one (flat_map spaced (take i rest)), length-flat_map-take spaced rest i past here)
