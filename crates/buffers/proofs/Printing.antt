-- One weight more is printed.
use Rattle.std.proofs.Common.{◌≡◌, ℕ, ◌+◌, ◌<◌, List, [], ◌∷◌, ◌++◌, length, take, get_or, sym, refl, ap, ◌∙◌, subst}
use Rattle.std.specs.Prelude.{Option, None, Some, Ok}
use Rattle.std.specs.Option.{IfSome}
use Rattle.std.specs.Fmt.{IsPlainFormatter, HasWritten, DisplaysOnOk, ◌++?◌, option_append}
use Rattle.std.specs.declared.fmt.Formatter.{Formatter}
use Rattle.std.proofs.lemmas.List.{take_more, append_assoc, append-nil}
use Rattle.std.proofs.lemmas.Grind.{put_two}
use Rattle.buffers.specs.Lines.{spaced}

empty_after : (o : Option (List ℕ)) → option_append (Some []) o ≡ option_append o (Some [])
empty_after None = refl
empty_after (Some a) = ap Some (sym (append-nil a))

grouped : (o p q : Option (List ℕ)) → option_append (option_append o p) q ≡ option_append o (option_append p q)
grouped None p q = refl
grouped (Some a) None q = refl
grouped (Some a) (Some b) None = refl
grouped (Some a) (Some b) (Some c) = ap Some (append_assoc a b c)

spaced_more : {K : Type 0} (text : K → Option (List ℕ)) (xs : List K) (x : K) → spaced text (xs ++ x ∷ []) ≡ spaced text xs ++? (Some (32 ∷ []) ++? text x)
spaced_more text [] x = sym (empty_after _)
spaced_more text (y ∷ xs) x = ap (λ o. option_append (option_append (Some (32 ∷ [])) (text y)) o) (spaced_more text xs x) ∙ sym (grouped _ _ _)

both_written : {W : Type 0} (took : W → List ℕ → W → Type 0) (f g h : Formatter W) (o p : Option (List ℕ)) → IfSome o (λ bs. HasWritten took f bs g) → (IsPlainFormatter g → IfSome p (λ bs. HasWritten took g bs h)) → IfSome (option_append o p) (λ bs. HasWritten took f bs h)
both_written took f g h None p a b = tt
both_written took f g h (Some x) None a b = tt
both_written took f g h (Some x) (Some y) a b = put_two took f g h x y (x ++ y) a (b a.plain) refl

pub where_known : {W : Type 0} (took : W → List ℕ → W → Type 0) (f g : Formatter W) (o : Option (List ℕ)) (u : Unit {0}) → DisplaysOnOk took f (Ok u) o g → IsPlainFormatter f → IfSome o (λ bs. HasWritten took f bs g)
where_known took f g None u writes plain = tt
where_known took f g (Some bs) u writes plain = writes plain refl

pub weight_written : {K W : Type 0} (took : W → List ℕ → W → Type 0) (text : K → Option (List ℕ)) (f g h : Formatter W) (xs : List K) (k : ℕ) (x : K) → k < length xs → x ≡ get_or xs k x → IfSome (spaced text (take k xs)) (λ bs. HasWritten took f bs g) → (IsPlainFormatter g → IfSome (option_append (Some (32 ∷ [])) (text x)) (λ bs. HasWritten took g bs h)) → IfSome (spaced text (take (k + 1) xs)) (λ bs. HasWritten took f bs h)
weight_written took text f g h xs k x low is a b =
    subst (λ o. IfSome o (λ bs. HasWritten took f bs h)) (sym (ap (spaced text) (take_more xs k x low ∙ ap (λ y. take k xs ++ y ∷ []) (sym is)) ∙ spaced_more text (take k xs) x))
    (both_written took f g h (spaced text (take k xs)) _ a b)
