-- What is left to show of writing::push_number.
use Rattle.std.proofs.Common.{◌/◌, ◌∷◌, [], length, decimal, ap, append_assoc, length-append, arith}
use Rattle.std.proofs.lemmas.Fmt.{decimal_step}
use Rattle.std.proofs.lemmas.Str.{encode_ascii}
use Rattle.recipe.proofs.Numbering.{digit_one, length_one, length_step}
use Rattle.recipe.proofs.writing.+push_number.Goals.{then-number-ge10, else-number-ge10}
use Rattle.recipe.proofs.writing.+push_number.Goals as goal

pub push_number-requires : goal.push_number-requires
push_number-requires t c = (omega arith, omega (arith, c.requires, length_step c.args.number c.if-number-ge10.true (omega arith)))

pub push-requires : goal.push-requires
push-requires t c =
    let n = c.args.number in
    let one = ap length (encode_ascii c.last_digit.result (omega arith)) in
    let old = c.args.text.now.bytes in
    elim c.if-number-ge10.branch [
      | then-number-ge10 w ↦ omega (arith, c.requires, ap (λ v. length v.bytes) w.text-is, ap length w.push_number.ensures, length-append old (decimal (n / 10)), length_step n w.if-number-ge10.true (omega arith))
      | else-number-ge10 w ↦ omega (arith, c.requires, ap (λ v. length v.bytes) w.text-is, length_one n (omega arith))
    ]

pub returns : goal.returns
returns t c =
    let n = c.args.number in
    let put = c.push.ensures.ascii (omega arith) in
    elim c.if-number-ge10.branch [
      | then-number-ge10 w ↦ cc (put, decimal_step n w.if-number-ge10.true (omega arith), append_assoc c.args.text.now.bytes (decimal (n / 10)) (c.last_digit.result ∷ []))
      | else-number-ge10 w ↦ cc (put, digit_one n (omega arith))
    ]
