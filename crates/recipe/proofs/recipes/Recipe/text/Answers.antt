-- What is left to show of recipes::Recipe::text.
use Rattle.std.proofs.Common.{◌≡◌, ◌<◌, [], ◌∷◌, ◌++◌, length, ap, arith, rules, length-append, append_assoc, get_or, take}
use Rattle.std.proofs.lemmas.Str.{encode_ascii}
use Rattle.std.proofs.lemmas.List.{flat_map_more, take_more}
use Rattle.std.specs.List.{between}
use Rattle.recipe.specs.Written.{spelling, spaced}
use Rattle.recipe.proofs.Placing.{room_next, first, past}
use Rattle.recipe.proofs.recipes.Recipe.text.Goals as goal

pub push-requires : goal.push-requires
push-requires c =
    let ws = c.words.result.now in
    let some : 0 < length c.words.result.now = search rules in
    let one : c.push_str.new.self.bytes ≡ c.new-text.result.bytes ++ first ws some = cc (c.push_str.ensures.bytes, c.as_str.ensures.value, c.spelling.ensures) in
    let free = room_next ws some c.words.ensures.legal c.new-text.result.bytes c.push_str.new.self.bytes c.loop-word.text.bytes c.loop-word.word-index c.new-text.ensures one c.loop-word.invariant c.loop-word-test.true in
    omega (arith, ap length (encode_ascii 32 (omega arith)))

pub push_str-requires-in-loop-word : goal.push_str-requires-in-loop-word
push_str-requires-in-loop-word c =
    let ws = c.words.result.now in
    let some : 0 < length c.words.result.now = search rules in
    let one : c.push_str.new.self.bytes ≡ c.new-text.result.bytes ++ first ws some = cc (c.push_str.ensures.bytes, c.as_str.ensures.value, c.spelling.ensures) in
    let free = room_next ws some c.words.ensures.legal c.new-text.result.bytes c.push_str.new.self.bytes c.loop-word.text.bytes c.loop-word.word-index c.new-text.ensures one c.loop-word.invariant c.loop-word-test.true in
    (omega arith, omega (arith, ap length (c.push.ensures.ascii (omega arith)), length-append c.loop-word.text.bytes (32 ∷ []), ap length c.as_str-in-loop-word.ensures.value, ap length c.spelling-in-loop-word.ensures))

pub loop-word-preserved : goal.loop-word-preserved
loop-word-preserved c =
    let rest = between 1 (length c.words.result.now) c.words.result.now in
    let i = c.loop-word.word-index in
    let w = get_or rest i past in
    cc (c.push_str-in-loop-word.ensures.bytes, c.as_str-in-loop-word.ensures.value, c.spelling-in-loop-word.ensures, c.push.ensures.ascii (omega arith), c.loop-word.invariant, append_assoc c.loop-word.text.bytes (32 ∷ []) (spelling w), flat_map_more spaced c.push_str.new.self.bytes (take i rest) w, take_more rest i past c.loop-word-test.true)
