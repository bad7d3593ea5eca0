use Rattle.std.proofs.Common.{rules, arith, ◌≡◌, ◌≤◌, length, codes, string_bytes, inl, inr, ⊎_elim}
use Rattle.measuring.specs.Words.{GridWords, RandomWords}
use Rattle.measuring.proofs.Naming.{grid_named, random_named, grid_few, grid_said, random_few, random_said}
use Rattle.measuring.proofs.words.parse_mesh.Goals as goal
use Rattle.measuring.proofs.words.parse_mesh.Goals.{in_default-via-then-words-lt3, in_default-via-in-len3-up+else-eq+then-words-lt4, in_default-via-in-len4-up+else-eq-2}

pub returns-in_ok-parse_grid-in-len3-up : goal.returns-in_ok-parse_grid-in-len3-up
returns-in_ok-parse_grid-in-len3-up c =
    let named : string_bytes c.kind-item.result ≡ codes "grid" = search rules in
    let said : GridWords (string_bytes c.width-item.result) (string_bytes c.height-item.result) c.in_ok-parse_grid-in-len3-up.field-0 = search rules in
    inl (grid_named c.args.words.now c.kind-item.result c.width-item.result c.height-item.result c.in_ok-parse_grid-in-len3-up.field-0 (omega arith) c.kind-item.is c.width-item.is c.height-item.is named said)

pub returns-in_ok-parse_random-in-len4-up : goal.returns-in_ok-parse_random-in-len4-up
returns-in_ok-parse_random-in-len4-up c =
    let named : string_bytes c.kind-item-2.result ≡ codes "random" = search rules in
    let said : RandomWords (string_bytes c.n-item.result) (string_bytes c.m-item.result) (string_bytes c.seed-item.result) c.in_ok-parse_random-in-len4-up.field-0 = search rules in
    inr (random_named c.args.words.now c.kind-item-2.result c.n-item.result c.m-item.result c.seed-item.result c.in_ok-parse_random-in-len4-up.field-0 (omega arith) c.kind-item-2.is c.n-item.is c.m-item.is c.seed-item.is named said)

pub returns-in_default : goal.returns-in_default
returns-in_default c x = elim c.in_default.branch [
  | in_default-via-then-words-lt3 w ↦ ⊎_elim
      (λ g. let few : 3 ≤ length c.args.words.now = (grid_few c.args.words.now x.0 x.1.now g) in search rules)
      (λ r. let few : 4 ≤ length c.args.words.now = (random_few c.args.words.now x.0 x.1.now r) in search rules)
  | in_default-via-in-len3-up+else-eq+then-words-lt4 w ↦ ⊎_elim
      (λ g. let named = (grid_said c.args.words.now x.0 x.1.now w.kind-item.result g) in search rules)
      (λ r. let few : 4 ≤ length c.args.words.now = (random_few c.args.words.now x.0 x.1.now r) in search rules)
  | in_default-via-in-len4-up+else-eq-2 w ↦ ⊎_elim
      (λ g. let named = (grid_said c.args.words.now x.0 x.1.now w.kind-item.result g) in search rules)
      (λ r. let named = (random_said c.args.words.now x.0 x.1.now w.kind-item-2.result r) in search rules)
]
