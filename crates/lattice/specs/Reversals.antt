-- A kind with its order turned. Assumes nothing.
use Rattle.std.specs.Prelude.{Bool}
use Rattle.lattice.specs.Lattices.{Operations, dual, turned}
use Rattle.lattice.specs.declared.reversal.Reversed.{Reversed}

-- a value of the kind that is reversed, as a value of the reversal
abbrev pub reversal : {K : Type 0} → K → Reversed K
reversal x = record { inner = x }

-- operations on values, as operations on values of the reversal
abbrev pub wrapped : {K : Type 0} → Operations K → Operations (Reversed K)
wrapped k = record {
  lowest = reversal k.lowest;
  highest = reversal k.highest;
  join = λ x y. reversal (k.join x.inner y.inner);
  meet = λ x y. reversal (k.meet x.inner y.inner);
}

abbrev pub reversed_below : {K : Type 0} → (K → K → Type 0) → Reversed K → Reversed K → Type 0
reversed_below below x y = turned below x.inner y.inner

-- the same as a test
abbrev pub reversed_leq : {K : Type 0} → (K → K → Bool) → Reversed K → Reversed K → Bool
reversed_leq leq x y = leq y.inner x.inner

abbrev pub reversed_operations : {K : Type 0} → Operations K → Operations (Reversed K)
reversed_operations k = wrapped (dual k)
