-- Checksums of what a run wrote. Assumes nothing.
use Rattle.std.specs.Prelude.{ℕ, ◌*◌, ◌%◌, ◌^◌, List, bit_xor}
use Rattle.std.specs.List.{fold}
use Rattle.lattice.specs.Records.{level_record}
use Rattle.lattice.specs.declared.levels.Level.{Level}

-- the hash after a byte, from the hash before it: FNV-1a of 64 bits
abbrev pub hash_byte : ℕ → ℕ → ℕ
hash_byte hash byte = (bit_xor hash byte * 1099511628211) % 2 ^ 64

-- the hash after a level, from the hash before it: that after its record, which is two bytes, the low one first
abbrev pub hash_level : ℕ → Level → ℕ
hash_level hash x = fold hash_byte hash (level_record x)

-- the checksum of the items of the vertices and then of the edges, each hashed so: the hash after all of them, from the hash of no bytes
abbrev pub checksum_of : {T : Type 0} → (ℕ → T → ℕ) → List T → List T → ℕ
checksum_of hash_item vertices edges = fold hash_item (fold hash_item 14695981039346656037 vertices) edges
