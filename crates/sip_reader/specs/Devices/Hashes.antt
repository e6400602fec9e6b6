-- For proofs alone: the hash of an id, by which most different ids are found to differ before they
-- are compared.
use Rattle.std.specs.Prelude.{ℕ, ◌+◌, ◌*◌, ◌-◌, ◌^◌, ◌%◌, ◌/◌, ◌++◌, List, length, take, drop, replicate}
use Rattle.std.specs.Slice.Scan.{big_endian}
use Rattle.sip_reader.specs.declared.inline.TheConstants.{SPREAD}

-- the number that the first eight bytes spell, with zeros after fewer
abbrev pub eight : List ℕ → ℕ
eight bytes = big_endian 0 (take 8 (bytes ++ replicate 8 0))

-- both numbers, spread over 64 bits, and of that the upper half
abbrev pub mixed : ℕ → ℕ → ℕ
mixed first last = ((((first * SPREAD) % 2 ^ 64 + last) % 2 ^ 64) * SPREAD) % 2 ^ 64 / 4294967296

-- by the first eight bytes of an id and its last eight
unfoldable pub id_hash : List ℕ → ℕ
id_hash id = mixed (eight id) (eight (drop (length id - 8) id))
