-- Numbers as a journal spells them.
use Rattle.std.specs.Prelude.{ℕ, List, [], ◌∷◌, Option, Some, None, length, ◌&&◌, nat_le, if◌then◌else◌}
use Rattle.std.specs.Str.{all_ascii_digits}
use Rattle.std.specs.Str.Parse.{digits_value}
use Rattle.sip_reader.specs.Bytes as byte

-- Rule number: decimal without leading zeros, 1 to 9,999,999,999: one to ten digits, of which the
-- first is no zero.
abbrev pub number_of : List ℕ → Option ℕ
number_of [] = None
number_of (first ∷ rest) =
    if nat_le byte.one first && all_ascii_digits (first ∷ rest) && nat_le (length rest) 9
    then Some (digits_value 10 (first ∷ rest)) else None
