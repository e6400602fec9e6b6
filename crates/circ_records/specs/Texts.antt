-- Whether two texts are the same, and which number the digits of a text spell.
use Rattle.std.specs.Prelude.{ℕ, Bool, not, ◌&&◌, ◌==◌, nat_le, List, length, slice_index, Option, Some, None, if◌then◌else◌}
use Rattle.std.specs.Char.{is_ascii_digit}
use Rattle.std.specs.Cmp.Lexicographic.{pointwise}
use Rattle.std.specs.List.{list_all}
use Rattle.std.specs.Str.Parse.{digits_value}
use Rattle.sip_reader.specs.Bytes as byte

-- whether two texts have the same bytes
abbrev pub is_same : List ℕ → List ℕ → Bool
is_same = pointwise ◌==◌

abbrev pub has_leading_zero : List ℕ → Bool
has_leading_zero text = nat_le 2 (length text) && (slice_index text 0 == byte.zero)

-- at least one digit and at most the given number of them, without leading zeros
unfoldable pub is_decimal : ℕ → List ℕ → Bool
is_decimal most text =
    nat_le 1 (length text) && (nat_le (length text) most
    && (list_all is_ascii_digit text && not (has_leading_zero text)))

-- the number that they spell
unfoldable pub decimal_of : ℕ → List ℕ → Option ℕ
decimal_of most text = if is_decimal most text then Some (digits_value 10 text) else None
