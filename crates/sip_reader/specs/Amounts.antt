-- Amounts of money, in hundredths.
use Rattle.std.specs.Prelude.{ℕ, Bool, ◌&&◌, ◌==◌, nat_le, ◌+◌, ◌*◌, ◌/◌, ◌%◌, List, ◌++◌, length, take, drop, slice_index, Option, Some, None, decimal, codes, if◌then◌else◌}
use Rattle.std.specs.Char.{is_ascii_digit, digit_value}
use Rattle.std.specs.List.{list_all, prefix_len}
use Rattle.std.specs.Option.{option_map}
use Rattle.std.specs.Str.Parse.{digits_value}
use Rattle.sip_reader.specs.Bytes as byte

-- what comes after the whole digits: nothing, or a point and one digit, which is tenths, or two
abbrev pub is_fraction : List ℕ → Bool
is_fraction f =
    nat_le 2 (length f) && (nat_le (length f) 3
    && ((slice_index f 0 == byte.point) && list_all is_ascii_digit (drop 1 f)))

-- the hundredths that it says
abbrev pub fraction_of : List ℕ → Option ℕ
fraction_of f =
    if length f == 0 then Some 0
    else if is_fraction f then Some
    (if length f == 2 then digit_value (slice_index f 1) * 10
    else digit_value (slice_index f 1) * 10 + digit_value (slice_index f 2))
    else None

-- how many digits a text begins with
abbrev pub whole_len : List ℕ → ℕ
whole_len text = prefix_len is_ascii_digit text

-- The hundredths of an amount, which is 1 to 9 digits, then optionally a point and one or two
-- digits (the profile of this project).
unfoldable pub amount_of : List ℕ → Option ℕ
amount_of text =
    if nat_le 1 (whole_len text) && nat_le (whole_len text) 9
    then option_map (λ h. digits_value 10 (take (whole_len text) text) * 100 + h)
    (fraction_of (drop (whole_len text) text))
    else None

-- An amount is written with at least one digit before the point and two after it (the profile of
-- this project).
unfoldable pub amount_text : ℕ → List ℕ
amount_text n = decimal (n / 100) ++ codes "." ++ decimal (n / 10 % 10) ++ decimal (n % 10)
