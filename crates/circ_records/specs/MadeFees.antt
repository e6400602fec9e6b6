-- The ids of fees that a line of the journal may make: R, the number of the line, a dash, and how
-- many fees the line made before.
use Rattle.std.specs.Prelude.{ℕ, Bool, false, ◌&&◌, ◌==◌, nat_le, List, length, slice_index, take, drop, Option, Some, None, if◌then◌else◌}
use Rattle.sip_reader.specs.Amounts.{whole_len}
use Rattle.sip_reader.specs.Bytes as byte
use Rattle.circ_records.specs.Texts.{decimal_of, is_decimal}

-- a dash and a number of 1 to 20 digits, without leading zeros
unfoldable pub is_count : List ℕ → Bool
is_count text =
    nat_le 1 (length text) && ((slice_index text 0 == byte.hyphen) && is_decimal 20 (drop 1 text))

-- the number before such a count: 1 to 10 digits, without leading zeros
unfoldable pub line_before : List ℕ → Option ℕ
line_before text =
    if is_count (drop (whole_len text) text) then decimal_of 10 (take (whole_len text) text)
    else None

-- the number of the line that may make a fee of this id
unfoldable pub line_of : List ℕ → Option ℕ
line_of id =
    if nat_le 1 (length id) && (slice_index id 0 == byte.R) then line_before (drop 1 id) else None

abbrev pub is_from : ℕ → Option ℕ → Bool
is_from first None = false
is_from first (Some line) = nat_le first line

-- whether a line from this number on may make a fee of this id
abbrev pub may_be_made : ℕ → List ℕ → Bool
may_be_made first id = is_from first (line_of id)

-- the same where a journal begins with this number, or has no line
abbrev pub is_taken : Option ℕ → List ℕ → Bool
is_taken None id = false
is_taken (Some first) id = may_be_made first id
