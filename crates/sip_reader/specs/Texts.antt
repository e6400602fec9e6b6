use Rattle.std.specs.Prelude.{ℕ, Bool, ◌||◌, ◌&&◌, ◌==◌, ◌++◌, not, nat_le, List, length, codes, decimal}
use Rattle.std.specs.List.{list_any}
use Rattle.sip_reader.specs.Bytes as byte
use Rattle.sip_reader.specs.declared.id.TheConstants.{ID_MAX}
use Rattle.sip_reader.specs.declared.text.TheConstants.{TEXT_MAX}

-- a byte that ends a line: CR or LF
abbrev pub is_line_end : ℕ → Bool
is_line_end b = (b == byte.CR) || (b == byte.LF)

-- a byte that no id and no text has: a bar, CR or LF
abbrev pub is_barred : ℕ → Bool
is_barred b = (b == byte.bar) || is_line_end b

-- 1 to 64 bytes without a bar, CR or LF
unfoldable pub is_id : List ℕ → Bool
is_id bytes =
    nat_le 1 (length bytes) && (nat_le (length bytes) ID_MAX && not (list_any is_barred bytes))

-- at most 1,024 bytes without a bar, CR or LF
unfoldable pub is_text : List ℕ → Bool
is_text bytes = nat_le (length bytes) TEXT_MAX && not (list_any is_barred bytes)

-- the greatest number of a line of the journal, of ten digits, and the number after it (the profile
-- of this project)
abbrev pub line_number_max : ℕ
line_number_max = 9999999999

abbrev pub line_number_end : ℕ
line_number_end = 10000000000

-- the id of a fee that a line of the journal makes: R, the number of the line, and how many fees
-- the line made before (the profile of this project)
unfoldable pub fee_id : ℕ → ℕ → List ℕ
fee_id line k = codes "R" ++ decimal line ++ codes "-" ++ decimal k
