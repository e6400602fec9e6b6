-- The message that a text of a log spells, for each way in which logs spell bytes.
use Rattle.std.specs.Prelude.{◌+◌, ◌-◌, ◌*◌, ◌&&◌, ℕ, suc, zero, Bool, nat_le, nat_lt, List, [], ◌∷◌, Option, Some, None, option_map, slice_get, codes, if◌then◌else◌, nat_eq}
use Rattle.std.specs.List.{starts_with}
use Rattle.std.specs.Option.{option_and_then}
use Rattle.sip_reader.specs.Bytes as byte
use Rattle.log_pairs.specs.declared.escapes.Escapes.{Escapes}
use Rattle.log_pairs.specs.declared.escapes.Escapes.TheVariants.{Bare, Backslash, Angle, Hexadecimal, Octal}

-- a byte, and how many bytes after the first its spelling has
abbrev pub Spelling : Type 0
Spelling = ℕ × ℕ

abbrev pub bare : List ℕ → Option Spelling
bare [] = None
bare (b ∷ rest) = Some (b, 0)

abbrev pub in_range : ℕ → ℕ → ℕ → Bool
in_range low high b = nat_le low b && nat_le b high

-- a hexadecimal digit, in either case
abbrev pub digit : ℕ → Option ℕ
digit b =
    if in_range byte.zero byte.nine b then Some (b - byte.zero)
    else if in_range byte.A byte.F b then Some (b - byte.A + 10)
    else if in_range byte.a byte.f b then Some (b - byte.a + 10)
    else None

abbrev pub of_digits : ℕ → Option ℕ → Option ℕ → Option Spelling
of_digits at None low = None
of_digits at (Some high) None = None
of_digits at (Some high) (Some low) = Some (16 * high + low, at + 1)

abbrev pub digit_at : Option ℕ → Option ℕ
digit_at None = None
digit_at (Some b) = digit b

-- the byte that two hexadecimal digits at a position spell
abbrev pub pair : List ℕ → ℕ → Option Spelling
pair text at = of_digits at (digit_at (slice_get text at)) (digit_at (slice_get text (at + 1)))

abbrev pub else_bare : List ℕ → Option Spelling → Option Spelling
else_bare text None = bare text
else_bare text (Some s) = Some s

abbrev pub has_front : List ℕ → List ℕ → Bool
has_front text front = starts_with nat_eq text front

-- \r, \n, \t, \\ and \x with two hexadecimal digits
abbrev pub backslash : List ℕ → Option Spelling
backslash text =
    if has_front text (codes "\\r") then Some (byte.CR, 1)
    else if has_front text (codes "\\n") then Some (byte.LF, 1)
    else if has_front text (codes "\\t") then Some (byte.tab, 1)
    else if has_front text (codes "\\\\") then Some (byte.backslash, 1)
    else if has_front text (codes "\\x") then else_bare text (pair text 2)
    else bare text

-- <CR> and <LF>
abbrev pub angle : List ℕ → Option Spelling
angle text =
    if has_front text (codes "<CR>") then Some (byte.CR, 3)
    else if has_front text (codes "<LF>") then Some (byte.LF, 3)
    else bare text

-- an octal digit: 0 to 7
abbrev pub octal_digit : ℕ → Option ℕ
octal_digit b = if in_range byte.zero (byte.zero + 7) b then Some (b - byte.zero) else None

abbrev pub octal_at : Option ℕ → Option ℕ
octal_at None = None
octal_at (Some b) = octal_digit b

abbrev pub of_octal : Option ℕ → Option ℕ → Option ℕ → Option Spelling
of_octal None middle low = None
of_octal (Some high) None low = None
of_octal (Some high) (Some middle) None = None
of_octal (Some high) (Some middle) (Some low) = if nat_lt high 4 then Some (64 * high + 8 * middle + low, 3) else None

-- the byte that the three octal digits after the first byte spell
abbrev pub triple : List ℕ → Option Spelling
triple text = of_octal (octal_at (slice_get text 1)) (octal_at (slice_get text 2)) (octal_at (slice_get text 3))

-- # with three octal digits, as rsyslog writes control characters
abbrev pub octal : List ℕ → Option Spelling
octal text = if has_front text (codes "#") then else_bare text (triple text) else bare text

abbrev pub spelled : Escapes → List ℕ → Option Spelling
spelled Bare text = bare text
spelled Backslash text = backslash text
spelled Angle text = angle text
spelled Hexadecimal text = pair text 0
spelled Octal text = octal text

-- the message of a text after this number of bytes, which belong to the spelling before
abbrev pub message_from : Escapes → ℕ → List ℕ → Option (List ℕ)
message_from e more [] = Some []
message_from e (suc more) (b ∷ rest) = message_from e more rest
message_from e zero (b ∷ rest) = option_and_then (λ (s : Spelling). option_map (λ (m : List ℕ). s.0 ∷ m) (message_from e s.1 rest)) (spelled e (b ∷ rest))

-- the message that a text spells
abbrev pub message_of : Escapes → List ℕ → Option (List ℕ)
message_of e text = message_from e 0 text
