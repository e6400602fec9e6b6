-- A page in HTML: pieces of markup, each with a text after it.
use Rattle.std.specs.Prelude.{◌++◌, ◌∷◌, ◌||◌, ℕ, Bool, List, [], codes, if◌then◌else◌, nat_eq, nat_lt}
use Rattle.std.specs.List.{flat_map}
use Rattle.std.specs.Str.Lossy.{replacement_bytes, utf8_lossy}

pub record Piece : Type 0 where
  pub markup : List ℕ
  pub text : List ℕ

-- how a byte of a text is written: a character that means something in HTML by its name (a
-- character reference of the standard), a control character as U+FFFD, and any other as it is
abbrev pub spelled : ℕ → List ℕ
spelled b =
    if nat_eq b 60 then codes "&lt;"
    else if nat_eq b 62 then codes "&gt;"
    else if nat_eq b 38 then codes "&amp;"
    else if nat_eq b 34 then codes "&quot;"
    else if nat_eq b 39 then codes "&#39;"
    else if nat_lt b 32 then replacement_bytes
    else b ∷ []

-- how a text is written: bytes that aren't UTF-8 are U+FFFD
abbrev pub escaped : List ℕ → List ℕ
escaped text = flat_map spelled (utf8_lossy text)

abbrev pub piece_written : Piece → List ℕ
piece_written p = p.markup ++ escaped p.text

-- how a page is written
abbrev pub written : List Piece → List ℕ
written pieces = flat_map piece_written pieces

-- the markup of a page alone
abbrev pub markup_of : List Piece → List ℕ
markup_of pieces = flat_map (λ (p : Piece). p.markup) pieces

-- the bytes that begin or end a tag or a quoted value: < > " '
abbrev pub is_mark : ℕ → Bool
is_mark b = nat_eq b 60 || nat_eq b 62 || nat_eq b 34 || nat_eq b 39
