-- Variable fields: a two-character identifier and its text, closed by a bar (SIP 2.00,
-- variable-length fields).
use Rattle.std.specs.Prelude.{ℕ, Bool, ◌&&◌, ◌==◌, nat_le, List, [], ◌∷◌, length, drop, slice_index, Option, Some, None, if◌then◌else◌}
use Rattle.std.specs.List.{slice_split, list_any}
use Rattle.sip_reader.specs.Bytes as byte

-- what comes after the fixed part is cut at each bar
abbrev pub pieces : List ℕ → List (List ℕ)
pieces rest = slice_split (λ b. b == byte.bar) rest

-- the text of a piece that begins with these two bytes
abbrev pub text_after : ℕ → ℕ → List ℕ → Option (List ℕ)
text_after a b piece =
    if nat_le 2 (length piece) && ((slice_index piece 0 == a) && (slice_index piece 1 == b))
    then Some (drop 2 piece) else None

abbrev pub or_else : Option (List ℕ) → Option (List ℕ) → Option (List ℕ)
or_else None other = other
or_else (Some text) other = Some text

-- The first field of an identifier counts, others are ignored (the profile of this project).
abbrev pub field : ℕ → ℕ → List (List ℕ) → Option (List ℕ)
field a b [] = None
field a b (piece ∷ more) = or_else (text_after a b piece) (field a b more)

-- The texts of the variable fields that the rules use.
pub record Texts : Type 0 where
  -- AA
  pub patron : Option (List ℕ)
  -- AB
  pub item : Option (List ℕ)
  -- AJ
  pub title : Option (List ℕ)
  -- BI
  pub cancel : Option (List ℕ)
  -- BO
  pub agreed : Option (List ℕ)
  -- BS
  pub pickup : Option (List ℕ)
  -- BV
  pub amount : Option (List ℕ)
  -- CG
  pub fee : Option (List ℕ)
  -- CH
  pub properties : Option (List ℕ)
  -- whether a piece has one byte
  pub short : Bool

abbrev pub texts : List (List ℕ) → Texts
texts ps = record {
  patron = field byte.A byte.A ps;
  item = field byte.A byte.B ps;
  title = field byte.A byte.J ps;
  cancel = field byte.B byte.I ps;
  agreed = field byte.B byte.O ps;
  pickup = field byte.B byte.S ps;
  amount = field byte.B byte.V ps;
  fee = field byte.C byte.G ps;
  properties = field byte.C byte.H ps;
  short = list_any (λ p. length p == 1) ps;
}
