-- A stream of bytes and gaps, cut into pieces: each ends at a carriage return (SIP 2.00, message protocol) or at a gap.
use Rattle.std.specs.Prelude.{◌≡◌, ◌≢◌, ℕ, Bool, List, [], ◌∷◌, ◌++◌, map, Option, Some, None, if◌then◌else◌}
use Rattle.std.specs.List.{AllByRecursion}

-- what comes: a byte, or a gap, where bytes are missing
pub data Item : Type 0 where
  Byte : (byte : ℕ) → Item
  Gap : Item

-- the bytes between two ends, and whether these ends are gaps
pub record Piece : Type 0 where
  pub bytes : List ℕ
  pub after_gap : Bool
  pub before_gap : Bool

-- the bytes since the last end, and whether that was a gap
pub record Open : Type 0 where
  pub bytes : List ℕ
  pub after_gap : Bool

abbrev pub carriage_return : ℕ
carriage_return = 13

-- no message ends within these bytes
abbrev pub HasNoEnd : List ℕ → Type 0
HasNoEnd bytes = AllByRecursion (λ b. b ≢ carriage_return) bytes

abbrev pub bytes_alone : List ℕ → List Item
bytes_alone bytes = map Byte bytes

abbrev pub end_of : Piece → Item
end_of p = if p.before_gap then Gap else Byte carriage_return

-- what came for a piece: its bytes and its end
abbrev pub written : Option Piece → List Item
written None = []
written (Some p) = bytes_alone p.bytes ++ end_of p ∷ []

-- a piece says whether a gap is before it, and what is open after it says whether it ended in one
abbrev pub IsMarked : Bool → Option Piece → Bool → Type 0
IsMarked old None new = new ≡ old
IsMarked old (Some p) new = (p.after_gap ≡ old) × (new ≡ p.before_gap)
