-- One side of a TCP connection, as packets were captured: segments may come late, early and again (RFC 9293, sequence numbers).
use Rattle.std.specs.Prelude.{◌≡◌, ◌+◌, ◌-◌, ◌%◌, ◌^◌, ◌≤◌, ℕ, Bool, not, nat_le, filter, List, [], ◌∷◌, ◌++◌, length, Option, Some, None, slice_get, if◌then◌else◌}
use Rattle.std.specs.Option.{option_or}

-- the position of the first byte, and the bytes
pub record Segment : Type 0 where
  pub at : ℕ
  pub bytes : List ℕ

-- the byte that a segment has at a position
abbrev pub byte_of : Segment → ℕ → Option ℕ
byte_of s p = if nat_le s.at p then slice_get s.bytes (p - s.at) else None

-- the byte at a position, by the first segment that came and has one there: what is sent again counts once
abbrev pub byte_at : List Segment → ℕ → Option ℕ
byte_at [] p = None
byte_at (s ∷ ss) p = option_or (byte_of s p) (byte_at ss p)

-- these bytes are in the segments at the positions from here on, one after the other
abbrev pub StandFrom : ℕ → List Segment → List ℕ → Type 0
StandFrom p ss [] = Unit {0}
StandFrom p ss (b ∷ bs) = (byte_at ss p ≡ Some b) × StandFrom (p + 1) ss bs

-- the position of the byte that is given next, and the segments that came and are kept, in the order in which they came
pub record Received : Type 0 where
  pub next : ℕ
  pub waiting : List Segment

-- where these segments come yet, these bytes may be given from now on
abbrev pub Gives : Received → List Segment → List ℕ → Type 0
Gives r later given = StandFrom r.next (r.waiting ++ later) given

-- all bytes of a segment lie before a position
abbrev pub is_passed : ℕ → Segment → Bool
is_passed p s = nat_le (s.at + length s.bytes) p

-- the segments that have a byte at a position or after it
abbrev pub needed : ℕ → List Segment → List Segment
needed p ss = filter (λ s. not (is_passed p s)) ss

-- of the positions of a number the one that lies nearest to another: numbers begin again at 2 ^ 32
pub record IsNear (next number p : ℕ) : Type 0 where
  pub same : p % 2 ^ 32 ≡ number
  pub above : p ≤ next + 2 ^ 31
  pub below : next ≤ p + 2 ^ 31
