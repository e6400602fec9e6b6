-- The bytes of segments, position by position.
use Rattle.std.proofs.Common.{◌≡◌, ◌+◌, ◌-◌, ◌≤◌, ℕ, List, [], ◌∷◌, ◌++◌, length, Option, Some, None, Bool, true, false, refl, sym, ap, arith, append_assoc, ◌∙◌, inl, inr}
use Rattle.std.specs.Prelude.{◌↔◌, nat_le, Result, Ok, Err, OnErr}
use Rattle.std.specs.Option.{option_or}
use Rattle.std.proofs.lemmas.Bool.{cases_Bool}
use Rattle.std.proofs.lemmas.Bool.Decides.{nat_tests}
use Rattle.std.proofs.lemmas.Option.{slice_get_past}
use Rattle.capture_streams.specs.Streams.{Segment, StandFrom, byte_at, byte_of, is_passed, needed}

at-most : (a b : ℕ) → nat_le a b ≡ true → a ≤ b
at-most a b h = grind (arith, nat_tests)

stays : (o a c : Option ℕ) (b : ℕ) → (a ≡ Some b → c ≡ Some b) → option_or o a ≡ Some b → option_or o c ≡ Some b
stays None a c b rest e = rest e
stays (Some x) a c b rest e = e

-- what holds anyway holds of an error
pub on-err : {T E : Type 0} (r : Result T E) (P : Type 0) → P → OnErr r P
on-err (Ok x) P p = tt
on-err (Err e) P p = p

-- what came at a position stays, whatever comes
pub byte-stays : (ss later : List Segment) (p b : ℕ) → byte_at ss p ≡ Some b → byte_at (ss ++ later) p ≡ Some b
byte-stays [] later p b h = cc h
byte-stays (s ∷ ss) later p b h = stays (byte_of s p) (byte_at ss p) (byte_at (ss ++ later) p) b (byte-stays ss later p b) h

assoc : (a b c : Option ℕ) → option_or a (option_or b c) ≡ option_or (option_or a b) c
assoc None b c = refl
assoc (Some v) b c = refl

pub byte-joined : (xs ys : List Segment) (q : ℕ) → byte_at (xs ++ ys) q ≡ option_or (byte_at xs q) (byte_at ys q)
byte-joined [] ys q = refl
byte-joined (x ∷ xs) ys q = ap (λ (o : Option ℕ). option_or (byte_of x q) o) (byte-joined xs ys q) ∙ assoc (byte_of x q) (byte_at xs q) (byte_at ys q)

-- segments that have the same byte at a position, and others after them
pub byte-same : (ss ts later : List Segment) (p : ℕ) → byte_at ss p ≡ byte_at ts p → byte_at (ss ++ later) p ≡ byte_at (ts ++ later) p
byte-same ss ts later p h = byte-joined ss later p ∙ (ap (λ (o : Option ℕ). option_or o (byte_at later p)) h ∙ sym (byte-joined ts later p))

pub stand-same : (p : ℕ) (ss ts : List Segment) (bs : List ℕ) → ((q : ℕ) → p ≤ q → byte_at ss q ≡ byte_at ts q) → StandFrom p ss bs → StandFrom p ts bs
stand-same p ss ts [] same h = tt
stand-same p ss ts (b ∷ bs) same h = (sym (same p (omega arith)) ∙ h.0, stand-same (p + 1) ss ts bs (λ q above. same q (omega arith)) h.1)

-- a state that keeps what a state before had from the next byte on
pub gives-same : (n : ℕ) (ss ts later : List Segment) (bs : List ℕ) → ((q : ℕ) → n ≤ q → byte_at ss q ≡ byte_at ts q)
    → StandFrom n (ss ++ later) bs ↔ StandFrom n (ts ++ later) bs
gives-same n ss ts later bs same = (
  stand-same n (ss ++ later) (ts ++ later) bs (λ q above. byte-same ss ts later q (same q above)),
  stand-same n (ts ++ later) (ss ++ later) bs (λ q above. byte-same ts ss later q (sym (same q above))),
)

-- a segment at the end of those that are kept, and as the first of those that come
pub gives-put : (n m : ℕ) (ss ts ws later : List Segment) (s : Segment) (bs : List ℕ) → n ≡ m → ws ≡ ss ++ s ∷ [] → ((q : ℕ) → n ≤ q → byte_at ss q ≡ byte_at ts q)
    → StandFrom m (ws ++ later) bs ↔ StandFrom n (ts ++ s ∷ later) bs
gives-put n m ss ts ws later s bs same_place is same =
    let joined : ws ++ later ≡ ss ++ (s ∷ later) = ap (λ (l : List Segment). l ++ later) is ∙ append_assoc ss (s ∷ []) later in
    rw (← same_place, joined) (gives-same n ss ts (s ∷ later) bs same)

-- the next byte, and what follows it
pub gives-next : (n : ℕ) (ss later : List Segment) (b : ℕ) (bs : List ℕ) → byte_at ss n ≡ Some b → StandFrom (n + 1) (ss ++ later) bs ↔ StandFrom n (ss ++ later) (b ∷ bs)
gives-next n ss later b bs h = (λ rest. (byte-stays ss later n b h, rest), λ whole. whole.1)

byte-passed : (s : Segment) (n p : ℕ) → s.at + length s.bytes ≤ n → n ≤ p → byte_of s p ≡ None
byte-passed s n p passed above = elim (cases_Bool (nat_le s.at p)) [
  | inl e ↦ let begun = at-most s.at p e in rw e (slice_get_past s.bytes (p - s.at) (omega arith))
  | inr e ↦ rw e refl
]

-- without the segments that are passed there is the same byte at each position from there on
pub byte-needed : (ss : List Segment) (n p : ℕ) → n ≤ p → byte_at (needed n ss) p ≡ byte_at ss p
byte-needed [] n p above = refl
byte-needed (s ∷ ss) n p above = elim (cases_Bool (is_passed n s)) [
  | inl e ↦ rw (e, byte-passed s n p (at-most (s.at + length s.bytes) n e) above) (byte-needed ss n p above)
  | inr e ↦ rw e (ap (λ (o : Option ℕ). option_or (byte_of s p) o) (byte-needed ss n p above))
]

pub same-needed : (ss ws : List Segment) (n : ℕ) → ws ≡ needed n ss → (q : ℕ) → n ≤ q → byte_at ws q ≡ byte_at ss q
same-needed ss ws n is q above = ap (λ (l : List Segment). byte_at l q) is ∙ byte-needed ss n q above
