-- Sets of positions that lose some.
use Rattle.std.proofs.Common.{◌≡◌, ℕ, ◌<◌, ◌≤◌, Bool, true, false, cond, ◌||◌, List, length, set, get_or, refl, sym, ap, ap₂, subst, ◌∙◌, inl, inr, arith, length-set, get_or-set_same, get_or-set_other, sum_by}
use Rattle.std.proofs.lemmas.Bool.{cases_eq}
use Rattle.std.proofs.lemmas.List.{get_or_past}
use Rattle.std.proofs.lemmas.Bool.{cases_lt}
use Rattle.std.proofs.lemmas.List.Sums.{sum_by-set}
use Rattle.speculate.specs.Marks.{has_position, GoesOver}

abbrev pub bit : Bool → ℕ
bit b = cond b 1 0

-- how many positions are in a set
abbrev pub size : List Bool → ℕ
size flags = sum_by bit flags

-- a position of a set is below its length
pub position_within : (flags : List Bool) (p : ℕ) → has_position flags p ≡ true → p < length flags
position_within flags p h = elim (cases_lt p (length flags)) [
  | inl lt ↦ lt
  | inr ge ↦ absurd (let e : false ≡ true = sym (get_or_past flags p false ge) ∙ h in cc)
]

pub smaller : (flags : List Bool) (p : ℕ) → has_position flags p ≡ true → size (set flags p false) < size flags
smaller flags p h =
    let s = sum_by-set bit flags p false false (position_within flags p h) in
    let one : bit (get_or flags p false) ≡ 1 = ap bit h in
    omega (arith, s, one)

-- ---- what is in the first set goes over to the second, so far
pub record GoesPart (first second first_new second_new : List Bool) (from : ℕ) : Type 0 where
  pub both : (q : ℕ) → from ≤ q → (has_position first_new q || has_position second_new q) ≡ (has_position first q || has_position second q)
  pub first_before : (q : ℕ) → q < from → has_position first_new q ≡ has_position first q
  pub second_before : (q : ℕ) → q < from → has_position second_new q ≡ has_position second q
  pub first_len : length first_new ≡ length first
  pub second_len : length second_new ≡ length second

pub goes_none : (first second : List Bool) (from : ℕ) → GoesPart first second first second from
goes_none first second from = record {
  both = λ q le. refl;
  first_before = λ q lt. refl;
  second_before = λ q lt. refl;
  first_len = refl;
  second_len = refl;
}

or_true : (b : Bool) → (b || true) ≡ true
or_true true = refl
or_true false = refl

true_or : (a b : Bool) → a ≡ true → (a || b) ≡ true
true_or a b h = ap (λ x. x || b) h

pub goes_more : (first second first_new second_new : List Bool) (from p : ℕ) → length first ≡ length second → GoesPart first second first_new second_new from → from ≤ p → has_position first_new p ≡ true
    → GoesPart first second (set first_new p false) (set second_new p true) from
goes_more first second first_new second_new from p same part le has =
    let within : p < length first_new = position_within first_new p has in
    record {
      both = λ q le2. elim (cases_eq q p) [
        | inl e ↦ subst (λ x. (has_position (set first_new p false) x || has_position (set second_new p true) x) ≡ (has_position first x || has_position second x)) (sym e)
            (ap₂ (λ x y. x || y) (get_or-set_same first_new p false false within) (get_or-set_same second_new p true false (omega (arith, within, part.first_len, part.second_len, same)))
            ∙ sym (true_or (has_position first_new p) (has_position second_new p) has)
            ∙ part.both p le)
        | inr ne ↦ ap₂ (λ x y. x || y) (get_or-set_other first_new p q false false ne) (get_or-set_other second_new p q true false ne) ∙ part.both q le2
      ];
      first_before = λ q lt. get_or-set_other first_new p q false false (λ e. omega (arith, e, lt, le)) ∙ part.first_before q lt;
      second_before = λ q lt. get_or-set_other second_new p q true false (λ e. omega (arith, e, lt, le)) ∙ part.second_before q lt;
      first_len = length-set first_new p false ∙ part.first_len;
      second_len = length-set second_new p true ∙ part.second_len;
    }

pub goes_over : (first second first_new second_new : List Bool) (from : ℕ) → GoesPart first second first_new second_new from → ((q : ℕ) → from ≤ q → has_position first_new q ≡ false)
    → GoesOver first second first_new second_new from
goes_over first second first_new second_new from part none = record {
  out = none;
  moved = λ q le. sym (ap (λ x. x || has_position second_new q) (none q le)) ∙ part.both q le;
  first_before = part.first_before;
  second_before = part.second_before;
  first_len = part.first_len;
  second_len = part.second_len;
}

-- ---- a set loses what it has from a position on, so far
pub record OutPart (old new : List Bool) (from : ℕ) : Type 0 where
  pub before : (q : ℕ) → q < from → has_position new q ≡ has_position old q
  pub len : length new ≡ length old

pub out_more : (old new : List Bool) (from p : ℕ) → OutPart old new from → from ≤ p → OutPart old (set new p false) from
out_more old new from p part le = record {
  before = λ q lt. get_or-set_other new p q false false (λ e. omega (arith, e, lt, le)) ∙ part.before q lt;
  len = length-set new p false ∙ part.len;
}
