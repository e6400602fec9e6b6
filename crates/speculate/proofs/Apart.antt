-- A set of which one position is held apart from the tree.
use Rattle.std.proofs.Common.{◌≡◌, ℕ, Bool, true, false, List, set, Option, Some, None, refl, sym, ap, ◌∙◌, inl, inr}
use Rattle.std.specs.Option.{option_eq}
use Rattle.std.specs.Prelude.{nat_eq}
use Rattle.std.proofs.lemmas.Bool.{cases_eq, eqb-true, eqb-false}
use Rattle.std.proofs.lemmas.List.{set_comm, set-get_or, set-set}
use Rattle.speculate.specs.Devices.Apart.{with_apart, IsApart}

-- another position is put into the tree
pub put_beside : (flags : List Bool) (apart : Option ℕ) (n : ℕ) → with_apart (set flags n true) apart ≡ set (with_apart flags apart) n true
put_beside flags None n = refl
put_beside flags (Some p) n = elim (cases_eq n p) [
  | inl e ↦ rw e refl
  | inr other ↦ set_comm flags n p true true other
]

-- the position held apart is taken out
pub taken_apart : (flags : List Bool) (apart : Option ℕ) (n : ℕ) → option_eq nat_eq apart (Some n) ≡ true → IsApart flags apart → flags ≡ set (with_apart flags apart) n false
taken_apart flags None n e is = cc e
taken_apart flags (Some p) n e is =
    rw (← eqb-true p n e) (sym (set-set flags p true false ∙ ap (set flags p) (sym is.1) ∙ set-get_or flags p false))

-- another position is taken out of the tree
pub taken_beside : (flags : List Bool) (apart : Option ℕ) (n : ℕ) → option_eq nat_eq apart (Some n) ≡ false → with_apart (set flags n false) apart ≡ set (with_apart flags apart) n false
taken_beside flags None n e = refl
taken_beside flags (Some p) n e = set_comm flags n p false true (λ same. eqb-false p n e (sym same))
