-- Two lists that are the same, place by place, and two ids that are.
use Rattle.std.proofs.Common.{◌≡◌, ◌∙◌, ℕ, suc, ◌<◌, Bool, List, [], ◌∷◌, length, slice_get, nat_cmp, refl, sym, ap, ap₂, arith}
use Rattle.std.proofs.lemmas.Cmp.{nat_list_cmp_total}
use Rattle.std.proofs.lemmas.Option.{same_Some}
use Rattle.std.specs.Bool.{Decides}
use Rattle.std.specs.Cmp.{eq_by_cmp_equiv}
use Rattle.std.specs.Cmp.Lexicographic.{slice_cmp}
use Rattle.std.specs.FinMap.{nat_cmp-IsAntisymmetric, slice_cmp-IsAntisymmetric}
use Rattle.std.specs.Ordering.{eq_by_cmp}
use Rattle.circ_records.proofs.SameTexts.{tie}

pub same_lists : {X : Type 0} (xs ys : List X) → length xs ≡ length ys
    → ((j : ℕ) → j < length xs → slice_get xs j ≡ slice_get ys j) → xs ≡ ys
same_lists [] [] len each = refl
same_lists [] (y ∷ ys) len each = absurd (omega arith)
same_lists (x ∷ xs) [] len each = absurd (omega arith)
same_lists (x ∷ xs) (y ∷ ys) len each =
    let tails : xs ≡ ys = same_lists xs ys (omega arith) (λ j lt. each (suc j) (omega arith)) in
    ap₂ (λ a b. a ∷ b) (same_Some x y (each 0 (omega arith))) tails

-- ids of which neither goes before the other are the same
pub same-ids : (a b : List ℕ) (r : Bool) → r ≡ eq_by_cmp (slice_cmp nat_cmp) a b → Decides r (a ≡ b)
same-ids a b r is = (
  (λ h. slice_cmp-IsAntisymmetric nat_cmp-IsAntisymmetric a b (tie (slice_cmp nat_cmp a b) (sym is ∙ h))),
  λ p. is ∙ ap (λ (x : List ℕ). eq_by_cmp (slice_cmp nat_cmp) a x) (sym p) ∙ (eq_by_cmp_equiv nat_list_cmp_total).refl a,
)
