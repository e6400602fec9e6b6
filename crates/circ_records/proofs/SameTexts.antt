-- Texts of the same bytes.
use Rattle.std.proofs.Common.{◌≡◌, ℕ, List, true, refl, ◌∙◌}
use Rattle.std.specs.Prelude.{◌==◌}
use Rattle.std.specs.Cmp.Lexicographic.{nat_list_eq_equiv, pointwise, slice_cmp}
use Rattle.std.specs.FinMap.{nat_cmp-IsAntisymmetric, slice_cmp-IsAntisymmetric}
use Rattle.std.specs.Ordering.{is_eq, nat_cmp}
use Rattle.std.specs.declared.cmp.Ordering.{Ordering}
use Rattle.std.specs.declared.cmp.Ordering.TheVariants.{Less, Equal, Greater}
use Rattle.std.proofs.lemmas.Map.Text.{is_eq-slice_cmp}
use Rattle.circ_records.specs.Texts.{is_same}

pub tie : (r : Ordering) → is_eq r ≡ true → r ≡ Equal
tie Less e = cc
tie Equal e = refl
tie Greater e = cc

-- texts of the same bytes are one
pub same-text : (a b : List ℕ) → pointwise ◌==◌ a b ≡ true → a ≡ b
same-text a b e = slice_cmp-IsAntisymmetric nat_cmp-IsAntisymmetric a b (tie _ (is_eq-slice_cmp a b ∙ e))

-- whether ids tie, and whether they are one text
pub tie-text : (a b : List ℕ) → is_eq (slice_cmp nat_cmp a b) ≡ pointwise ◌==◌ b a
tie-text a b = is_eq-slice_cmp a b ∙ nat_list_eq_equiv.symm a b

pub same-itself : (a : List ℕ) → is_same a a ≡ true
same-itself a = nat_list_eq_equiv.refl a
