-- The position of a key among one or two entries.
use Rattle.std.proofs.Common.{◌≡◌, ◌<◌, ◌≤◌, ℕ, zero, suc, [], ◌∷◌, Less, Equal, Greater, get_or, arith, refl, subst}
use Rattle.std.specs.Ordering.{ordering_index}
use Rattle.std.specs.declared.cmp.Ordering.{Ordering}
use Rattle.circ_records.specs.Keys.{key_cmp, key_cmp-IsAntisymmetric}
use Rattle.circ_records.specs.declared.key.Key.{Key}
use Rattle.version_store.specs.Devices.Positions.{IsAt, IsGap, Rise}
use Rattle.version_store.proofs.Positions.{searchable}

module _ {X : Type 0} (k l q : Key) (x y : X) where
  pub at_one : key_cmp k q ≡ Equal → IsAt ((k, x) ∷ []) q 0
  at_one e = record { within = omega arith; same = λ d. key_cmp-IsAntisymmetric k q e }

  pub at_first : key_cmp k q ≡ Equal → IsAt ((k, x) ∷ (l, y) ∷ []) q 0
  at_first e = record { within = omega arith; same = λ d. key_cmp-IsAntisymmetric k q e }

  pub at_second : key_cmp l q ≡ Equal → IsAt ((k, x) ∷ (l, y) ∷ []) q 1
  at_second e = record { within = omega arith; same = λ d. key_cmp-IsAntisymmetric l q e }

  -- after the first entry, which is greater, there is none that isn't
  greater : Rise ((k, x) ∷ (l, y) ∷ []) → key_cmp k q ≡ Greater → key_cmp l q ≡ Greater
  greater rise above = greatest (key_cmp l q) (subst (λ o. ordering_index o ≤ ordering_index (key_cmp l q)) above (searchable ((k, x) ∷ (l, y) ∷ []) rise q 0 1 (k, x) (omega arith) (omega arith)))
    where
      greatest : (o : Ordering) → ordering_index Greater ≤ ordering_index o → o ≡ Greater
      greatest Less le = absurd (omega (arith, le))
      greatest Equal le = absurd (omega (arith, le))
      greatest Greater le = refl

  pub gap_first : Rise ((k, x) ∷ (l, y) ∷ []) → key_cmp k q ≡ Greater → IsGap ((k, x) ∷ (l, y) ∷ []) q 0
  gap_first rise above = record { within = omega arith; below = λ j d lt. absurd (omega (arith, lt)); above = from }
    where
      from : (j : ℕ) (d : Key × X) → 0 ≤ j → j < 2 → key_cmp (get_or ((k, x) ∷ (l, y) ∷ []) j d).0 q ≡ Greater
      from zero d le within = above
      from (suc zero) d le within = greater rise above
      from (suc (suc j)) d le within = absurd (omega (arith, within))

  pub gap_second : key_cmp k q ≡ Less → key_cmp l q ≡ Greater → IsGap ((k, x) ∷ (l, y) ∷ []) q 1
  gap_second below above = record { within = omega arith; below = before; above = from }
    where
      before : (j : ℕ) (d : Key × X) → j < 1 → key_cmp (get_or ((k, x) ∷ (l, y) ∷ []) j d).0 q ≡ Less
      before zero d lt = below
      before (suc j) d lt = absurd (omega (arith, lt))

      from : (j : ℕ) (d : Key × X) → 1 ≤ j → j < 2 → key_cmp (get_or ((k, x) ∷ (l, y) ∷ []) j d).0 q ≡ Greater
      from zero d le within = absurd (omega (arith, le))
      from (suc zero) d le within = above
      from (suc (suc j)) d le within = absurd (omega (arith, within))
