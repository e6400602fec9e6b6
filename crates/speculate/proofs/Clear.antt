-- A tree over no flag that is set.
use Rattle.std.proofs.Common.{◌≡◌, ℕ, ◌+◌, ◌-◌, ◌*◌, Bool, true, false, ◌||◌, length, get_or, replicate, sym, ap₂, ◌∙◌, inl, inr, arith}
use Rattle.std.specs.Prelude.{if◌then◌else◌, nat_lt}
use Rattle.std.proofs.lemmas.Bool.{cases_lt}
use Rattle.std.proofs.lemmas.List.{get_or-replicate, get_or_past, length-replicate}
use Rattle.speculate.specs.Trees.{node_at, joined}

clear : (n i : ℕ) → get_or (replicate n false) i false ≡ false
clear n i = elim (cases_lt i n) [
  | inl lt ↦ get_or-replicate n i false false lt
  | inr le ↦ get_or_past (replicate n false) i false (omega (arith, le, length-replicate n false))
]

either : (b x y : Bool) → x ≡ false → y ≡ false → (if b then x else y) ≡ false
either true x y h g = h
either false x y h g = g

clear-at : (len width i : ℕ) → node_at (replicate len false) (replicate width false) i ≡ false
clear-at len width i = either (nat_lt i (length (replicate width false))) _ _ (clear width i) (clear len (i - length (replicate width false)))

-- where no flag is set, no node is
pub clear_joined : (len width i : ℕ) → get_or (replicate width false) i false ≡ joined (replicate len false) (replicate width false) i
clear_joined len width i = clear width i ∙ sym (ap₂ (λ a b. a || b) (clear-at len width (2 * i)) (clear-at len width (2 * i + 1)))
