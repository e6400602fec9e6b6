-- Lists of keys that rise.
use Rattle.std.proofs.Common.{◌≡◌, ◌∙◌, ◌<◌, ℕ, zero, suc, [], ◌∷◌, ap, arith, get_or, length, map, take}
use Rattle.std.specs.BTreeMap.{insert_entry}
use Rattle.std.specs.List.{AllByRecursion}
use Rattle.std.specs.List.Sorted.{IsStrictlySortedBy}
use Rattle.std.specs.Ordering.{ordering_reverse}
use Rattle.std.specs.declared.cmp.Ordering.TheVariants.{Less, Greater}
use Rattle.circ_records.specs.Keys.{key_cmp, key_cmp_total}
use Rattle.circ_records.specs.Records.{Entries}
use Rattle.circ_records.specs.declared.key.Key.{Key}
use Rattle.circ_records.specs.declared.record.Record.{Record}
use Rattle.read_set.specs.Devices.Drafts.{Rise}

pub none-rise : IsStrictlySortedBy key_cmp []
unfolding IsStrictlySortedBy
none-rise = tt

pub one-rises : (k : Key) → IsStrictlySortedBy key_cmp (k ∷ [])
unfolding IsStrictlySortedBy
one-rises k = (tt, tt)

below-at : (k : Key) (es : Entries) (i : ℕ) (e : Key × Record) → AllByRecursion (λ j. key_cmp k j ≡ Less) (map (λ (x : Key × Record). x.0) es) → i < length es → e ≡ get_or es i e → key_cmp k e.0 ≡ Less
below-at k [] i e h within is = absurd (omega arith)
below-at k (x ∷ es) zero e h within is = ap (λ (y : Key × Record). key_cmp k y.0) is ∙ h.0
below-at k (x ∷ es) (suc i) e h within is = below-at k es i e h.1 (omega arith) is

-- a key above those before it goes last among them
pub goes-last : (es : Entries) (i : ℕ) (e : Key × Record) → Rise es → i < length es → e ≡ get_or es i e → insert_entry key_cmp (take i es) e.0 e.1 ≡ take (suc i) es
unfolding IsStrictlySortedBy
goes-last [] i e h within is = absurd (omega arith)
goes-last (x ∷ es) zero e h within is = ap (λ (y : Key × Record). y ∷ []) is
goes-last (x ∷ es) (suc i) e h within is =
    let above : key_cmp e.0 x.0 ≡ Greater = key_cmp_total.antisymm e.0 x.0 ∙ ap ordering_reverse (below-at x.0 es i e h.0 (omega arith) is) in
    rw above (ap (λ (l : Entries). x ∷ l) (goes-last es i e h.1 (omega arith) is))
