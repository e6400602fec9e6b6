-- Records that are copied one by one, as their keys rise.
use Rattle.std.proofs.Common.{◌≡◌, ◌∙◌, ◌+◌, ◌<◌, ◌≤◌, ℕ, Bool, true, false, cond, ◌∷◌, length, map, drop, Some, None, inl, inr, refl, sym, ap, subst}
use Rattle.std.specs.Prelude.{◌⊎◌, get_or}
use Rattle.std.specs.Cmp.{eq_by_cmp_equiv}
use Rattle.std.specs.List.Sorted.{IsStrictlySortedBy}
use Rattle.std.specs.Ordering.{eq_by_cmp}
use Rattle.std.proofs.lemmas.List.{at_drop_more, drop_all}
use Rattle.std.proofs.lemmas.Option.{slice_get-get_or}
use Rattle.std.proofs.lemmas.Map.Entries.{lookup_from_place}
use Rattle.std.proofs.lemmas.Map.Keys.{IsDistinct-from_sorted}
use Rattle.circ_records.specs.Keys.{key_cmp, key_cmp_total}
use Rattle.circ_records.specs.Records.{Entries, record_at}
use Rattle.circ_records.specs.declared.key.Key.{Key}
use Rattle.circ_records.specs.declared.record.Record.{Record}
use Rattle.read_set.proofs.Keeping.{either-way, one-key}

-- at a key the record is copied, or it is among those that are left
abbrev pub IsCopied : Entries → Entries → Entries → Key → Type 0
IsCopied all left records k = (record_at records k ≡ record_at all k) ⊎ ((record_at records k ≡ None) × (record_at left k ≡ record_at all k))

at_key : (all left old new : Entries) (e : Key × Record) (k : Key) (ties : Bool) → eq_by_cmp key_cmp e.0 k ≡ ties → record_at all e.0 ≡ Some e.1
    → record_at new k ≡ cond (eq_by_cmp key_cmp e.0 k) (Some e.1) (record_at old k) → IsCopied all (e ∷ left) old k → IsCopied all left new k
at_key all left old new e k true ties there put had = inl (put ∙ ap (λ b. cond b (Some e.1) (record_at old k)) ties ∙ sym there ∙ ap (record_at all) (one-key e.0 k ties))
at_key all left old new e k false ties there put (inl had) = inl (put ∙ ap (λ b. cond b (Some e.1) (record_at old k)) ties ∙ had)
at_key all left old new e k false ties there put (inr had) =
    inr (
      put ∙ ap (λ b. cond b (Some e.1) (record_at old k)) ties ∙ had.0,
      sym (ap (λ b. cond b (Some e.1) (record_at left k)) (either-way k e.0 ∙ ties)) ∙ had.1,
    )

-- one record more
pub copied_more : (all old new : Entries) (i : ℕ) (e : Key × Record) → IsStrictlySortedBy key_cmp (map (λ x. x.0) all) → i < length all → e ≡ get_or all i e
    → ((q : Key) → record_at new q ≡ cond (eq_by_cmp key_cmp e.0 q) (Some e.1) (record_at old q))
    → ((k : Key) → IsCopied all (drop i all) old k) → (k : Key) → IsCopied all (drop (i + 1) all) new k
copied_more all old new i e rising within is put had k =
    let there : record_at all e.0 ≡ Some e.1 =
    lookup_from_place (eq_by_cmp_equiv key_cmp_total) all i e.0 e.1 (IsDistinct-from_sorted key_cmp (map (λ x. x.0) all) rising) (slice_get-get_or all i e within ∙ ap (λ (x : Key × Record). Some x) (sym is)) in
    at_key all (drop (i + 1) all) old new e k (eq_by_cmp key_cmp e.0 k) refl there (put k)
    (subst (λ (es : Entries). IsCopied all es old k) (at_drop_more (λ (es : Entries). es) all i e within ∙ ap (λ (x : Key × Record). x ∷ drop (i + 1) all) (sym is)) (had k))

-- all of them
pub all_copied : (all records : Entries) (i : ℕ) → length all ≤ i → (k : Key) → IsCopied all (drop i all) records k → record_at records k ≡ record_at all k
all_copied all records i within k (inl had) = had
all_copied all records i within k (inr had) = had.0 ∙ ap (λ (es : Entries). record_at es k) (sym (drop_all i all within)) ∙ had.1
