-- A map in which one record was changed.
use Rattle.std.proofs.Common.{◌≡◌, Bool, true, false, cond, Option, Some, refl, ap, ◌∙◌}
use Rattle.std.specs.Prelude.{IsSome, OnErr, Result, Ok, Err, option_map}
use Rattle.std.specs.Ordering.{eq_by_cmp}
use Rattle.circ_records.specs.Changes.{IsChanged, changed}
use Rattle.circ_records.specs.Keys.{key_cmp, key_cmp-IsAntisymmetric}
use Rattle.circ_records.specs.Records.{Entries, record_at}
use Rattle.circ_records.specs.declared.changes.ListChange.{ListChange}
use Rattle.circ_records.specs.declared.key.Key.{Key}
use Rattle.circ_records.specs.declared.record.Record.{Record}
use Rattle.circ_records.proofs.SameTexts.{tie}

-- keys that tie are one
pub same-key : (k q : Key) → eq_by_cmp key_cmp k q ≡ true → k ≡ q
same-key k q e = key_cmp-IsAntisymmetric k q (tie (key_cmp k q) e)

-- the record that was there is put back changed
pub changed-there : (old new : Entries) (k : Key) (c : ListChange) (was is : Record)
    → Some was ≡ record_at old k → is ≡ changed c was
    → ((q : Key) → record_at new q ≡ cond (eq_by_cmp key_cmp k q) (Some is) (record_at old q)) → IsChanged k c old new
changed-there old new k c was is there value updates q = updates q ∙ by (eq_by_cmp key_cmp k q) refl
  where
    by : (b : Bool) → eq_by_cmp key_cmp k q ≡ b
        → cond b (Some is) (record_at old q) ≡ cond b (option_map (changed c) (record_at old q))
        (record_at old q)
    by true e = ap Some value ∙ ap (option_map (changed c)) (there ∙ ap (record_at old) (same-key k q e))
    by false e = refl

-- the record that was there is put back as it was
pub same-there : (old new : Entries) (k : Key) (was is : Record) → Some was ≡ record_at old k → is ≡ was
    → ((q : Key) → record_at new q ≡ cond (eq_by_cmp key_cmp k q) (Some is) (record_at old q))
    → (q : Key) → record_at new q ≡ record_at old q
same-there old new k was is there same updates q = updates q ∙ by (eq_by_cmp key_cmp k q) refl
  where
    by : (b : Bool) → eq_by_cmp key_cmp k q ≡ b → cond b (Some is) (record_at old q) ≡ record_at old q
    by true e = ap Some same ∙ there ∙ ap (record_at old) (same-key k q e)
    by false e = refl

pub on-err : {A E P : Type 0} (r : Result A E) → P → OnErr r P
on-err (Ok x) p = tt
on-err (Err e) p = p

pub some-is : {A : Type 0} (o : Option A) (x : A) → o ≡ Some x → IsSome o
some-is o x e = rw e refl
