-- The visible entry, its name and its record.
use Rattle.std.proofs.Common.{◌≡◌, ℕ, zero, suc, ◌<◌, Bool, true, false, Option, Some, None, refl, sym, ap, subst, ◌∙◌, arith}
use Rattle.std.specs.Prelude.{if◌then◌else◌}
use Rattle.std.proofs.lemmas.Option.{none-some, same_Some}
use Rattle.circ_records.specs.Records.{record_at}
use Rattle.circ_records.specs.declared.key.Key.{Key}
use Rattle.circ_records.specs.declared.record.Record.{Record}
use Rattle.read_set.specs.Plans.{Planned}
use Rattle.read_set.specs.declared.notes.Name.{Name}
use Rattle.read_set.specs.declared.notes.Name.TheVariants.{Base, Made}
use Rattle.read_set.specs.declared.notes.Note.{Note}
use Rattle.version_store.specs.Entries.{Shown, above, found_of}
use Rattle.version_store.specs.declared.entry.Found.TheVariants.{Named, Suspect}
use Rattle.board_steps.specs.Board.{Row, entry, written_at, seen_entry, record_of, value_at, found}
use Rattle.board_steps.specs.Reached.{NoteBy, NoteHolds, IsNow}

above_entry : (rows : ℕ → Row) (n : ℕ) (k : Key) (p : ℕ × Shown) (o : Option Shown) (below : Option (ℕ × Shown)) → entry (rows n) k ≡ o → (below ≡ Some p → (p.0 < n) × (entry (rows p.0) k ≡ Some p.1)) → above n o below ≡ Some p → (p.0 < suc n) × (entry (rows p.0) k ≡ Some p.1)
above_entry rows n k p None below e ih h = (omega (arith, (ih h).0), (ih h).1)
above_entry rows n k p (Some x) below e ih h =
    subst (λ (q : ℕ × Shown). (q.0 < suc n) × (entry (rows q.0) k ≡ Some q.1)) (same_Some _ _ h) (omega arith, e)

-- the visible entry is one of a line below
pub visible_entry : (rows : ℕ → Row) (n : ℕ) (k : Key) (p : ℕ × Shown) → seen_entry rows n k ≡ Some p → (p.0 < n) × (entry (rows p.0) k ≡ Some p.1)
visible_entry rows zero k p h = absurd (none-some p h)
visible_entry rows (suc n) k p h = above_entry rows n k p (entry (rows n) k) (seen_entry rows n k) refl (visible_entry rows n k p) h

named_made : (b : Bool) (x y m a : ℕ) → if b then Suspect x else Named (Made y x) ≡ Named (Made a m) → (x ≡ m) × (y ≡ a)
named_made true x y m a h = absurd (cc)
named_made false x y m a h = (cc, cc)

named_base : (b : Bool) (x y : ℕ) → if b then Suspect x else Named (Made y x) ≡ Named Base → ⊥
named_base true x y h = cc
named_base false x y h = cc

found_of_made : (m a : ℕ) (o : Option (ℕ × Shown)) → found_of o ≡ Named (Made a m) → (e : Shown) × (o ≡ Some (m, e)) × (e.attempt ≡ a)
found_of_made m a None h = absurd (cc)
found_of_made m a (Some p) h =
    let r = named_made _ _ _ m a h in
    (p.1, ap (λ (x : ℕ). Some (x, p.1)) r.0, r.1)

pub found_made : (rows : ℕ → Row) (n : ℕ) (k : Key) (m a : ℕ) → found rows n k ≡ Named (Made a m) → (e : Shown) × (seen_entry rows n k ≡ Some (m, e)) × (e.attempt ≡ a)
found_made rows n k m a h = found_of_made m a (seen_entry rows n k) h

found_of_base : (o : Option (ℕ × Shown)) → found_of o ≡ Named Base → o ≡ None
found_of_base None h = refl
found_of_base (Some p) h = absurd (named_base _ _ _ h)

note_by_value : (plan : Planned) (rows : ℕ → Row) (n : ℕ) (k : Key) (v : Option Record) (name : Name) → NoteBy plan rows n k v name → found rows n k ≡ Named name → v ≡ value_at plan rows n k
note_by_value plan rows n k v Base h f = h ∙ sym (ap (λ (o : Option (ℕ × Shown)). record_of k o (record_at plan.base k)) (found_of_base (seen_entry rows n k) f))
note_by_value plan rows n k v (Made a m) h f =
    let r = found_made rows n k m a f in
    let q = visible_entry rows n k (m, r.0) r.1 in
    h.same r.0 q.1 r.2 ∙ sym (ap (λ (o : Option (ℕ × Shown)). record_of k o (record_at plan.base k)) r.1)

-- where the noted name is that of the visible entry, so is the record
pub note_value : (plan : Planned) (rows : ℕ → Row) (n : ℕ) (x : Note) → NoteHolds plan rows n x → IsNow rows n x → x.found ≡ value_at plan rows n x.key
note_value plan rows n x h f = note_by_value plan rows n x.key x.found x.name h f

-- what is seen now may be noted
pub seen_now : (plan : Planned) (rows : ℕ → Row) (n : ℕ) (k : Key) (name : Name) → ((m : ℕ) (q : Key) (e : Shown) → entry (rows m) q ≡ Some e → e.attempt < (rows m).next) → found rows n k ≡ Named name → NoteBy plan rows n k (value_at plan rows n k) name
seen_now plan rows n k Base begun f = ap (λ (o : Option (ℕ × Shown)). record_of k o (record_at plan.base k)) (found_of_base (seen_entry rows n k) f)
seen_now plan rows n k (Made a m) begun f =
    let r = found_made rows n k m a f in
    let q = visible_entry rows n k (m, r.0) r.1 in
    let is : value_at plan rows n k ≡ written_at r.0 k = ap (λ (o : Option (ℕ × Shown)). record_of k o (record_at plan.base k)) r.1 in
    record {
      below = q.0;
      begun = subst (λ x. x < (rows m).next) r.2 (begun m k r.0 q.1);
      same = λ e h i. is ∙ ap (λ (x : Shown). written_at x k) (same_Some r.0 e (sym q.1 ∙ h));
      stays = λ i. (r.0, q.1, r.2);
    }
