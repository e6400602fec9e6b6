-- What one line's move leaves of the others.
use Rattle.std.proofs.Common.{◌≡◌, ◌≢◌, ℕ, zero, suc, ◌<◌, ◌≤◌, List, Option, Some, refl, sym, ap, ap₂, subst, ◌∙◌, ◌⊎◌, inl, inr, arith}
use Rattle.std.proofs.lemmas.Bool.{cases_eq}
use Rattle.circ_records.specs.Records.{record_at}
use Rattle.circ_records.specs.declared.key.Key.{Key}
use Rattle.circ_records.specs.declared.record.Record.{Record}
use Rattle.read_set.specs.Plans.{Planned}
use Rattle.read_set.specs.Settling.{Contents}
use Rattle.read_set.specs.declared.notes.Name.{Name}
use Rattle.read_set.specs.declared.notes.Name.TheVariants.{Base, Made}
use Rattle.read_set.specs.declared.notes.Note.{Note}
use Rattle.version_store.specs.Entries.{Shown, above, found_of}
use Rattle.board_steps.specs.Board.{Row, entry, IsOf, seen_entry, found, EachNote}
use Rattle.board_steps.specs.Reached.{Known, NoteBy, NoteHolds, Held}

-- the same attempt placed both, with the same version; one may be suspect
abbrev pub SameVersion : Shown → Shown → Type 0
SameVersion e f = (e.attempt ≡ f.attempt) × (e.contents ≡ f.contents)

-- names keep their records from l to r
pub record Keeps (l r : Row) : Type 0 where
  pub next : l.next ≤ r.next
  pub old : (k : Key) (e : Shown) → entry r k ≡ Some e → ((f : Shown) × (entry l k ≡ Some f) × SameVersion f e) ⊎ ((suc e.attempt ≡ l.next) × (IsOf l k e.attempt → ⊥))
  pub kept : (k : Key) (e : Shown) → entry l k ≡ Some e → suc e.attempt ≡ r.next → (f : Shown) × (entry r k ≡ Some f) × SameVersion e f

-- others see the same in l and in r
pub record Still (l r : Row) : Type 0 where
  pub entries : (k : Key) → entry l k ≡ entry r k
  pub changed : l.changed ≡ r.changed

-- rows with the same entries
pub keeps_entries : (l r : Row) → l.next ≡ r.next → ((k : Key) → entry l k ≡ entry r k) → Keeps l r
keeps_entries l r next same = record {
  next = omega (arith, next);
  old = λ k e h. inl (e, same k ∙ h, (refl, refl));
  kept = λ k e h i. (e, sym (same k) ∙ h, (refl, refl));
}

keeps_same : (l : Row) → Keeps l l
keeps_same l = keeps_entries l l refl (λ k. refl)

still_same : (l : Row) → Still l l
still_same l = record { entries = λ k. refl; changed = refl }

-- from rows to others, where only line n moves
pub record Turn (rows others : ℕ → Row) (clock later n : ℕ) (r : Row) : Type 0 where
  pub at : others n ≡ r
  pub off : (m : ℕ) → m ≢ n → others m ≡ rows m
  pub keeps : Keeps (rows n) r
  pub moved : Still (rows n) r ⊎ (clock < r.changed)
  pub tick : clock ≤ later

module _ (plan : Planned) (rows others : ℕ → Row) (clock later n : ℕ) (r : Row) (turn : Turn rows others clock later n r) where
  pub keeps_at : (m : ℕ) → Keeps (rows m) (others m)
  keeps_at m = elim (cases_eq m n) [
    | inl e ↦ subst (λ x. Keeps (rows x) (others x)) (sym e) (subst (λ x. Keeps (rows n) x) (sym turn.at) turn.keeps)
    | inr ne ↦ subst (λ x. Keeps (rows m) x) (sym (turn.off m ne)) (keeps_same (rows m))
  ]

  pub moved_at : (m : ℕ) → Still (rows m) (others m) ⊎ (clock < (others m).changed)
  moved_at m = elim (cases_eq m n) [
    | inl e ↦ subst (λ x. Still (rows x) (others x) ⊎ (clock < (others x).changed)) (sym e) (subst (λ x. Still (rows n) x ⊎ (clock < x.changed)) (sym turn.at) turn.moved)
    | inr ne ↦ inl (subst (λ x. Still (rows m) x) (sym (turn.off m ne)) (still_same (rows m)))
  ]

  known_keep : (q m a : ℕ) (k : Key) (v : Option Record) → Known rows q m a k v → Known others q m a k v
  known_keep q m a k v known =
      let keeps = keeps_at m in
      record {
        below = known.below;
        begun = omega (arith, known.begun, keeps.next);
        same = λ e h i. elim (keeps.old k e h) [
          | inl o ↦ known.same o.0 o.1 (o.2.0 ∙ i) ∙ ap (λ (t : Contents). record_at t.writes k) o.2.1
          | inr p ↦ absurd (p.1 (subst (λ x. IsOf (rows m) k x) (sym i) (known.stays (ap suc (sym i) ∙ p.0))))
        ];
        stays = λ i.
            let s = known.stays (omega (arith, known.begun, keeps.next)) in
            let f = keeps.kept k s.0 s.1 (ap suc s.2 ∙ i) in
            (f.0, f.1, sym f.2.0 ∙ s.2);
      }

  note_by_keep : (q : ℕ) (k : Key) (v : Option Record) (name : Name) → NoteBy plan rows q k v name → NoteBy plan others q k v name
  note_by_keep q k v Base h = h
  note_by_keep q k v (Made a m) h = known_keep q m a k v h

  pub note_keep : (q : ℕ) (x : Note) → NoteHolds plan rows q x → NoteHolds plan others q x
  note_keep q x h = note_by_keep q x.key x.found x.name h

  pub notes_keep : (q : ℕ) (notes : List Note) → EachNote notes (NoteHolds plan rows q) → EachNote notes (NoteHolds plan others q)
  notes_keep q notes h = λ j x g. note_keep q x (h j x g)

seen_still : (rows others : ℕ → Row) (n : ℕ) (k : Key) → ((m : ℕ) → m < n → Still (rows m) (others m)) → seen_entry rows n k ≡ seen_entry others n k
seen_still rows others zero k h = refl
seen_still rows others (suc n) k h =
    ap₂ (λ (o : Option Shown) (b : Option (ℕ × Shown)). above n o b) ((h n (omega arith)).entries k) (seen_still rows others n k (λ m lt. h m (omega arith)))

found_still : (rows others : ℕ → Row) (n : ℕ) (k : Key) → ((m : ℕ) → m < n → Still (rows m) (others m)) → found rows n k ≡ found others n k
found_still rows others n k h = ap found_of (seen_still rows others n k h)

all_or_one : (A B : ℕ → Type 0) (n : ℕ) → ((m : ℕ) → m < n → A m ⊎ B m) → ((m : ℕ) → m < n → A m) ⊎ ((m : ℕ) × (m < n) × B m)
all_or_one A B zero h = inl (λ m lt. absurd (omega arith))
all_or_one A B (suc n) h = elim (h n (omega arith)) [
  | inr b ↦ inr (n, omega arith, b)
  | inl a ↦ elim (all_or_one A B n (λ m lt. h m (omega arith))) [
    | inr o ↦ inr (o.0, omega (arith, o.1), o.2)
    | inl all ↦ inl (λ m lt. elim (cases_eq m n) [
      | inl e ↦ subst A (sym e) a
      | inr ne ↦ all m (omega arith)
    ])
  ]
]

module _ (rows others : ℕ → Row) (clock n : ℕ) (notes : List Note) (t i : ℕ) (past : t ≤ clock) where
  held_still : ((m : ℕ) → m < n → Still (rows m) (others m)) → Held rows n notes t i → Held others n notes t i
  held_still still (inl w) = inl (w.0, w.1, subst (λ x. t < x) (still w.0 w.1).changed w.2)
  held_still still (inr f) = inr (λ j x lt g. sym (found_still rows others n x.key still) ∙ f j x lt g)

  pub held_keep : ((m : ℕ) → Still (rows m) (others m) ⊎ (clock < (others m).changed)) → Held rows n notes t i → Held others n notes t i
  held_keep moved held = elim (all_or_one (λ m. Still (rows m) (others m)) (λ m. clock < (others m).changed) n (λ m lt. moved m)) [
    | inl still ↦ held_still still held
    | inr w ↦ inl (w.0, w.1, omega (arith, w.2))
  ]
