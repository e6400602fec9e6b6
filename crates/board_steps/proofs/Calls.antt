-- Each call keeps what holds of a reached board.
use Rattle.std.proofs.Common.{◌≡◌, ◌≢◌, ℕ, suc, ◌+◌, ◌<◌, ◌≤◌, false, List, [], ◌∷◌, ◌++◌, Option, Some, None, length, slice_get, refl, sym, ap, subst, ◌∙◌, inl, inr, arith}
use Rattle.std.specs.Option.{option_or}
use Rattle.std.specs.FinMap.{insert, remove}
use Rattle.std.proofs.lemmas.Option.{none-some, same_Some}
use Rattle.std.proofs.lemmas.Bool.{cases_eq}
use Rattle.circ_records.specs.Records.{record_at}
use Rattle.circ_records.specs.declared.key.Key.{Key}
use Rattle.circ_records.specs.declared.record.Record.{Record}
use Rattle.sip_answer.specs.declared.answer.Answer.{Answer}
use Rattle.read_set.specs.Maps.{Map}
use Rattle.read_set.specs.Plans.{Planned}
use Rattle.read_set.specs.Replay.{one_at}
use Rattle.read_set.specs.Settling.{AreTrue, Contents, Settles}
use Rattle.read_set.specs.declared.notes.Name.{Name}
use Rattle.read_set.specs.declared.notes.Note.{Note}
use Rattle.version_store.specs.Entries.{Shown, shown_by, as_suspect, suspected}
use Rattle.version_store.specs.declared.entry.Found.TheVariants.{Named}
use Rattle.board_steps.specs.Board.{State, Row, Board, IsLine, row_at, entry, IsOf, IsCommitted, holder, live_of, written_at, value_at, found, entry_over, EachNote}
use Rattle.board_steps.specs.Board.State.{Waiting, Running, Placing, Done, Checking}
use Rattle.board_steps.specs.Reached.{NoteHolds, IsNow, Held, EachPlaced, RunningOk, PlacingOk, DoneOk, CheckingOk, StateOk, RowOk, RowsOk, Reached}
use Rattle.board_steps.specs.Steps.{put_row, with_state, MayTake, taken, MayLook, seen, stopped, MayPublish, Fits, IsNextWrite, AllPlaced, IsNextLeft, NoneLeft, placed, lifted, Compares, failing, marked, IsVersion}
use Rattle.board_steps.proofs.Views.{seen_now}
use Rattle.board_steps.proofs.Keep.{Keeps, Turn, keeps_entries, note_keep, notes_keep, moved_at, held_keep}
use Rattle.board_steps.proofs.Lines.{rows_keep, within_board, row_put, row_put_off, live_put, length_put, hands_put}
use Rattle.board_steps.proofs.Entries.{cases_key, get_insert_same, get_insert_other, get_remove_same, get_remove_other, each_push}
use Rattle.board_steps.proofs.Suspects.{suspect_of, of_suspect}

module _ (plan : Planned) (b : Board) (n : ℕ) (ok : Reached plan b) where
  pub own : RowOk plan (row_at b) b.clock n (row_at b n)
  own = ok.rows.each n

  pub all_begun : (m : ℕ) (q : Key) (e : Shown) → entry (row_at b m) q ≡ Some e → e.attempt < (row_at b m).next
  all_begun m q e h = (ok.rows.each m).begun q e h

  pub state_is : (s : State) → (row_at b n).state ≡ s → StateOk plan (row_at b) b.clock n (row_at b n) s
  state_is s e = subst (StateOk plan (row_at b) b.clock n (row_at b n)) e own.state

  pub from : IsLine b n → plan.first ≤ n
  from there = omega (arith, there.0, ok.first)

  -- a change of the state alone
  pub state_turn : (s : State) → IsLine b n → Turn (row_at b) (row_at (put_row b n (with_state (row_at b n) s))) b.clock b.clock n (with_state (row_at b n) s)
  state_turn s lt =
      record {
        at = row_put b n (with_state (row_at b n) s) lt;
        off = row_put_off b n (with_state (row_at b n) s);
        keeps = keeps_entries (row_at b n) (with_state (row_at b n) s) refl (λ k. refl);
        moved = inl (record { entries = λ k. refl; changed = refl });
        tick = omega arith;
      }

  state_lines : (s : State) (lt : IsLine b n) → (IsCommitted (row_at b n).state → ⊥) → (IsCommitted s → ⊥)
      → StateOk plan (row_at (put_row b n (with_state (row_at b n) s))) b.clock n (with_state (row_at b n) s) s
      → RowsOk plan (row_at (put_row b n (with_state (row_at b n) s))) b.clock b.committed
  state_lines s lt bar bar' good =
      rows_keep plan (row_at b) (row_at (put_row b n (with_state (row_at b n) s))) b.clock b.clock n (with_state (row_at b n) s) (state_turn s lt) b.committed (from lt) ok.rows bar bar'
      (record { begun = own.begun; past = own.past; state = good })

  -- a change of the entries
  entries_turn : (r : Row) → IsLine b n → Keeps (row_at b n) r → b.clock < r.changed → Turn (row_at b) (row_at (put_row b n r)) b.clock (b.clock + 1) n r
  entries_turn r lt keeps loud =
      record { at = row_put b n r lt; off = row_put_off b n r; keeps = keeps; moved = inr loud; tick = omega arith }

pub take_reached : (plan : Planned) (b : Board) (w n : ℕ) → Reached plan b → MayTake b w n → Reached plan (taken b w n)
take_reached plan b w n ok may =
    let l = row_at b n in
    let r : Row = record (row_at b n) { state = Running w []; next = (row_at b n).next + 1 } in
    let mine = own plan b n ok in
    let turn : Turn (row_at b) (row_at (put_row b n r)) b.clock b.clock n r =
    record {
      at = row_put b n r may.within;
      off = row_put_off b n r;
      keeps = record { next = omega arith; old = λ k e h. inl (e, h, (refl, refl)); kept = λ k e h i. absurd (omega (arith, mine.begun k e h)) };
      moved = inl (record { entries = λ k. refl; changed = refl });
      tick = omega arith;
    } in
    record {
      rows = rows_keep plan (row_at b) (row_at (put_row b n r)) b.clock b.clock n r turn b.committed (from plan b n ok may.within) ok.rows
          (λ h. subst IsCommitted may.waiting h) (λ h. h)
          (record {
            begun = λ k e h. omega (arith, mine.begun k e h);
            past = mine.past;
            state = record { noted = λ j x g. absurd (none-some x g); none_of_its_own = λ k e h i. omega (arith, mine.begun k e h) };
          });
      first = ok.first;
      all = length_put b n r ∙ ok.all;
      counted = omega (arith, ok.counted, live_put b n r may.within, ap live_of may.waiting);
      hands = hands_put b n r may.within ok.hands (λ v h. inr (subst (λ x. (m : ℕ) → holder (row_at b m).state ≢ Some x) (same_Some w v h) may.free.1));
    }

module _ (plan : Planned) (b : Board) (w : ℕ) (k : Key) (n : ℕ) (notes : List Note) (ok : Reached plan b) (may : MayLook b w k n notes) where
  look_within : IsLine b n
  look_within = within_board b n (λ e. let z : Running w notes ≡ Waiting = sym may.running ∙ e in cc)

  pub seen_reached : (name : Name) → found (row_at b) n k ≡ Named name → Reached plan (seen plan b w k n notes name)
  seen_reached name now =
      let x : Note = record { key = k; name = name; found = value_at plan (row_at b) n k } in
      let s : State = Running w (notes ++ x ∷ []) in
      let r : Row = with_state (row_at b n) s in
      let was : RunningOk plan (row_at b) n (row_at b n) notes = state_is plan b n ok (Running w notes) may.running in
      let turn : Turn (row_at b) (row_at (put_row b n r)) b.clock b.clock n r = state_turn plan b n ok s look_within in
      record {
        rows = state_lines plan b n ok s look_within (λ h. subst IsCommitted may.running h) (λ h. h)
            (record {
              noted = each_push (NoteHolds plan (row_at (put_row b n r)) n) notes x
                  (notes_keep plan (row_at b) (row_at (put_row b n r)) b.clock b.clock n r turn n notes was.noted)
                  (note_keep plan (row_at b) (row_at (put_row b n r)) b.clock b.clock n r turn n x (seen_now plan (row_at b) n k name (all_begun plan b n ok) now));
              none_of_its_own = was.none_of_its_own;
            });
        first = ok.first;
        all = length_put b n r ∙ ok.all;
        counted = omega (arith, ok.counted, live_put b n r look_within, ap live_of may.running);
        hands = hands_put b n r look_within ok.hands (λ v h. inl (ap holder may.running ∙ h));
      }

  pub stopped_reached : Reached plan (stopped b n)
  stopped_reached =
      record {
        rows = state_lines plan b n ok Waiting look_within (λ h. subst IsCommitted may.running h) (λ h. h) tt;
        first = ok.first;
        all = length_put b n (with_state (row_at b n) Waiting) ∙ ok.all;
        counted = omega (arith, ok.counted, live_put b n (with_state (row_at b n) Waiting) look_within, ap live_of may.running);
        hands = hands_put b n (with_state (row_at b n) Waiting) look_within ok.hands (λ v h. absurd (none-some v h));
      }

-- what a line that is to be published has noted and placed
pub record Published (plan : Planned) (rows : ℕ → Row) (n : ℕ) (r : Row) (notes : List Note) : Type 0 where
  pub noted : EachNote notes (NoteHolds plan rows n)
  pub placed : EachPlaced plan n r notes
  pub clear : (k : Key) (e : Shown) → entry r k ≡ Some e → suc e.attempt ≡ r.next → e.suspect ≡ false

-- entries of no attempt of its own are of versions, whichever
running_placed : (plan : Planned) (n : ℕ) (l : Row) (notes : List Note) → ((k : Key) (e : Shown) → entry l k ≡ Some e → suc e.attempt ≡ l.next → ⊥) → EachPlaced plan n l notes
running_placed plan n l notes h = λ k e g i. absurd (h k e g i)

module _ (plan : Planned) (b : Board) (w n : ℕ) (notes : List Note) (v : Contents) (ok : Reached plan b) (may : MayPublish b w n notes) (fits : Fits b n notes v) (of_meaning : IsVersion plan v) where
  publish_within : IsLine b n
  publish_within = elim may [
    | inl e ↦ within_board b n (λ d. let z : Running w notes ≡ Waiting = sym e ∙ d in cc)
    | inr e ↦ within_board b n (λ d. let z : Placing w notes e.0 ≡ Waiting = sym e.1 ∙ d in cc)
  ]

  publish_bar : IsCommitted (row_at b n).state → ⊥
  publish_bar h = elim may [ inl e ↦ subst IsCommitted e h | inr e ↦ subst IsCommitted e.1 h ]

  publish_holder : holder (row_at b n).state ≡ Some w
  publish_holder = elim may [ inl e ↦ ap holder e | inr e ↦ ap holder e.1 ]

  publish_live : live_of (row_at b n).state ≡ 1
  publish_live = elim may [ inl e ↦ ap live_of e | inr e ↦ ap live_of e.1 ]

  publishing : Published plan (row_at b) n (row_at b n) notes
  publishing = elim may [
    | inl e ↦ (let was : RunningOk plan (row_at b) n (row_at b n) notes = state_is plan b n ok (Running w notes) e in
        record {
          noted = was.noted;
          placed = running_placed plan n (row_at b n) notes was.none_of_its_own;
          clear = λ k e g i. absurd (was.none_of_its_own k e g i);
        })
    | inr e ↦ (let was : PlacingOk plan (row_at b) n (row_at b n) notes e.0 = state_is plan b n ok (Placing w notes e.0) e.1 in
        record { noted = was.noted; placed = was.placed; clear = was.clear })
  ]

  settles : Settles plan n notes v.writes v.answer
  settles = subst (λ x. Settles plan x notes v.writes v.answer) fits.same_line (subst (λ x. Settles plan v.line x v.writes v.answer) fits.same_notes of_meaning)

  pub placed_reached : (k : Key) (value : Record) → IsNextWrite (row_at b n) v k value → Reached plan (placed b w n notes v k)
  placed_reached k value write =
      let l = row_at b n in
      let mine = own plan b n ok in
      let e' : Shown = shown_by v.attempt v in
      let r : Row = record (row_at b n) { state = Placing w notes (Some v); entries = insert (row_at b n).entries k e'; changed = b.clock + 1 } in
      let at_k : entry r k ≡ Some e' = get_insert_same l.entries k e' in
      let off_k : (q : Key) → q ≢ k → entry r q ≡ entry l q = get_insert_other l.entries k e' in
      let keeps : Keeps l r = record {
        next = omega arith;
        old = λ q e h. elim (cases_key q k) [
          | inl i ↦ (let same : e' ≡ e = same_Some e' e (sym at_k ∙ subst (λ x. entry r x ≡ Some e) i h) in
              inr (
                ap (λ (x : Shown). suc x.attempt) (sym same) ∙ fits.same_attempt,
                λ is. write.apart (subst (λ x. IsOf l x v.attempt) i (subst (λ (x : Shown). IsOf l q x.attempt) (sym same) is)),
              ))
          | inr ne ↦ inl (e, sym (off_k q ne) ∙ h, (refl, refl))
        ];
        kept = λ q e h i. elim (cases_key q k) [
          | inl j ↦ absurd (write.apart (e, subst (λ x. entry l x ≡ Some e) j h, omega (arith, i, fits.same_attempt)))
          | inr ne ↦ (e, off_k q ne ∙ h, (refl, refl))
        ];
      } in
      let turn : Turn (row_at b) (row_at (put_row b n r)) b.clock (b.clock + 1) n r = entries_turn plan b n ok r publish_within keeps (omega arith) in
      record {
        rows = rows_keep plan (row_at b) (row_at (put_row b n r)) b.clock (b.clock + 1) n r turn b.committed (from plan b n ok publish_within) ok.rows publish_bar (λ h. h)
            (record {
              begun = λ q e h. elim (cases_key q k) [
                | inl i ↦ (let same : e' ≡ e = same_Some e' e (sym at_k ∙ subst (λ x. entry r x ≡ Some e) i h) in
                    subst (λ (x : Shown). x.attempt < l.next) same (omega (arith, fits.same_attempt)))
                | inr ne ↦ mine.begun q e (sym (off_k q ne) ∙ h)
              ];
              past = omega arith;
              state = record {
                noted = notes_keep plan (row_at b) (row_at (put_row b n r)) b.clock (b.clock + 1) n r turn n notes publishing.noted;
                placed = λ q e h i M true_in. elim (cases_key q k) [
                  | inl j ↦ (let same : e' ≡ e = same_Some e' e (sym at_k ∙ subst (λ x. entry r x ≡ Some e) j h) in
                      (settles M true_in).0 q ∙ ap (λ x. option_or (record_at v.writes x) (M x)) j ∙ ap (λ (o : Option Record). option_or o (M k)) write.written ∙ sym write.written
                      ∙ ap (λ (x : Shown). written_at x k) same ∙ ap (λ x. written_at e x) (sym j))
                  | inr ne ↦ publishing.placed q e (sym (off_k q ne) ∙ h) i M true_in
                ];
                clear = λ q e h i. elim (cases_key q k) [
                  | inl j ↦ ap (λ (x : Shown). x.suspect) (sym (same_Some e' e (sym at_k ∙ subst (λ x. entry r x ≡ Some e) j h)))
                  | inr ne ↦ publishing.clear q e (sym (off_k q ne) ∙ h) i
                ];
                fits = (v, refl, fits.same_line, fits.same_attempt, fits.same_notes);
              };
            });
        first = ok.first;
        all = length_put b n r ∙ ok.all;
        counted = omega (arith, ok.counted, live_put b n r publish_within, publish_live);
        hands = hands_put b n r publish_within ok.hands (λ u h. inl (publish_holder ∙ h));
      }

  pub lifted_reached : (k : Key) → IsNextLeft (row_at b n) v k → Reached plan (lifted b w n notes v k)
  lifted_reached k next =
      let l = row_at b n in
      let mine = own plan b n ok in
      let r : Row = record (row_at b n) { state = Placing w notes (Some v); entries = remove (row_at b n).entries k; changed = b.clock + 1 } in
      let at_k : entry r k ≡ None = get_remove_same l.entries k in
      let off_k : (q : Key) → q ≢ k → entry r q ≡ entry l q = get_remove_other l.entries k in
      let was : (q : Key) (e : Shown) → entry r q ≡ Some e → entry l q ≡ Some e =
      λ q e h. elim (cases_key q k) [
        | inl i ↦ absurd (none-some e (sym at_k ∙ subst (λ x. entry r x ≡ Some e) i h))
        | inr ne ↦ sym (off_k q ne) ∙ h
      ] in
      let keeps : Keeps l r = record {
        next = omega arith;
        old = λ q e h. inl (e, was q e h, (refl, refl));
        kept = λ q e h i. elim (cases_key q k) [
          | inl j ↦ (let same : next.left.0 ≡ e = same_Some next.left.0 e (sym next.left.1 ∙ subst (λ x. entry l x ≡ Some e) j h) in
              absurd (next.left.2 (ap (λ (x : Shown). x.attempt) same ∙ omega (arith, i, fits.same_attempt))))
          | inr ne ↦ (e, off_k q ne ∙ h, (refl, refl))
        ];
      } in
      let turn : Turn (row_at b) (row_at (put_row b n r)) b.clock (b.clock + 1) n r = entries_turn plan b n ok r publish_within keeps (omega arith) in
      record {
        rows = rows_keep plan (row_at b) (row_at (put_row b n r)) b.clock (b.clock + 1) n r turn b.committed (from plan b n ok publish_within) ok.rows publish_bar (λ h. h)
            (record {
              begun = λ q e h. mine.begun q e (was q e h);
              past = omega arith;
              state = record {
                noted = notes_keep plan (row_at b) (row_at (put_row b n r)) b.clock (b.clock + 1) n r turn n notes publishing.noted;
                placed = λ q e h i M true_in. publishing.placed q e (was q e h) i M true_in;
                clear = λ q e h i. publishing.clear q e (was q e h) i;
                fits = (v, refl, fits.same_line, fits.same_attempt, fits.same_notes);
              };
            });
        first = ok.first;
        all = length_put b n r ∙ ok.all;
        counted = omega (arith, ok.counted, live_put b n r publish_within, publish_live);
        hands = hands_put b n r publish_within ok.hands (λ u h. inl (publish_holder ∙ h));
      }

  whole_at : AllPlaced (row_at b n) v → NoneLeft (row_at b n) v → (M : Map) → AreTrue notes M → (k : Key) (o : Option Shown) → entry (row_at b n) k ≡ o → (u : Option Record) → record_at v.writes k ≡ u → (one_at plan n M).0 k ≡ entry_over o k (M k)
  whole_at all none M true_in k (Some e) h u g = publishing.placed k e h (ap suc (none k e h) ∙ fits.same_attempt) M true_in
  whole_at all none M true_in k None h (Some u) g = (let is : IsOf (row_at b n) k v.attempt = all k u g in absurd (none-some is.0 (sym h ∙ is.1)))
  whole_at all none M true_in k None h None g = (settles M true_in).0 k ∙ ap (λ (o : Option Record). option_or o (M k)) g

  pub whole_reached : AllPlaced (row_at b n) v → NoneLeft (row_at b n) v → Reached plan (put_row b n (with_state (row_at b n) (Done notes v.answer None)))
  whole_reached all none =
      let s : State = Done notes v.answer None in
      let r : Row = with_state (row_at b n) s in
      let turn : Turn (row_at b) (row_at (put_row b n r)) b.clock b.clock n r = state_turn plan b n ok s publish_within in
      record {
        rows = state_lines plan b n ok s publish_within publish_bar (λ h. h)
            (record {
              noted = notes_keep plan (row_at b) (row_at (put_row b n r)) b.clock b.clock n r turn n notes publishing.noted;
              settled = record {
                map = λ M true_in k. whole_at all none M true_in k (entry (row_at b n) k) refl (record_at v.writes k) refl;
                answers = λ M true_in. (settles M true_in).1;
              };
              held = λ t e. absurd (none-some t e);
              clear = λ k e h. publishing.clear k e h (ap suc (none k e h) ∙ fits.same_attempt);
            });
        first = ok.first;
        all = length_put b n r ∙ ok.all;
        counted = omega (arith, ok.counted, live_put b n r publish_within, publish_live);
        hands = hands_put b n r publish_within ok.hands (λ u h. absurd (none-some u h));
      }

-- one note more is compared
held_more : (rows : ℕ → Row) (n : ℕ) (notes : List Note) (t i : ℕ) (x : Note) → Held rows n notes t i → slice_get notes i ≡ Some x → IsNow rows n x → Held rows n notes t (i + 1)
held_more rows n notes t i x (inl h) at now = inl h
held_more rows n notes t i x (inr f) at now = inr (λ j y lt g. elim (cases_eq j i) [
  | inl e ↦ subst (IsNow rows n) (same_Some x y (sym at ∙ subst (λ z. slice_get notes z ≡ Some y) e g)) now
  | inr ne ↦ f j y (omega arith) g
])

-- all notes were compared
held_all : (rows : ℕ → Row) (n : ℕ) (notes : List Note) (t i : ℕ) → length notes ≤ i → Held rows n notes t i → Held rows n notes t (length notes)
held_all rows n notes t i le (inl h) = inl h
held_all rows n notes t i le (inr f) = inr (λ j y lt g. f j y (omega arith) g)

module _ (plan : Planned) (b : Board) (w n : ℕ) (notes : List Note) (answer : Option Answer) (t i : ℕ) (ok : Reached plan b) (compares : Compares b w n notes answer t i) where
  check_within : IsLine b n
  check_within = elim compares [
    | inl c ↦ within_board b n (λ d. let z : Done notes answer c.1.0 ≡ Waiting = sym c.1.1 ∙ d in cc)
    | inr e ↦ within_board b n (λ d. let z : Checking w notes answer t i ≡ Waiting = sym e ∙ d in cc)
  ]

  check_bar : IsCommitted (row_at b n).state → ⊥
  check_bar h = elim compares [ inl c ↦ subst IsCommitted c.1.1 h | inr e ↦ subst IsCommitted e h ]

  check_live : live_of (row_at b n).state ≡ 1
  check_live = elim compares [ inl c ↦ ap live_of c.1.1 | inr e ↦ ap live_of e ]

  checking : CheckingOk plan (row_at b) b.clock n (row_at b n) notes answer t i
  checking = elim compares [
    | inl c ↦ (let was : DoneOk plan (row_at b) b.clock n (row_at b n) notes answer c.1.0 = state_is plan b n ok (Done notes answer c.1.0) c.1.1 in
        record {
          noted = was.noted;
          settled = was.settled;
          past = omega (arith, c.2);
          held = inr (λ j x lt g. absurd (omega (arith, c.3)));
          clear = was.clear;
        })
    | inr e ↦ state_is plan b n ok (Checking w notes answer t i) e
  ]

  pub same_reached : (x : Note) → slice_get notes i ≡ Some x → IsNow (row_at b) n x → Reached plan (put_row b n (with_state (row_at b n) (Checking w notes answer t (i + 1))))
  same_reached x at now =
      let s : State = Checking w notes answer t (i + 1) in
      let r : Row = with_state (row_at b n) s in
      let turn : Turn (row_at b) (row_at (put_row b n r)) b.clock b.clock n r = state_turn plan b n ok s check_within in
      record {
        rows = state_lines plan b n ok s check_within check_bar (λ h. h)
            (record {
              noted = notes_keep plan (row_at b) (row_at (put_row b n r)) b.clock b.clock n r turn n notes checking.noted;
              settled = record { map = checking.settled.map; answers = checking.settled.answers };
              past = checking.past;
              held = held_keep (row_at b) (row_at (put_row b n r)) b.clock n notes t (i + 1) checking.past
                  (moved_at plan (row_at b) (row_at (put_row b n r)) b.clock b.clock n r turn) (held_more (row_at b) n notes t i x checking.held at now);
              clear = checking.clear;
            });
        first = ok.first;
        all = length_put b n r ∙ ok.all;
        counted = omega (arith, ok.counted, live_put b n r check_within, check_live);
        hands = hands_put b n r check_within ok.hands (λ u h. elim compares [
          | inl c ↦ inr (subst (λ x. (m : ℕ) → holder (row_at b m).state ≢ Some x) (same_Some w u h) c.0.1)
          | inr e ↦ inl (ap holder e ∙ h)
        ]);
      }

  pub whole_check_reached : length notes ≤ i → Reached plan (put_row b n (with_state (row_at b n) (Done notes answer (Some t))))
  whole_check_reached le =
      let s : State = Done notes answer (Some t) in
      let r : Row = with_state (row_at b n) s in
      let turn : Turn (row_at b) (row_at (put_row b n r)) b.clock b.clock n r = state_turn plan b n ok s check_within in
      record {
        rows = state_lines plan b n ok s check_within check_bar (λ h. h)
            (record {
              noted = notes_keep plan (row_at b) (row_at (put_row b n r)) b.clock b.clock n r turn n notes checking.noted;
              settled = record { map = checking.settled.map; answers = checking.settled.answers };
              held = λ u e. subst (λ x. (x ≤ b.clock) × Held (row_at (put_row b n r)) n notes x (length notes)) (same_Some t u e) (
                checking.past,
                held_keep (row_at b) (row_at (put_row b n r)) b.clock n notes t (length notes) checking.past
                    (moved_at plan (row_at b) (row_at (put_row b n r)) b.clock b.clock n r turn) (held_all (row_at b) n notes t i le checking.held),
              );
              clear = checking.clear;
            });
        first = ok.first;
        all = length_put b n r ∙ ok.all;
        counted = omega (arith, ok.counted, live_put b n r check_within, check_live);
        hands = hands_put b n r check_within ok.hands (λ u h. absurd (none-some u h));
      }

  -- a check that fails where the line has no entry
  pub failed_reached : Reached plan (failing (put_row b n (with_state (row_at b n) Waiting)))
  failed_reached =
      record {
        rows = state_lines plan b n ok Waiting check_within check_bar (λ h. h) tt;
        first = ok.first;
        all = length_put b n (with_state (row_at b n) Waiting) ∙ ok.all;
        counted = omega (arith, ok.counted, live_put b n (with_state (row_at b n) Waiting) check_within, check_live);
        hands = hands_put b n (with_state (row_at b n) Waiting) check_within ok.hands (λ u h. absurd (none-some u h));
      }

  -- a check that fails, with marks
  pub marked_reached : Reached plan (marked b n)
  marked_reached =
      let l = row_at b n in
      let r : Row = record (row_at b n) { state = Waiting; entries = suspected (row_at b n).entries; changed = b.clock + 1 } in
      let mine = own plan b n ok in
      let keeps : Keeps l r = record {
        next = omega arith;
        old = λ k e h. inl (of_suspect l.entries k e h);
        kept = λ k e h i. (as_suspect e, suspect_of l.entries k e h, (refl, refl));
      } in
      let turn : Turn (row_at b) (row_at (put_row b n r)) b.clock (b.clock + 1) n r = entries_turn plan b n ok r check_within keeps (omega arith) in
      record {
        rows = rows_keep plan (row_at b) (row_at (put_row b n r)) b.clock (b.clock + 1) n r turn b.committed (from plan b n ok check_within) ok.rows check_bar (λ h. h)
            (record {
              begun = λ k e h. let f = of_suspect l.entries k e h in subst (λ x. x < l.next) f.2.0 (mine.begun k f.0 f.1);
              past = omega arith;
              state = tt;
            });
        first = ok.first;
        all = length_put b n r ∙ ok.all;
        counted = omega (arith, ok.counted, live_put b n r check_within, check_live);
        hands = hands_put b n r check_within ok.hands (λ u h. absurd (none-some u h));
      }
