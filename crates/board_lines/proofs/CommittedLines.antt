-- What a board gives of a committed line, and the record that is seen past the last.
use Rattle.std.proofs.Common.{◌≡◌, ℕ, ◌-◌, List, Option, Some, None, get_or, refl, sym, ap, subst, ◌∙◌, arith, false}
use Rattle.std.specs.Option.{option_and_then}
use Rattle.std.specs.Prelude.{option_map}
use Rattle.std.proofs.lemmas.Option.{slice_get-get_or}
use Rattle.circ_records.specs.Records.{Entries, record_at}
use Rattle.circ_records.specs.declared.key.Key.{Key}
use Rattle.read_set.specs.Plans.{Planned}
use Rattle.read_set.specs.Settling.{Contents}
use Rattle.read_set.specs.declared.notes.Note.{Note}
use Rattle.attempts.specs.Moves.{no_row}
use Rattle.attempts.specs.States.{is_waiting, newest_at, newest_of}
use Rattle.attempts.specs.declared.state.LineState.{LineState}
use Rattle.attempts.specs.declared.state.LineState.TheVariants as states
use Rattle.version_store.specs.Entries as store
use Rattle.version_store.specs.Entries.{Shown}
use Rattle.board_steps.specs.Board.{Board, IsCommitted, IsLine, record_of, row_at, value_at}
use Rattle.board_steps.proofs.Lines.{within_board}
use Rattle.board_lines.specs.Notes.{found_by}
use Rattle.board_lines.specs.Parts.{IsKept, Parts, board_of, state_of}
use Rattle.board_lines.proofs.Boards.{place_of}
use Rattle.board_lines.proofs.Rows.{newest_from, newest_if, state_shown}
use Rattle.board_lines.proofs.Sights.{entry_seen}

committed_waits : (s : LineState) (notes : List Note) (contents : Option Contents) → IsCommitted (state_of s notes contents) → is_waiting s ≡ false
committed_waits states.Waiting notes contents h = absurd h
committed_waits (states.Running w) notes contents h = refl
committed_waits (states.Placing w) notes contents h = refl
committed_waits (states.Done t) notes contents h = refl
committed_waits (states.Checking w t i) notes contents h = refl
committed_waits states.Committed notes contents h = refl

-- a committed line is there
pub committed_there : (b : Board) (n : ℕ) → IsCommitted (row_at b n).state → IsLine b n
committed_there b n h = within_board b n (λ d. subst IsCommitted d h)

-- the record of the visible entry, by its version
contents_record : (base : Entries) (k : Key) (v : Option (ℕ × Shown)) → found_by base k (option_map (λ (p : ℕ × Shown). p.1.contents) v) ≡ record_of k v (record_at base k)
contents_record base k None = refl
contents_record base k (Some p) = refl

module _ (plan : Planned) (a : Parts) (kept : IsKept plan a) where
  -- a committed line has an attempt
  pub newest_committed : (n : ℕ) → IsCommitted (row_at (board_of plan.base a) n).state → newest_at a.states n ≡ None → ⊥
  newest_committed n committed h =
      let there : IsLine (board_of plan.base a) n = committed_there (board_of plan.base a) n committed in
      let within = place_of plan.base a n there in
      newest_if (is_waiting (get_or a.states.rows (n - a.states.first) no_row).state) _
      (committed_waits (get_or a.states.rows (n - a.states.first) no_row).state _ _ (subst IsCommitted (state_shown plan a kept n there) committed))
      (ap (option_and_then newest_of) (sym (slice_get-get_or a.states.rows (n - a.states.first) no_row (omega (arith, within, kept.all_states))))
      ∙ sym (newest_from a.states n there.0) ∙ h)

  -- the record that line n sees, by the version that the store shows it
  pub value_shown : (n : ℕ) (k : Key) (o : Option Contents) → o ≡ option_map (λ (p : ℕ × Shown). p.1.contents) (store.visible (store.line_at a.store) n k) → found_by plan.base k o ≡ value_at plan (row_at (board_of plan.base a)) n k
  value_shown n k o is =
      ap (found_by plan.base k) is
      ∙ contents_record plan.base k (store.visible (store.line_at a.store) n k)
      ∙ sym (ap (λ (v : Option (ℕ × Shown)). record_of k v (record_at plan.base k)) (entry_seen plan a kept n k))
