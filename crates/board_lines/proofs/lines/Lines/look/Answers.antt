use Rattle.std.proofs.Common.{ℕ, ◌≡◌, Bool, List, Option, Some, None, refl, sym, ap, subst, ◌∙◌, rules}
use Rattle.std.specs.Prelude.{if◌then◌else◌}
use Rattle.read_set.specs.declared.notes.Name.TheVariants.{Base, Made}
use Rattle.version_store.specs.Entries.{Shown, found_of, line_at, visible}
use Rattle.version_store.specs.declared.entry.Found.TheVariants.{Named, Suspect}
use Rattle.board_steps.specs.Board.{Board, found, holder, row_at}
use Rattle.board_lines.specs.Notes.{notes_by}
use Rattle.board_lines.specs.Parts.{IsKept, Kept, board_of, row_shown}
use Rattle.board_lines.specs.Sights.{IsNameOf}
use Rattle.board_lines.specs.declared.row.LineRow.{LineRow}
use Rattle.board_lines.proofs.Boards.{board_shown, first_is, parts_of, row_set, spot_is, within_rows}
use Rattle.board_lines.proofs.Looks.{fresh_here, line_here, rows_here, seen_here, would_grow}
use Rattle.board_lines.proofs.Rows.{held_there}
use Rattle.board_lines.proofs.Sights.{suspect_seen}
use Rattle.board_lines.proofs.Standing.{may_look, not_running, not_unnoted}
use Rattle.board_lines.proofs.lines.Lines.look.Goals as goal
use Rattle.board_lines.proofs.lines.Lines.look.Goals.{in-None, in-Some-see+else-made, in-Ok, in-Err}

pub returns-in_default : goal.returns-in_default
returns-in_default g c = (λ n notes may. c.in_default.ensures n (ap holder may.running), refl)

pub returns-in_default-row : goal.returns-in_default-row
returns-in_default-row g c = absurd (c.in_default-row.ensures (held_there c.args.self.now c.in-Some.line c.args.worker c.in-Some.ensures))

pub returns-in_default-state : goal.returns-in_default-state
returns-in_default-state g c = (not_running g.J.PlanName.plan c.args.self.now c.in-Some.line c.in-Some-row.state (row_shown c.in-Some-row.row.now) c.in-Some-row.ensures c.args.worker c.in-Some.ensures c.in_default-state.not-Running c.args.key.now, refl)

pub returns-then-has : goal.returns-then-has
returns-then-has g c = (not_unnoted g.J.PlanName.plan c.args.self.now c.in-Some.line c.in-Some-row.state (row_shown c.in-Some-row.row.now) c.in-Some-row.ensures c.args.worker c.in-Some.ensures c.args.key.now (sym c.has.ensures ∙ c.if-has.true), refl)

pub stop-requires : goal.stop-requires
stop-requires g c = (c.args.key.now, notes_by g.J.PlanName.plan.base c.in-Some-row.row.now.notes, may_look g.J.PlanName.plan c.args.self.now c.in-Some.line c.in-Some-row.state (row_shown c.in-Some-row.row.now) c.in-Some-row.ensures c.args.worker c.in-Some.ensures c.in-Running.worker c.in-Running.is c.args.key.now (sym c.has.ensures ∙ c.if-has.false))

pub index_mut-row-requires : goal.index_mut-row-requires
index_mut-row-requires g c = (let h = within_rows c.self.inside g.J.PlanName.plan c.self.invariant.0 c.self.invariant.1 c.in-Some.line c.first.result c.first.ensures (line_here c.self.inside g.J.PlanName.plan c.self.invariant.0 c.self.invariant.1 c.args.self.now c.self.view_is c.args.worker c.in-Some.line c.args.key.now (notes_by g.J.PlanName.plan.base c.in-Some-row.row.now.notes) (may_look g.J.PlanName.plan c.args.self.now c.in-Some.line c.in-Some-row.state (row_shown c.in-Some-row.row.now) c.in-Some-row.ensures c.args.worker c.in-Some.ensures c.in-Running.worker c.in-Running.is c.args.key.now (sym c.has.ensures ∙ c.if-has.false))) in search (rules, h))

pub add-requires-clause-fresh : goal.add-requires-clause-fresh
add-requires-clause-fresh g c =
    let spot = c.index_mut-row.result.now in
    fresh_here c.self.inside g.J.PlanName.plan c.self.invariant.0 c.self.invariant.1 c.args.self.now c.self.view_is c.args.worker c.in-Some.line c.args.key.now (notes_by g.J.PlanName.plan.base c.in-Some-row.row.now.notes) (may_look g.J.PlanName.plan c.args.self.now c.in-Some.line c.in-Some-row.state (row_shown c.in-Some-row.row.now) c.in-Some-row.ensures c.args.worker c.in-Some.ensures c.in-Running.worker c.in-Running.is c.args.key.now (sym c.has.ensures ∙ c.if-has.false)) spot (spot_is c.self.inside g.J.PlanName.plan c.self.invariant.0 c.self.invariant.1 c.in-Some.line c.first.result c.first.ensures (line_here c.self.inside g.J.PlanName.plan c.self.invariant.0 c.self.invariant.1 c.args.self.now c.self.view_is c.args.worker c.in-Some.line c.args.key.now (notes_by g.J.PlanName.plan.base c.in-Some-row.row.now.notes) (may_look g.J.PlanName.plan c.args.self.now c.in-Some.line c.in-Some-row.state (row_shown c.in-Some-row.row.now) c.in-Some-row.ensures c.args.worker c.in-Some.ensures c.in-Running.worker c.in-Running.is c.args.key.now (sym c.has.ensures ∙ c.if-has.false))) spot c.index_mut-row.ensures.value)

pub returns-then-made : goal.returns-then-made
returns-then-made g c =
    let is = board_shown c.self.inside g.J.PlanName.plan c.args.self.now c.self.invariant.0 c.self.view_is in
    let from = c.in-Some-see.from in
    let suspect = ap found_of (sym c.in-Some-see.ensures) ∙ ap (λ (s : Bool). if s then Suspect from else Named (Made c.in-Some-see.made.attempt from)) c.if-made.true in (
      c.in-Some.line,
      notes_by g.J.PlanName.plan.base c.in-Some-row.row.now.notes,
      may_look g.J.PlanName.plan c.args.self.now c.in-Some.line c.in-Some-row.state (row_shown c.in-Some-row.row.now) c.in-Some-row.ensures c.args.worker c.in-Some.ensures c.in-Running.worker c.in-Running.is c.args.key.now (sym c.has.ensures ∙ c.if-has.false),
      subst (λ (b : Board). found (row_at b) c.in-Some.line c.args.key.now ≡ Suspect from) is
          (suspect_seen g.J.PlanName.plan (parts_of c.self.inside) c.self.invariant.1 c.in-Some.line c.args.key.now from suspect),
      c.stop.ensures,
    )

pub invariant_of-self : goal.invariant_of-self
invariant_of-self g c =
    let sees = visible (line_at c.self.inside.entries) c.in-Some.line c.args.key.now in
    let named : IsNameOf sees c.match-see.seen.0 c.match-see.seen.1 = elim c.match-see.branch [
      | in-None w ↦ rw w.seen-is (subst (λ (o : Option (ℕ × Shown)). IsNameOf {J = g.row.J.Denot} o Base None) w.in-None.ensures (refl, refl))
      | in-Some-see+else-made w ↦ rw w.seen-is (subst (λ (o : Option (ℕ × Shown)). IsNameOf o (Made w.in-Some-see.made.attempt w.in-Some-see.from) (Some w.in-Some-see.made.place)) w.in-Some-see.ensures (w.if-made.false, refl, refl))
    ] in
    let spot = c.index_mut-row.result.now in
    let was = spot_is c.self.inside g.J.PlanName.plan c.self.invariant.0 c.self.invariant.1 c.in-Some.line c.first.result c.first.ensures (line_here c.self.inside g.J.PlanName.plan c.self.invariant.0 c.self.invariant.1 c.args.self.now c.self.view_is c.args.worker c.in-Some.line c.args.key.now (notes_by g.J.PlanName.plan.base c.in-Some-row.row.now.notes) (may_look g.J.PlanName.plan c.args.self.now c.in-Some.line c.in-Some-row.state (row_shown c.in-Some-row.row.now) c.in-Some-row.ensures c.args.worker c.in-Some.ensures c.in-Running.worker c.in-Running.is c.args.key.now (sym c.has.ensures ∙ c.if-has.false))) spot c.index_mut-row.ensures.value in
    let row : LineRow g.row.J.Denot = record { notes = c.add.new.self; version = spot.version; course = spot.course; changed = spot.changed } in
    let rows_is = row_set c.self.inside.rows.items c.in-Some.line c.first.result c.self.inside.attempts.first row (first_is c.self.inside g.J.PlanName.plan c.self.invariant.0 c.self.invariant.1 c.in-Some.line c.first.result c.first.ensures (line_here c.self.inside g.J.PlanName.plan c.self.invariant.0 c.self.invariant.1 c.args.self.now c.self.view_is c.args.worker c.in-Some.line c.args.key.now (notes_by g.J.PlanName.plan.base c.in-Some-row.row.now.notes) (may_look g.J.PlanName.plan c.args.self.now c.in-Some.line c.in-Some-row.state (row_shown c.in-Some-row.row.now) c.in-Some-row.ensures c.args.worker c.in-Some.ensures c.in-Running.worker c.in-Running.is c.args.key.now (sym c.has.ensures ∙ c.if-has.false)))) in (
      c.self.invariant.0,
      elim c.match-add.branch [
        | in-Ok w ↦ (seen_here c.self.inside g.J.PlanName.plan c.self.invariant.0 c.self.invariant.1 c.args.self.now c.self.view_is c.args.worker c.in-Some.line c.args.key.now (notes_by g.J.PlanName.plan.base c.in-Some-row.row.now.notes) (may_look g.J.PlanName.plan c.args.self.now c.in-Some.line c.in-Some-row.state (row_shown c.in-Some-row.row.now) c.in-Some-row.ensures c.args.worker c.in-Some.ensures c.in-Running.worker c.in-Running.is c.args.key.now (sym c.has.ensures ∙ c.if-has.false)) c.match-see.seen.0 c.match-see.seen.1 named spot was c.add.new.self _ rows_is w.in-Ok.ensures.ok).1
        | in-Err w ↦ subst (λ (rows : List Kept). IsKept g.J.PlanName.plan (record (parts_of c.self.inside) { rows = rows })) (sym (rows_here c.self.inside g.J.PlanName.plan c.self.invariant.0 c.self.invariant.1 c.args.self.now c.self.view_is c.args.worker c.in-Some.line c.args.key.now (notes_by g.J.PlanName.plan.base c.in-Some-row.row.now.notes) (may_look g.J.PlanName.plan c.args.self.now c.in-Some.line c.in-Some-row.state (row_shown c.in-Some-row.row.now) c.in-Some-row.ensures c.args.worker c.in-Some.ensures c.in-Running.worker c.in-Running.is c.args.key.now (sym c.has.ensures ∙ c.if-has.false)) c.match-see.seen.0 c.match-see.seen.1 named spot was c.add.new.self _ rows_is w.in-Err.ensures.err)) c.self.invariant.1
      ],
    )

pub returns : goal.returns
returns g c =
    let sees = visible (line_at c.self.inside.entries) c.in-Some.line c.args.key.now in
    let named : IsNameOf sees c.match-see.seen.0 c.match-see.seen.1 = elim c.match-see.branch [
      | in-None w ↦ rw w.seen-is (subst (λ (o : Option (ℕ × Shown)). IsNameOf {J = g.row.J.Denot} o Base None) w.in-None.ensures (refl, refl))
      | in-Some-see+else-made w ↦ rw w.seen-is (subst (λ (o : Option (ℕ × Shown)). IsNameOf o (Made w.in-Some-see.made.attempt w.in-Some-see.from) (Some w.in-Some-see.made.place)) w.in-Some-see.ensures (w.if-made.false, refl, refl))
    ] in
    let spot = c.index_mut-row.result.now in
    let was = spot_is c.self.inside g.J.PlanName.plan c.self.invariant.0 c.self.invariant.1 c.in-Some.line c.first.result c.first.ensures (line_here c.self.inside g.J.PlanName.plan c.self.invariant.0 c.self.invariant.1 c.args.self.now c.self.view_is c.args.worker c.in-Some.line c.args.key.now (notes_by g.J.PlanName.plan.base c.in-Some-row.row.now.notes) (may_look g.J.PlanName.plan c.args.self.now c.in-Some.line c.in-Some-row.state (row_shown c.in-Some-row.row.now) c.in-Some-row.ensures c.args.worker c.in-Some.ensures c.in-Running.worker c.in-Running.is c.args.key.now (sym c.has.ensures ∙ c.if-has.false))) spot c.index_mut-row.ensures.value in
    let row : LineRow g.row.J.Denot = record { notes = c.add.new.self; version = spot.version; course = spot.course; changed = spot.changed } in
    let rows_is = row_set c.self.inside.rows.items c.in-Some.line c.first.result c.self.inside.attempts.first row (first_is c.self.inside g.J.PlanName.plan c.self.invariant.0 c.self.invariant.1 c.in-Some.line c.first.result c.first.ensures (line_here c.self.inside g.J.PlanName.plan c.self.invariant.0 c.self.invariant.1 c.args.self.now c.self.view_is c.args.worker c.in-Some.line c.args.key.now (notes_by g.J.PlanName.plan.base c.in-Some-row.row.now.notes) (may_look g.J.PlanName.plan c.args.self.now c.in-Some.line c.in-Some-row.state (row_shown c.in-Some-row.row.now) c.in-Some-row.ensures c.args.worker c.in-Some.ensures c.in-Running.worker c.in-Running.is c.args.key.now (sym c.has.ensures ∙ c.if-has.false)))) in
    elim c.match-add.branch [
      | in-Ok w ↦ rw w.result-is (seen_here c.self.inside g.J.PlanName.plan c.self.invariant.0 c.self.invariant.1 c.args.self.now c.self.view_is c.args.worker c.in-Some.line c.args.key.now (notes_by g.J.PlanName.plan.base c.in-Some-row.row.now.notes) (may_look g.J.PlanName.plan c.args.self.now c.in-Some.line c.in-Some-row.state (row_shown c.in-Some-row.row.now) c.in-Some-row.ensures c.args.worker c.in-Some.ensures c.in-Running.worker c.in-Running.is c.args.key.now (sym c.has.ensures ∙ c.if-has.false)) c.match-see.seen.0 c.match-see.seen.1 named spot was c.add.new.self _ rows_is w.in-Ok.ensures.ok).0
      | in-Err w ↦ rw w.result-is (
        would_grow c.self.inside g.J.PlanName.plan c.self.invariant.0 c.self.invariant.1 c.args.self.now c.self.view_is c.args.worker c.in-Some.line c.args.key.now (notes_by g.J.PlanName.plan.base c.in-Some-row.row.now.notes) (may_look g.J.PlanName.plan c.args.self.now c.in-Some.line c.in-Some-row.state (row_shown c.in-Some-row.row.now) c.in-Some-row.ensures c.args.worker c.in-Some.ensures c.in-Running.worker c.in-Running.is c.args.key.now (sym c.has.ensures ∙ c.if-has.false)) c.match-see.seen.0 c.match-see.seen.1 named,
        ap (λ (rows : List Kept). board_of c.self.inside.plan.now.base (record (parts_of c.self.inside) { rows = rows })) (rows_here c.self.inside g.J.PlanName.plan c.self.invariant.0 c.self.invariant.1 c.args.self.now c.self.view_is c.args.worker c.in-Some.line c.args.key.now (notes_by g.J.PlanName.plan.base c.in-Some-row.row.now.notes) (may_look g.J.PlanName.plan c.args.self.now c.in-Some.line c.in-Some-row.state (row_shown c.in-Some-row.row.now) c.in-Some-row.ensures c.args.worker c.in-Some.ensures c.in-Running.worker c.in-Running.is c.args.key.now (sym c.has.ensures ∙ c.if-has.false)) c.match-see.seen.0 c.match-see.seen.1 named spot was c.add.new.self _ rows_is w.in-Err.ensures.err) ∙ c.self.view_is,
      )
    ]
