use Rattle.std.proofs.Common.{◌≡◌, ap, sym, ◌∙◌}
use Rattle.read_set.specs.Plans.{Planned}
use Rattle.board_lines.specs.Notes.{notes_by}
use Rattle.speculate.proofs.Plays.{in_hand, next_is}
use Rattle.speculate.proofs.playing.next_need.Goals as goal

pub returns-clause-next : goal.returns-clause-next
returns-clause-next g c =
    let plan = g.J.PlanName.plan in
    let b = c.args.board.now in
    let notes = c.in_ok-notes.notes in
    let h = c.in-Some.ensures.0 in
    let noted = c.in-Some-notes.ensures in
    let is : notes ≡ notes_by plan.base c.in-Some-notes.noted.now = c.in_ok-notes.ensures ∙ ap (λ (p : Planned). notes_by p.base c.in-Some-notes.noted.now) c.plan-plan.ensures.plan in
    next_is plan b c.args.worker c.in-Some.hand.line c.in-Some.hand.attempt notes c.in_ok-next.next c.in-Some.ensures.1
    (in_hand plan b c.args.worker c.in-Some.hand.line c.in-Some.hand.attempt notes c.plan-plan.ensures.reached h.0 h.1 (noted.0, noted.1, noted.2 ∙ sym is))
    c.in_ok-next.ensures c.settled_if_done.ensures
