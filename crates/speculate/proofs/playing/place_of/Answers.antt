use Rattle.board_lines.specs.Notes.{contents_at}
use Rattle.speculate.proofs.Plays.{new_to_publish, none_to_publish}
use Rattle.speculate.proofs.playing.place_of.Goals as goal

pub returns-in_default-clause-place : goal.returns-in_default-clause-place
returns-in_default-clause-place g c =
    none_to_publish g.J.PlanName.plan c.args.board.now c.args.worker c.in_ok-next.next c.requires c.in_ok-next.ensures.next c.in_default.ensures

pub returns-clause-place : goal.returns-clause-place
returns-clause-place g c =
    new_to_publish g.J.PlanName.plan c.args.board.now c.args.worker c.in_ok-next.next c.in-Some.version (contents_at c.in_ok-place.place)
    c.requires c.in_ok-next.ensures.next c.in-Some.ensures c.in_ok-place.ensures
