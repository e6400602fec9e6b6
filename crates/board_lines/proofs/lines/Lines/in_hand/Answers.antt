use Rattle.std.proofs.Common.{arith}
use Rattle.std.proofs.lemmas.Option.{slice_get_past}
use Rattle.board_lines.proofs.Hands.{hand_read}
use Rattle.board_lines.proofs.Rows.{hand_here, no_hand_here}
use Rattle.board_lines.proofs.lines.Lines.in_hand.Goals as goal

pub returns-then-hand-len : goal.returns-then-hand-len
returns-then-hand-len g c = no_hand_here c.self.inside g.J.PlanName.plan c.self.invariant.0 c.self.invariant.1 c.args.self.now c.self.view_is c.args.worker (slice_get_past c.self.inside.hands.items c.args.worker (omega (arith, c.self.inside.hands.ok.0)))

pub returns : goal.returns
returns g c = hand_here c.self.inside g.J.PlanName.plan c.self.invariant.0 c.self.invariant.1 c.args.self.now c.self.view_is c.args.worker c.index.result.now (hand_read c.self.inside.hands.items c.args.worker c.index.result.now (omega (arith, c.self.inside.hands.ok.0)) c.index.ensures)
