use Rattle.std.proofs.Common.{rules}
use Rattle.board_lines.proofs.Looks.{hand_here, live_here, stopped_here}
use Rattle.board_lines.proofs.lines.Lines.stop.Goals as goal

pub stop-requires : goal.stop-requires
stop-requires g c = live_here c.self.inside g.J.PlanName.plan c.self.invariant.0 c.self.invariant.1 c.args.self.now c.self.view_is c.args.worker c.args.line c.requires.0 c.requires.1 c.requires.2

pub index_mut-requires : goal.index_mut-requires
index_mut-requires g c = (let h = hand_here c.self.inside g.J.PlanName.plan c.self.invariant.0 c.self.invariant.1 c.args.self.now c.self.view_is c.args.worker c.args.line c.requires.0 c.requires.1 c.requires.2 in search (rules, h))

pub invariant_of-self : goal.invariant_of-self
invariant_of-self g c = (c.self.invariant.0, (stopped_here c.self.inside g.J.PlanName.plan c.self.invariant.0 c.self.invariant.1 c.args.self.now c.self.view_is c.args.worker c.args.line c.requires.0 c.requires.1 c.requires.2 c.stop.new.self c.stop.ensures).1)

pub returns : goal.returns
returns g c = (stopped_here c.self.inside g.J.PlanName.plan c.self.invariant.0 c.self.invariant.1 c.args.self.now c.self.view_is c.args.worker c.args.line c.requires.0 c.requires.1 c.requires.2 c.stop.new.self c.stop.ensures).0
