use Rattle.message_meaning.specs.Rules.{rule_at}
use Rattle.message_meaning.proofs.LineReach.{wanted_all}
use Rattle.message_meaning.proofs.Whole.{given_all}
use Rattle.read_set.proofs.Following.{lacks_all}
use Rattle.message_meaning.proofs.lines.perform.Goals as goal

pub returns-clause-gives : goal.returns-clause-gives
returns-clause-gives g c = given_all (g.S.Source.has c.follow_line.new.source) c.args.plan.now c.args.line c.follow_line.result c.follow_line.ensures.gives

pub returns-clause-lacks : goal.returns-clause-lacks
returns-clause-lacks g c = lacks_all (g.S.Source.has c.follow_line.new.source) (rule_at c.args.plan.now c.args.line) c.follow_line.result c.follow_line.ensures.gives

pub returns-clause-wanted : goal.returns-clause-wanted
returns-clause-wanted g c = wanted_all (g.S.Source.has c.follow_line.new.source) c.args.plan.now c.args.line c.follow_line.result c.follow_line.ensures.gives
