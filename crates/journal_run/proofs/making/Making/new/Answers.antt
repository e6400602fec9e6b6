use Rattle.std.proofs.Common.{refl}
use Rattle.journal_run.proofs.Steps.{keeps-none}
use Rattle.journal_run.proofs.making.Making.new.Goals as goal

pub returns-clause-stays : goal.returns-clause-stays
returns-clause-stays c = keeps-none c.args.rows _ c.new.ensures c.new-2.ensures.items refl c.most_of.ensures refl refl
