use Rattle.read_set.proofs.PlanFits.{counted}
use Rattle.replay_run.proofs.FinalTables.{final-tables}
use Rattle.replay_run.proofs.laws.final_tables_read_back.Goals as goal

pub returns : goal.returns
returns c = final-tables c.args.base.now (counted c.args.base.now c.as_slice-records.ensures.few)
