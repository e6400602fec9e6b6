use Rattle.std.proofs.Common.{◌∷◌, []}
use Rattle.journal_run.proofs.Ends.{tells-stop}
use Rattle.journal_run.proofs.ending.end_stopped.Goals as goal

pub returns : goal.returns
returns g c = (_ ∷ [], c.tell.ensures.told.1, tells-stop c.args.stop.now c.tell.result c.tell.ensures.told.0 c.tell.ensures.status)
