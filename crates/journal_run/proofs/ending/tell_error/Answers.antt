use Rattle.std.proofs.Common.{◌∷◌, [], refl}
use Rattle.journal_run.proofs.ending.tell_error.Goals as goal

pub returns : goal.returns
returns g c = (_ ∷ [], c.tell.ensures.told.1, (c.args.error, (c.tell.ensures.told.0, refl, c.tell.ensures.status)))
