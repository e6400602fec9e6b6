use Rattle.std.proofs.Common.{◌∷◌, [], refl, string_bytes}
use Rattle.outside.specs.Events.{Tell}
use Rattle.journal_run.proofs.running.tell_notes.Goals as goal

pub returns : goal.returns
returns g c = (Tell (string_bytes c.args.notes.now) c.tell-taken.result ∷ [], c.tell-taken.ensures, refl)
