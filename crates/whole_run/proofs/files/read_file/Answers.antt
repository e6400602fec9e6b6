use Rattle.std.proofs.Common.{◌∷◌, Err, [], inl, refl}
use Rattle.outside.specs.Events.{Read}
use Rattle.whole_run.proofs.files.read_file.Goals as goal

pub returns-in-Err-clause-stops : goal.returns-in-Err-clause-stops
returns-in-Err-clause-stops g c =
    (Read c.args.path.now (Err c.in-Err.failure) ∷ [], c.in-Err.ensures, (refl, inl (inl (refl, c.of_file.ensures))))
