use Rattle.std.proofs.Common.{◌∷◌, ◌∙◌, Err, Ok, [], inr, refl, sym}
use Rattle.outside.specs.Events.{Read}
use Rattle.outside.proofs.reading.read_file.Goals as goal

pub returns-in-Ok-clause-read : goal.returns-in-Ok-clause-read
returns-in-Ok-clause-read g c = (Read c.args.path.now (Ok c.in-Ok.text.items) ∷ [], c.in-Ok.ensures, (refl, refl, tt))

pub returns-then-may_lack-clause-read : goal.returns-then-may_lack-clause-read
returns-then-may_lack-clause-read g c =
    (Read c.args.path.now (Err c.in-Err.failure) ∷ [], c.in-Err.ensures, (refl, (sym c.may_lack.ensures ∙ c.if-may_lack.true, c.new.ensures.items), tt))

pub returns-else-may_lack-clause-stops : goal.returns-else-may_lack-clause-stops
returns-else-may_lack-clause-stops g c =
    (Read c.args.path.now (Err c.in-Err.failure) ∷ [], c.in-Err.ensures, (refl, inr (sym c.may_lack.ensures ∙ c.if-may_lack.false, refl, c.of_file.ensures)))
