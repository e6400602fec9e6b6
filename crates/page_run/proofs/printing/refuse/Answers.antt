use Rattle.std.proofs.Common.{◌∷◌, [], refl, string_bytes}
use Rattle.outside.specs.Events.{Tell}
use Rattle.page_run.proofs.printing.refuse.Goals as goal

pub returns-in-Help : goal.returns-in-Help
returns-in-Help g c = rw (c.in-Help.is) (rw (c.as_bytes.ensures.value) at c.print.ensures)

pub returns-in-Words : goal.returns-in-Words
returns-in-Words g c =
    rw (c.in-Words.is) (Tell (string_bytes c.in-Words.text) c.tell-taken.result ∷ [], c.tell-taken.ensures, (c.tell-taken.result, refl, refl))

pub returns-in-Memory : goal.returns-in-Memory
returns-in-Memory g c =
    rw (c.in-Memory.is) (_ ∷ [], c.say_why.ensures.told.1, (c.say_why.ensures.told.0, refl, c.say_why.ensures.status))
