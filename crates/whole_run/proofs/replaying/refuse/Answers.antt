use Rattle.std.proofs.Common.{◌∷◌, [], false, refl, string_bytes, true}
use Rattle.outside.specs.Events.{Print, Tell}
use Rattle.whole_run.proofs.replaying.refuse.Goals as goal

pub returns-then-print : goal.returns-then-print
returns-then-print g c =
    rw (c.in-Help.is) (Print (string_bytes c.in-Help.text) true ∷ [], rw (c.if-print.true) at c.print.ensures, (true, refl, refl))

pub returns-else-print : goal.returns-else-print
returns-else-print g c =
    rw (c.in-Help.is) (Print (string_bytes c.in-Help.text) false ∷ [], rw (c.if-print.false) at c.print.ensures, (false, refl, refl))

pub returns-in-Words : goal.returns-in-Words
returns-in-Words g c =
    rw (c.in-Words.is) (Tell (string_bytes c.in-Words.text) c.tell-taken.result ∷ [], c.tell-taken.ensures, (c.tell-taken.result, refl, refl))

pub returns-in-Memory : goal.returns-in-Memory
returns-in-Memory g c =
    rw (c.in-Memory.is) (_ ∷ [], c.say_why.ensures.told.1, (c.say_why.ensures.told.0, refl, c.say_why.ensures.status))
