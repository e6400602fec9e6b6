use Rattle.std.proofs.Common.{◌∷◌, ◌∙◌, [], ap, false, inl, inr, refl, true}
use Rattle.outside.specs.Events.{Print, noted}
use Rattle.page_run.proofs.printing.print.Goals as goal

pub returns-then-write : goal.returns-then-write
returns-then-write g c = (Print c.args.text.now true ∷ [], rw (c.if-write.true) at c.write.ensures, inl (refl, refl))

pub returns-else-write : goal.returns-else-write
returns-else-write g c =
    let t = c.say_why.ensures.told in
    (Print c.args.text.now false ∷ _ ∷ [], t.1 ∙ ap (noted _) (rw (c.if-write.false) at c.write.ensures), inr (_ ∷ [], refl, (t.0, refl, c.say_why.ensures.status)))
