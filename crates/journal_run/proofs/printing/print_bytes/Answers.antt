use Rattle.std.proofs.Common.{◌∷◌, [], refl, sym, true}
use Rattle.std.proofs.lemmas.List.{append-nil}
use Rattle.outside.specs.Events.{Print}
use Rattle.journal_run.proofs.printing.print_bytes.Goals as goal

pub returns-then-write-clause-text : goal.returns-then-write-clause-text
returns-then-write-clause-text g c = (Print c.args.bytes.now true ∷ [], rw (c.if-write.true) at c.write.ensures, ([], sym (append-nil c.args.bytes.now), refl))
