use Rattle.std.proofs.Common.{◌∙◌, [], ap, length, sym}
use Rattle.std.proofs.lemmas.List.{length-map}
use Rattle.sip_reader.specs.Reading.{reading}
use Rattle.journal_table.specs.Entry.{Entry}
use Rattle.read_set.specs.Plans.{Planned, plan_over}
use Rattle.replay_run.proofs.by_workers.run_named.Goals as goal

pub output_parallel-requires-clause-bare : goal.output_parallel-requires-clause-bare
output_parallel-requires-clause-bare g c κs within =
    c.take_base.ensures.left ∙ ap (λ (q : Planned). plan_over q []) c.requires.named

pub output_parallel-requires-clause-fits : goal.output_parallel-requires-clause-fits
output_parallel-requires-clause-fits g c κs within =
    ap (λ (q : Planned). q.readings) (sym c.requires.named) ∙ c.requires.fits

pub returns-clause-output : goal.returns-clause-output
returns-clause-output g c = (_, c.in_ok-output.ensures)

pub returns-clause-attempts : goal.returns-clause-attempts
returns-clause-attempts g c =
    ap length c.in_ok-output.ensures.attempts
    ∙ c.in_ok-outcome.ensures.outcome.attempts
    ∙ ap (λ (q : Planned). length q.readings) (sym c.requires.named)
    ∙ ap length c.requires.fits
    ∙ length-map c.args.journal.now (λ (line : Entry). reading line.request)
