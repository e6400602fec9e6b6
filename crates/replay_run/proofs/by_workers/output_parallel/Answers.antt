use Rattle.std.proofs.Common.{◌∙◌, Vec, ap, rules, ℕ}
use Rattle.std.specs.Global.{Global}
use Rattle.read_set.specs.Plans.{Planned}
use Rattle.record_tables.specs.Written.{tables_of}
use Rattle.replay_run.proofs.Outputs.{answered_lines, output_made}
use Rattle.replay_run.proofs.by_workers.output_parallel.Goals as goal

pub join-tables-requires-after_bounds : goal.join-tables-requires-after_bounds
join-tables-requires-after_bounds g c κs within =
    let answered = answered_lines g.J.PlanName.plan c.args.journal.now _ c.requires.fits c.requires.outcome.answers in
    let fits = ap (λ (q : Planned). q.readings) c.requires.bare ∙ c.requires.fits in
    search rules

pub returns : goal.returns
returns g c =
    let end = c.args.outcome in
    let told = rw c.in_ok-texts.was at c.join-tables.ensures.second in
    output_made g.J.PlanName.plan c.args.journal.now _ end.records c.in_ok-tables.field-0 c.in_ok-texts.field-0 _ c.put_together.result
    c.requires.fits c.requires.outcome.answers c.requires.outcome.records (rw c.in_ok-tables.was at c.join-tables.ensures.first ∙ ap tables_of c.as_records-records.ensures) told.0 told.1
    c.put_together.ensures.tables c.put_together.ensures.results (ap (λ (attempts : Vec ℕ Global). attempts.items) c.put_together.ensures.attempts)
