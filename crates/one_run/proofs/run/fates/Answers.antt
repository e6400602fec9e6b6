use Rattle.std.proofs.Common.{◌∙◌, List, ap, ℕ}
use Rattle.csv_table.specs.Rows.{rows_under}
use Rattle.one_run.proofs.run.fates.Goals as goal

pub returns : goal.returns
returns c =
    let journal = c.in-Ok.ensures.ok ∙ ap (λ (header : List (List ℕ)). rows_under header c.args.texts.now.journal.now) c.header.ensures in
    rw (c.in_ok-of.ensures, c.in_ok-of-2.ensures, c.in_ok-of-3.ensures, journal) at (c.in_ok-fates.ensures c.in_ok-end.ensures c.in_ok-end-2.ensures c.in_ok-end-3.ensures)
