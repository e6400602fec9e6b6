use Rattle.journal_table.proofs.Ends.{ends-lines}
use Rattle.journal_table.proofs.Lines.{few-lines, numbered-lines}
use Rattle.journal_table.proofs.journal.Journal.read.Goals as goal

pub invariant_of-result : goal.invariant_of-result
invariant_of-result c = record {
  numbered = numbered-lines c.in_ok-rows.rows.rows c.in-Ok.lines.items c.in-Ok.ensures.ok;
  few = few-lines c.in_ok-rows.rows.rows c.in-Ok.lines.items c.in-Ok.ensures.ok;
  within = ends-lines c.in_ok-rows.rows.rows c.in-Ok.lines.items c.in-Ok.ensures.ok;
}
