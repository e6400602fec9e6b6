use Rattle.std.proofs.Common.{◌≡◌, length, arith}
use Rattle.csv.specs.Records.{fields_of}
use Rattle.journal_table.specs.Journal.{lines_of}
use Rattle.journal_table.proofs.Lines.{goes_on}
use Rattle.journal_table.proofs.journal.read_lines.Goals as goal

pub loop-row-preserved : goal.loop-row-preserved
loop-row-preserved c =
    let size : c.len.result ≡ length c.loop-row.lines.items = omega arith in
    let at = rw size at c.in_ok-line.ensures in
    rw (c.in_ok-push.ensures.items, c.parts.ensures.number)
    (goes_on c.loop-row.rows.rows c.next.new.self.rows c.loop-row.lines.items c.loop-row.before (fields_of c.next.new.row) c.in_ok-line.line (lines_of c.args.rows.now.rows)
    (c.in_ok-next.ensures.row c.if-branch.true) at c.loop-row.invariant)
