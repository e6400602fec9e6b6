use Rattle.csv_table.specs.Text.{bytes_of}
use Rattle.table_diff.specs.Differences.{differences}
use Rattle.table_diff.proofs.Written.{wide}
use Rattle.table_diff.proofs.differences.Report.with.Goals as goal

pub invariant_of-result : goal.invariant_of-result
invariant_of-result c =
    wide c.self.inside.out c.add_differences.new.out (differences c.args.form.now.table.now (bytes_of c.args.form.now.columns.now) c.args.form.now.renamed c.args.left.now c.args.right.now)
    c.in-Ok.ensures.ok c.self.invariant
