use Rattle.std.proofs.Common.{ℕ, List, map}
use Rattle.std.specs.List.{flat_map}
use Rattle.csv_table.specs.Text.{bytes_of}
use Rattle.table_diff.specs.Differences.{changes_to, lacking, only_in}
use Rattle.table_diff.specs.declared.differences.TableSide.TheVariants as side
use Rattle.table_diff.proofs.Written.{whole, wide}
use Rattle.table_diff.proofs.differences.add_differences.Goals as goal

pub add_side-requires : goal.add_side-requires
add_side-requires c =
    wide c.args.out.now c.add_changes.new.out (flat_map (changes_to c.args.form.now.table.now (bytes_of c.args.form.now.columns.now) c.in-Ok-of.names) c.args.left.now)
    c.in_ok-add_changes.ensures c.requires

pub add_side-requires-2 : goal.add_side-requires-2
add_side-requires-2 c =
    let columns : List (List ℕ) = bytes_of c.args.form.now.columns.now in
    wide c.add_changes.new.out c.add_side.new.out (map (only_in side.Left c.args.form.now.table.now columns) (lacking columns c.args.form.now.renamed c.in-Ok.names c.in-Ok-of.names))
    c.in_ok-add_side.ensures
    (wide c.args.out.now c.add_changes.new.out (flat_map (changes_to c.args.form.now.table.now columns c.in-Ok-of.names) c.args.left.now) c.in_ok-add_changes.ensures c.requires)

pub returns-clause-ok : goal.returns-clause-ok
returns-clause-ok c =
    whole c.args.form.now.table.now (bytes_of c.args.form.now.columns.now) c.args.form.now.renamed c.args.left.now c.args.right.now c.in-Ok.names c.in-Ok-of.names
    c.args.out.now c.add_changes.new.out c.add_side.new.out c.add_side-2.new.out c.in-Ok.ensures.ok c.in-Ok-of.ensures.ok
    c.in_ok-add_changes.ensures c.in_ok-add_side.ensures c.in_ok-add_side-2.ensures
