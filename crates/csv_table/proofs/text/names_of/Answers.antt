use Rattle.csv_table.proofs.Columns.{names-more}
use Rattle.csv_table.proofs.text.names_of.Goals as goal

pub loop-name-preserved : goal.loop-name-preserved
loop-name-preserved c =
    rw c.in_ok-push.ensures.items
    (names-more c.loop-name.texts.items c.args.names.now c.loop-name.name-index _ c.as_bytes.result c.loop-name-test.true c.loop-name.invariant c.as_bytes.ensures.value)
