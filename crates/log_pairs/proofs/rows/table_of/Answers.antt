use Rattle.std.proofs.Common.{arith}
use Rattle.log_pairs.proofs.Journals.{one-more}
use Rattle.log_pairs.proofs.rows.table_of.Goals as goal

pub loop-exchange-preserved : goal.loop-exchange-preserved
loop-exchange-preserved c = record {
  table = one-more c.loop-exchange.table c.write_row.new.table c.args.first c.loop-exchange.number c.args.exchanges.now c.loop-exchange.exchange-index
      c.exchange-item.result c.loop-exchange-test.true c.loop-exchange.invariant.table c.loop-exchange.invariant.number c.exchange-item.is c.in_ok-write_row.ensures;
  number = omega arith;
}
