use Rattle.record_tables.proofs.RowsBefore.{no-holds, no-ids, no-loans, no-queues}
use Rattle.record_tables.proofs.judge.SeenRows.none.Goals as goal

pub returns : goal.returns
returns c = record {
  patrons = no-ids 0 c.new.result c.new.ensures.empty;
  items = no-ids 0 c.new-2.result c.new-2.ensures.empty;
  loans = no-loans c.new-3.result c.new-3.ensures.empty;
  fees = no-ids 0 c.new-4.result c.new-4.ensures.empty;
  closed = no-ids 0 c.new-5.result c.new-5.ensures.empty;
  holds = no-holds c.new-6.result c.new-6.ensures.empty;
  queues = no-queues c.new-7.result c.new-7.ensures.empty;
}
