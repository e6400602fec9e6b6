-- What is kept of the rows that were seen.
use Rattle.record_tables.specs.RowsBefore.{HasHolds, HasIds, HasLoans, HasQueues}
use Rattle.record_tables.specs.Tables.{Rows}
use Rattle.record_tables.specs.declared.judge.SeenRows.{SeenRows}

-- of each table what other rows may look for
pub record HasSeen (r : Rows) (seen : SeenRows) : Type 0 where
  pub patrons : HasIds 0 r.patrons seen.patrons
  pub items : HasIds 0 r.items seen.items
  pub loans : HasLoans r.loans seen.lent
  pub fees : HasIds 0 r.fees seen.fees
  pub closed : HasIds 0 r.closed seen.closed
  pub holds : HasHolds r.holds seen.waiting
  pub queues : HasQueues r.holds seen.lengths
