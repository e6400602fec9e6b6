use Rattle.std.proofs.Common.{◌≡◌, List, Some, Option}
use Rattle.record_tables.specs.Base.{own_rows, rule_of}
use Rattle.record_tables.specs.Read.{rows_in, up_to}
use Rattle.record_tables.specs.RowsSeen.{HasSeen}
use Rattle.record_tables.specs.Tables.{Row}
use Rattle.record_tables.proofs.Listing.{IsWithin}
use Rattle.record_tables.proofs.adding.BaseSource.judge_rows.Given as goal

-- what is listed so far, with what the rows that are left add, is all that is due
abbrev pub invariant-loop-row : goal.invariant-loop-row
invariant-loop-row l =
    let rows = rows_in l.self.tables.now in
    record {
      named : l.rows.table ≡ l.fn.table;
      within : IsWithin l.fn.table (rule_of l.self.policy.now l.self.first l.fn.table rows)
          (own_rows l.fn.table rows)
          (λ before. HasSeen (up_to l.fn.table rows before) l.seen) l.rows.rows l.rows.count l.fn.broken.items l.broken.items;
    }

abbrev pub decreases-loop-row : goal.decreases-loop-row
decreases-loop-row l = l.rows.size
