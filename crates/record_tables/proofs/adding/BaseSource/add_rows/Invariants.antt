use Rattle.std.proofs.Common.{◌≡◌}
use Rattle.record_tables.specs.Base.{rule_of}
use Rattle.record_tables.specs.Read.{AreTold, AreWaiting, rows_in, text_rows, up_to}
use Rattle.record_tables.proofs.Reading.{IsAt, Keeps}
use Rattle.record_tables.proofs.adding.BaseSource.add_rows.Given as goal

-- no row so far breaks a rule, and the records and the waiting patrons are those that they give
abbrev pub invariant-loop-row : goal.invariant-loop-row
invariant-loop-row l =
    let rows = rows_in l.self.tables.now in
    record {
      named : l.rows.table ≡ l.table;
      at : IsAt (text_rows l.table l.self.tables.now) l.rows.rows (λ before.
          Keeps l.table (rule_of l.self.policy.now l.self.first l.table rows) l.rows.count before × AreTold (up_to l.table rows before) l.records × AreWaiting (up_to l.table rows before).holds l.waiting);
    }

abbrev pub decreases-loop-row : goal.decreases-loop-row
decreases-loop-row l = l.rows.size
