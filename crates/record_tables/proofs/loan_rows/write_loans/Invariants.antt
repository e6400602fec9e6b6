use Rattle.std.proofs.Common.{◌≡◌, drop}
use Rattle.record_tables.specs.Writing.{HasWidth, with_rows}
use Rattle.record_tables.specs.Written.{listed_loans}
use Rattle.record_tables.proofs.loan_rows.write_loans.Given as goal

-- what is written so far, with the rest of the list after it, is all of it
abbrev pub invariant-loop-item : goal.invariant-loop-item
invariant-loop-item l = record {
  wide : HasWidth 4 l.text;
  rest : with_rows (listed_loans l.records l.patron (drop l.item-index l.items)) l.text
      ≡ with_rows (listed_loans l.records l.patron l.items) l.fn.text;
}
