use Rattle.std.proofs.Common.{◌≡◌, drop}
use Rattle.record_tables.specs.Writing.{HasWidth, with_rows}
use Rattle.record_tables.specs.Written.{listed_fees}
use Rattle.record_tables.proofs.fee_rows.write_fees.Given as goal

-- what is written so far, with the rest of the list after it, is all of it
abbrev pub invariant-loop-fee : goal.invariant-loop-fee
invariant-loop-fee l = record {
  wide : HasWidth 5 l.text;
  rest : with_rows (listed_fees l.records l.patron (drop l.fee-index l.fees)) l.text
      ≡ with_rows (listed_fees l.records l.patron l.fees) l.fn.text;
}
