use Rattle.std.proofs.Common.{◌≡◌, drop}
use Rattle.record_tables.specs.Writing.{HasWidth, with_rows}
use Rattle.record_tables.specs.Written.{queued}
use Rattle.record_tables.proofs.hold_rows.write_holds.Given as goal

-- what is written so far, with the rest of the queue after it, is all of it
abbrev pub invariant-loop-hold : goal.invariant-loop-hold
invariant-loop-hold l = record {
  wide : HasWidth 3 l.text;
  rest : with_rows (queued l.item (drop l.hold-index l.holds)) l.text ≡ with_rows (queued l.item l.holds) l.fn.text;
}
