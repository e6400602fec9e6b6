use Rattle.std.proofs.Common.{◌≡◌, length, take, vec_capacity, vec_len}
use Rattle.journal_table.specs.Readings.{requests_read}
use Rattle.journal_table.proofs.readings.read_stretch.Given as goal

abbrev pub invariant-loop-line : goal.invariant-loop-line
invariant-loop-line l = (l.readings.items ≡ requests_read (take l.line-index l.lines)) × (vec_len l.readings ≡ l.line-index) × (vec_capacity l.readings ≡ length l.lines)
