use Rattle.std.proofs.Common.{◌≡◌, ◌<◌, ◌+◌, ◌-◌, length, drop, min, sym, arith}
use Rattle.std.proofs.lemmas.List.{drop-drop, length-drop}
use Rattle.journal_table.proofs.Stretches.{goes_on, is_done}
use Rattle.journal_table.proofs.readings.read_in_turn.Goals as goal

pub loop-from-preserved : goal.loop-from-preserved
loop-from-preserved c =
    let lines = c.lines-lines.result.now in
    let from = c.loop-from.from in
    let len = c.min-len.result in
    let rest = drop from lines in
    let size : length rest ≡ length lines - from = length-drop from lines in
    let some : 0 < length rest = omega (arith, size, c.loop-from-test.true) in
    let few : len ≡ min (length rest) 4096 = rw size c.min-len.ensures in
    let same : from + len - from ≡ len = omega arith in
    record {
      within = omega (arith, c.min-len.ensures, c.loop-from-test.true);
      so_far = rw (c.in_ok-push.ensures.items, sym (drop-drop len from lines))
          (goes_on 4096 len lines rest c.loop-from.stretches.items c.in_ok-read_stretch.field-0 (omega arith) some few (rw same at c.in_ok-read_stretch.ensures) c.loop-from.invariant.so_far);
    }

pub of-requires : goal.of-requires
of-requires c =
    let lines = c.lines-lines.result.now in
    let rest = drop c.loop-from.from lines in
    let none : length rest ≡ 0 = omega (arith, length-drop c.loop-from.from lines, c.loop-from-test.false) in
    let (whole, full) = is_done 4096 lines rest c.loop-from.stretches.items (omega arith) none c.loop-from.invariant.so_far in
    rw (← c.lines-lines.ensures.lines) (record { whole = whole; full = full })
