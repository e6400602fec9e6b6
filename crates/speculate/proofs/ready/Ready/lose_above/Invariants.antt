use Rattle.std.proofs.Common.{◌≡◌, ◌+◌}
use Rattle.speculate.proofs.Flags.{OutPart, size}
use Rattle.speculate.proofs.ready.Ready.lose_above.Given as goal

abbrev pub invariant-loop-later : goal.invariant-loop-later
invariant-loop-later l = record {
  waiting : l.self.waiting ≡ l.initial.self.waiting;
  unchecked : l.self.unchecked ≡ l.initial.self.unchecked;
  checked : l.self.checked ≡ l.initial.self.checked;
  part : OutPart l.initial.self.checking l.self.checking (l.position + 1);
}

abbrev pub decreases-loop-later : goal.decreases-loop-later
decreases-loop-later l = size l.self.checking
