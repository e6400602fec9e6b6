use Rattle.std.proofs.Common.{◌≡◌, ◌+◌, length}
use Rattle.journal_run.specs.Making.{AreClosed, Collects}
use Rattle.journal_run.proofs.making.Making.collect.Given as goal

-- each turn takes one
abbrev pub invariant-loop-turn : goal.invariant-loop-turn
invariant-loop-turn l = record {
  collects : Collects l.initial.self l.self;
  closed : AreClosed l.initial.self.pairing.pending → AreClosed l.self.pairing.pending;
  left : length l.self.pairing.pending + l._turn ≡ length l.initial.self.pairing.pending;
}
