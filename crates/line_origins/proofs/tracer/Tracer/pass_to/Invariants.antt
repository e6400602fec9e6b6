use Rattle.std.proofs.Common.{◌≡◌}
use Rattle.line_origins.proofs.tracer.Tracer.pass_to.Given as goal

-- each line so far is passed
abbrev pub invariant-loop-n : goal.invariant-loop-n
invariant-loop-n l = record {
  at : l.tracer.next ≡ l._n;
  same : l.tracer.plan.now ≡ l.fn.self.plan.now;
}
