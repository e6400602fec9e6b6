use mathlib.Core.List.{not-mem-nil}
use Rattle.std.proofs.Common.{◌∙◌, ap, length}
use Rattle.std.proofs.lemmas.List.FromFn.{length-map-range_with_len}
use Rattle.speculate.specs.BoardEnds.{attempt_on}
use Rattle.replay_run.proofs.Ended.{answers_by_number, records_named}
use Rattle.replay_run.proofs.by_workers.collected.Goals as goal

pub returns-clause-outcome : goal.returns-clause-outcome
returns-clause-outcome g c = record {
  answers = c.in_ok-outcome.ensures.answers ∙ answers_by_number g.J.PlanName.plan;
  records = records_named g.J.PlanName.plan c.args.finished c.plan-plan.ensures.reached c.plan-plan.ensures.whole _ c.in_ok-outcome.ensures.records;
  attempts =
      ap length c.in_ok-outcome.ensures.attempts
      ∙ length-map-range_with_len (attempt_on c.args.finished) g.J.PlanName.plan.first
      (length g.J.PlanName.plan.readings);
}

pub returns-clause-attempts : goal.returns-clause-attempts
returns-clause-attempts g c = c.in_ok-outcome.ensures.attempts

pub collect-requires-lives-E-End : goal.collect-requires-lives-E-End
collect-requires-lives-E-End g c κs within = λ a m. absurd (not-mem-nil (c.type_bounds.static-J a m))
