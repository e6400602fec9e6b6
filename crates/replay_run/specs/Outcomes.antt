-- What is collected from the end of a run over a plan.
use Rattle.std.specs.Prelude.{◌≡◌, length}
use Rattle.read_set.specs.Plans.{Planned}
use Rattle.read_set.specs.Replay.{last}
use Rattle.result_report.specs.Report.{answers_behind}
use Rattle.result_report.specs.declared.outcome.Outcome.{Outcome}
use Rattle.replay_run.specs.Answers.{answers_of}
use Rattle.replay_run.specs.Entries.{AreEntries}

-- the answers and the last records of one thread, and an attempt for each line
pub record IsOutcome (plan : Planned) (outcome : Outcome) : Type 0 where
  pub answers : answers_behind outcome.answers.items ≡ answers_of plan
  pub records : AreEntries (last plan) outcome.records
  pub attempts : length outcome.attempts.items ≡ length plan.readings
