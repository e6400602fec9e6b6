-- A run by one worker, after some of the lines.
use Rattle.std.specs.Prelude.{◌≡◌, ◌≤◌, ◌+◌, ◌++◌, ℕ, List, Option, length}
use Rattle.circ_records.specs.Records.{record_at}
use Rattle.circ_records.specs.declared.key.Key.{Key}
use Rattle.journal_table.specs.Entry.{Entry}
use Rattle.read_set.specs.Plans.{Planned}
use Rattle.read_set.specs.Replay.{after}
use Rattle.result_report.specs.Report.{line_results}
use Rattle.result_report.specs.Tellings.{Tells}
use Rattle.result_report.specs.declared.telling.Telling.{Telling}
use Rattle.sip_answer.specs.declared.answer.Answer.{Answer}
use Rattle.replay_run.specs.Answers.{first_answers}
use Rattle.replay_run.specs.declared.in_order.InOrder.{InOrder}
use Rattle.replay_run.specs.declared.in_order.Replaying.{Replaying}

-- the records after the first `to` lines, and the answers of these lines but for the first `from`
pub record HasReplayed (plan : Planned) (from to : ℕ) (r : Replaying) : Type 0 where
  pub records : (k : Key) → record_at r.live k ≡ after plan to k
  pub answers : first_answers plan to ≡ first_answers plan from ++ r.answers.items

-- the results of the first lines are written, each with its answer; there are as many lines as
-- answers
abbrev pub HasTold : Planned → List Entry → List (Option Answer) → Telling → Type 0
HasTold plan lines answers telling = Tells (line_results lines plan.readings answers) telling

-- how many lines are replayed
abbrev pub reached : InOrder → ℕ
reached run = run.told + length run.replaying.answers.items

-- the first lines are reported, and the lines after them are replayed
pub record IsUnderWay (plan : Planned) (lines : List Entry) (run : InOrder) : Type 0 where
  pub replayed : HasReplayed plan run.told (reached run) run.replaying
  pub told : HasTold plan lines (first_answers plan run.told) run.telling
  pub within : reached run ≤ length plan.readings
