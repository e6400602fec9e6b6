-- The output of one thread: the first fault of the inputs, or the outcome of the replay of the
-- lines in the order of the journal.
use Rattle.std.specs.Prelude.{◌≡◌, ◌+◌, ℕ, List, length, replicate, Result, Ok, Err}
use Rattle.circ_records.specs.Records.{Entries}
use Rattle.schema.specs.Texts.{Texts, texts_of}
use Rattle.record_tables.specs.Written.{tables_of}
use Rattle.journal_table.specs.Entry.{Entry}
use Rattle.read_set.specs.Maps.{Map}
use Rattle.read_set.specs.Plans.{Planned}
use Rattle.read_set.specs.Replay.{last}
use Rattle.result_report.specs.Report.{LineResult, line_results}
use Rattle.result_report.specs.Tables.{AreTexts}
use Rattle.result_report.specs.declared.texts.ResultTexts.{ResultTexts as Results}
use Rattle.replay_run.specs.Answers.{answers_of}
use Rattle.replay_run.specs.Entries.{AreEntries}
use Rattle.replay_run.specs.Judgements.{Accepted, Refused, Fails, judgement_on}
use Rattle.replay_run.specs.declared.fault.Fault.{Fault}
use Rattle.replay_run.specs.declared.inputs.Inputs.{Inputs}
use Rattle.replay_run.specs.declared.inputs.Output.{Output}

-- texts are the tables of the entries of a map
abbrev pub TellsMap : Map → Texts → Type 0
TellsMap M texts = (entries : Entries) × AreEntries M entries × (texts ≡ tables_of entries)

-- the lines of the journal, each with its reading and its answer in the replay by one thread
abbrev pub results_by_plan : Planned → List Entry → List LineResult
results_by_plan plan lines = line_results lines plan.readings (answers_of plan)

-- the result tables of an output, and the numbers of their rows
abbrev pub results_of : Output → Results
results_of o = record { answers = o.answers; report = o.report; passed = o.passed; sizes = o.sizes }

-- The tables of the records after the last line, and the result tables of the lines; each line is
-- answered or passed. The attempts are these.
pub record IsOutputBy (plan : Planned) (lines : List Entry) (tried : List ℕ) (o : Output) : Type 0 where
  pub tables : TellsMap (last plan) (texts_of o.tables)
  pub results : AreTexts (results_by_plan plan lines) (results_of o)
  pub each_once : o.sizes.answered + o.sizes.passed ≡ length lines
  pub attempts : o.attempts.items ≡ tried

-- of one thread: each line is attempted once, by the number 0
abbrev pub IsOutput : Planned → List Entry → Output → Type 0
IsOutput plan lines o = IsOutputBy plan lines (replicate (length plan.readings) 0) o

abbrev pub IsOutputOf : Result Accepted Refused → Output → Type 0
IsOutputOf (Ok j) o = IsOutput j.plan j.lines o
IsOutputOf (Err refused) o = ⊥

-- what inputs are judged as
abbrev pub judgement : Inputs → Result Accepted Refused
judgement i = judgement_on i.way i.policy.items (texts_of i.tables) i.journal.items

abbrev pub IsOneThread : Inputs → Result Output Fault → Type 0
IsOneThread i (Ok o) = IsOutputOf (judgement i) o
IsOneThread i (Err fault) = Fails fault (judgement i)
