-- The output that is made of tables, result tables and attempts.
use Rattle.std.proofs.Common.{◌≡◌, ◌∙◌, ◌+◌, ℕ, List, Option, ap, ap₂, length, map, subst, sym}
use Rattle.std.specs.Option.{is_some}
use Rattle.circ_records.specs.Records.{Entries}
use Rattle.schema.specs.Texts.{texts_of}
use Rattle.record_tables.specs.Written.{tables_of}
use Rattle.schema.specs.declared.tables.Tables.{Tables}
use Rattle.journal_table.specs.Entry.{Entry}
use Rattle.read_set.specs.Plans.{Planned, readings_of}
use Rattle.read_set.specs.Replay.{last}
use Rattle.sip_answer.specs.declared.answer.Answer.{Answer}
use Rattle.result_report.specs.Report.{LineResult, is_answered, line_results}
use Rattle.result_report.specs.Tables.{AreTexts}
use Rattle.result_report.specs.declared.texts.ResultTexts.{ResultTexts}
use Rattle.replay_run.specs.Answers.{answers_of}
use Rattle.replay_run.specs.Entries.{AreEntries}
use Rattle.replay_run.specs.OneThread.{IsOutputBy, results_by_plan, results_of}
use Rattle.replay_run.specs.declared.inputs.Output.{Output}
use Rattle.replay_run.proofs.Answered.{answered}

-- just the lines that are answered have an answer
pub answered_lines : (plan : Planned) (lines : List Entry) (given : List (Option Answer))
    → plan.readings ≡ readings_of lines → given ≡ answers_of plan
    → map is_some given ≡ map is_answered (readings_of lines)
answered_lines plan lines given fits answers = ap (map is_some) answers ∙ answered plan ∙ ap (map is_answered) fits

pub output_made : (plan : Planned) (lines : List Entry) (given : List (Option Answer))
    (entries : Entries) (tables : Tables) (texts : ResultTexts) (tried : List ℕ) (o : Output)
    → plan.readings ≡ readings_of lines → given ≡ answers_of plan → AreEntries (last plan) entries
    → texts_of tables ≡ tables_of entries
    → AreTexts (line_results lines (readings_of lines) given) texts
    → texts.sizes.answered + texts.sizes.passed ≡ length lines
    → o.tables ≡ tables → results_of o ≡ texts → o.attempts.items ≡ tried → IsOutputBy plan lines tried o
output_made plan lines given entries tables texts tried o fits answers are written rows once same_tables same_texts attempts = record {
  tables = (entries, are, ap texts_of same_tables ∙ written);
  results =
      subst (AreTexts (results_by_plan plan lines)) (sym same_texts)
      (subst (λ (results : List LineResult). AreTexts results texts) (ap₂ (line_results lines) (sym fits) answers) rows);
  each_once = ap (λ (t : ResultTexts). t.sizes.answered + t.sizes.passed) same_texts ∙ once;
  attempts = attempts;
}
