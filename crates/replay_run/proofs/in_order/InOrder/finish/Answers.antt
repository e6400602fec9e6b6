use Rattle.std.proofs.Common.{◌≡◌, ◌∙◌, ◌++◌, ℕ, List, Option, Vec, length, replicate, subst, sym, ap, refl, rules}
use Rattle.std.proofs.lemmas.List.{length-map}
use Rattle.std.specs.Global.{Global}
use Rattle.circ_records.specs.Records.{Entries, record_at}
use Rattle.journal_table.specs.Readings.{reading_at}
use Rattle.read_set.specs.Plans.{Planned}
use Rattle.read_set.specs.Replay.{after, last}
use Rattle.result_report.specs.Report.{line_results}
use Rattle.result_report.specs.Tables.{AreTexts}
use Rattle.result_report.specs.Tellings.{Tells}
use Rattle.result_report.proofs.Once.{each-once}
use Rattle.sip_answer.specs.declared.answer.Answer.{Answer}
use Rattle.sip_reader.specs.declared.request.Reading.{Reading}
use Rattle.replay_run.specs.Answers.{answers_of, first_answers}
use Rattle.replay_run.specs.Entries.{AreEntries}
use Rattle.replay_run.proofs.Outputs.{answered_lines, output_made}
use Rattle.replay_run.proofs.Replayed.{length-first}
use Rattle.replay_run.proofs.in_order.InOrder.finish.Goals as goal

pub lines-requires-clause-told : goal.lines-requires-clause-told
lines-requires-clause-told g c =
    let plan = g.J.PlanName.plan in
    let run = c.args.self in
    let before = first_answers plan run.told in
    (before, length-first plan run.told, subst (λ (q : Planned). Tells (line_results c.args.journal.now q.readings before) run.telling) (sym c.requires.bare) c.requires.so.told)

pub returns : goal.returns
returns g c =
    let plan = g.J.PlanName.plan in
    let lines = c.args.journal.now in
    let run = c.args.self in
    let texts = c.in_ok-texts.texts in
    let before = first_answers plan run.told in
    let all : before ++ c.as_slice.result.now ≡ answers_of plan =
    ap (λ (given : List (Option Answer)). before ++ given) c.as_slice.ensures.value ∙ sym c.requires.so.replayed.answers ∙ ap (first_answers plan) c.requires.all in
    let tells = c.in_ok-lines.ensures before (length-first plan run.told) (subst (λ (q : Planned). Tells (line_results lines q.readings before) run.telling) (sym c.requires.bare) c.requires.so.told) in
    let told = subst (λ (q : Planned). AreTexts (line_results lines q.readings (before ++ c.as_slice.result.now)) texts) c.requires.bare
    (c.in_ok-texts.ensures (line_results lines c.args.plan.now.readings (before ++ c.as_slice.result.now)) tells) in
    let whole = subst (λ (given : List (Option Answer)). AreTexts (line_results lines plan.readings given) texts) all told in
    let rows = subst (λ (readings : List Reading). AreTexts (line_results lines readings (answers_of plan)) texts) c.requires.fits whole in
    let once = each-once lines (answers_of plan) texts (answered_lines plan lines (answers_of plan) c.requires.fits refl) rows in
    let records = c.in_ok-records.records in
    let are : AreEntries (last plan) records = record {
      rising = c.in_ok-records.ensures.rising;
      same = λ k. ap (λ (r : Entries). record_at r k) c.in_ok-records.ensures.same ∙ c.requires.so.replayed.records k ∙ ap (λ n. after plan n k) c.requires.all;
    } in
    let count : c.len.result ≡ length plan.readings = c.len.ensures.len ∙ sym (length-map c.readings.result.now reading_at) ∙ ap (λ (rs : List Reading). length rs) c.readings.ensures.readings ∙ ap (λ (q : Planned). length q.readings) c.requires.bare in
    let tried = ap (λ (attempts : Vec ℕ Global). attempts.items) c.put_together-output.ensures.attempts ∙ search rules ∙ ap (λ n. replicate n 0) count in
    output_made plan lines (answers_of plan) records c.in_ok-tables.tables texts _ c.put_together-output.result
    c.requires.fits refl are c.in_ok-tables.ensures rows once
    c.put_together-output.ensures.tables c.put_together-output.ensures.results tried
