use Rattle.std.proofs.Common.{◌++◌, ◌∷◌, [], string_bytes}
use Rattle.std.proofs.lemmas.Result.{err_from_is_err_and}
use Rattle.outside.proofs.ReadSteps.{behind, here, more, moved}
use Rattle.outside.specs.declared.reading.IfMissing.TheVariants.{Fails}
use Rattle.why_run.specs.Sources.{file_if_named, table_texts, tables_if_named, tables_in, text_if_named, texts_if_named}
use Rattle.why_run.proofs.files.read_all.Goals as goal

pub returns-in_err-policy-clause-stops : goal.returns-in_err-policy-clause-stops
returns-in_err-policy-clause-stops g c =
    let p = err_from_is_err_and c.from_residual.result c.from_residual.ensures.1 in rw (p.1, p.2)
    (here ((string_bytes c.args.options.now.policy, Fails) ∷ []) (tables_in (string_bytes c.args.options.now.base) ++ ((string_bytes c.args.options.now.journal, Fails) ∷ [] ++ (file_if_named c.args.options.now.report ++ (tables_if_named c.args.options.now.out)))) _ _ _ (rw (c.as_str.ensures.value) at c.in_err-policy.ensures.stops))

pub returns-in_err-base-clause-stops : goal.returns-in_err-base-clause-stops
returns-in_err-base-clause-stops g c =
    let p = err_from_is_err_and c.from_residual-in_err-base.result c.from_residual-in_err-base.ensures.1 in rw (p.1, p.2)
    (behind ((string_bytes c.args.options.now.policy, Fails) ∷ []) (c.in_ok-policy.policy.items ∷ []) (tables_in (string_bytes c.args.options.now.base) ++ ((string_bytes c.args.options.now.journal, Fails) ∷ [] ++ (file_if_named c.args.options.now.report ++ (tables_if_named c.args.options.now.out)))) _ _ _ _ (rw (c.as_str.ensures.value) at c.in_ok-policy.ensures.read)
    (here (tables_in (string_bytes c.args.options.now.base)) ((string_bytes c.args.options.now.journal, Fails) ∷ [] ++ (file_if_named c.args.options.now.report ++ (tables_if_named c.args.options.now.out))) _ _ _ (rw (c.as_str-2.ensures.value) at c.in_err-base.ensures.stops)))

pub returns-in_err-journal-clause-stops : goal.returns-in_err-journal-clause-stops
returns-in_err-journal-clause-stops g c =
    let p = err_from_is_err_and c.from_residual-in_err-journal.result c.from_residual-in_err-journal.ensures.1 in rw (p.1, p.2)
    (behind ((string_bytes c.args.options.now.policy, Fails) ∷ []) (c.in_ok-policy.policy.items ∷ []) (tables_in (string_bytes c.args.options.now.base) ++ ((string_bytes c.args.options.now.journal, Fails) ∷ [] ++ (file_if_named c.args.options.now.report ++ (tables_if_named c.args.options.now.out)))) _ _ _ _ (rw (c.as_str.ensures.value) at c.in_ok-policy.ensures.read)
    (behind (tables_in (string_bytes c.args.options.now.base)) (table_texts c.in_ok-base.base) ((string_bytes c.args.options.now.journal, Fails) ∷ [] ++ (file_if_named c.args.options.now.report ++ (tables_if_named c.args.options.now.out))) _ _ _ _ (moved tables_in _ _ (table_texts c.in_ok-base.base) _ _ c.as_str-2.ensures.value c.in_ok-base.ensures.read)
    (here ((string_bytes c.args.options.now.journal, Fails) ∷ []) (file_if_named c.args.options.now.report ++ (tables_if_named c.args.options.now.out)) _ _ _ (rw (c.as_str-3.ensures.value) at c.in_err-journal.ensures.stops))))

pub returns-in_err-report-clause-stops : goal.returns-in_err-report-clause-stops
returns-in_err-report-clause-stops g c =
    let p = err_from_is_err_and c.from_residual-in_err-report.result c.from_residual-in_err-report.ensures.1 in rw (p.1, p.2)
    (behind ((string_bytes c.args.options.now.policy, Fails) ∷ []) (c.in_ok-policy.policy.items ∷ []) (tables_in (string_bytes c.args.options.now.base) ++ ((string_bytes c.args.options.now.journal, Fails) ∷ [] ++ (file_if_named c.args.options.now.report ++ (tables_if_named c.args.options.now.out)))) _ _ _ _ (rw (c.as_str.ensures.value) at c.in_ok-policy.ensures.read)
    (behind (tables_in (string_bytes c.args.options.now.base)) (table_texts c.in_ok-base.base) ((string_bytes c.args.options.now.journal, Fails) ∷ [] ++ (file_if_named c.args.options.now.report ++ (tables_if_named c.args.options.now.out))) _ _ _ _ (moved tables_in _ _ (table_texts c.in_ok-base.base) _ _ c.as_str-2.ensures.value c.in_ok-base.ensures.read)
    (behind ((string_bytes c.args.options.now.journal, Fails) ∷ []) (c.in_ok-journal.journal.items ∷ []) (file_if_named c.args.options.now.report ++ (tables_if_named c.args.options.now.out)) _ _ _ _ (rw (c.as_str-3.ensures.value) at c.in_ok-journal.ensures.read)
    (here (file_if_named c.args.options.now.report) (tables_if_named c.args.options.now.out) _ _ _ c.in_err-report.ensures.stops))))

pub returns-in_err-out-clause-stops : goal.returns-in_err-out-clause-stops
returns-in_err-out-clause-stops g c =
    let p = err_from_is_err_and c.from_residual-in_err-out.result c.from_residual-in_err-out.ensures.1 in rw (p.1, p.2)
    (behind ((string_bytes c.args.options.now.policy, Fails) ∷ []) (c.in_ok-policy.policy.items ∷ []) (tables_in (string_bytes c.args.options.now.base) ++ ((string_bytes c.args.options.now.journal, Fails) ∷ [] ++ (file_if_named c.args.options.now.report ++ (tables_if_named c.args.options.now.out)))) _ _ _ _ (rw (c.as_str.ensures.value) at c.in_ok-policy.ensures.read)
    (behind (tables_in (string_bytes c.args.options.now.base)) (table_texts c.in_ok-base.base) ((string_bytes c.args.options.now.journal, Fails) ∷ [] ++ (file_if_named c.args.options.now.report ++ (tables_if_named c.args.options.now.out))) _ _ _ _ (moved tables_in _ _ (table_texts c.in_ok-base.base) _ _ c.as_str-2.ensures.value c.in_ok-base.ensures.read)
    (behind ((string_bytes c.args.options.now.journal, Fails) ∷ []) (c.in_ok-journal.journal.items ∷ []) (file_if_named c.args.options.now.report ++ (tables_if_named c.args.options.now.out)) _ _ _ _ (rw (c.as_str-3.ensures.value) at c.in_ok-journal.ensures.read)
    (behind (file_if_named c.args.options.now.report) (text_if_named c.in_ok-report.report) (tables_if_named c.args.options.now.out) _ _ _ _ c.in_ok-report.ensures.read
    c.in_err-out.ensures.stops))))

pub returns-clause-read : goal.returns-clause-read
returns-clause-read g c =
    more ((string_bytes c.args.options.now.policy, Fails) ∷ []) (c.in_ok-policy.policy.items ∷ []) (tables_in (string_bytes c.args.options.now.base) ++ ((string_bytes c.args.options.now.journal, Fails) ∷ [] ++ (file_if_named c.args.options.now.report ++ (tables_if_named c.args.options.now.out)))) (table_texts c.in_ok-base.base ++ (c.in_ok-journal.journal.items ∷ [] ++ (text_if_named c.in_ok-report.report ++ (texts_if_named c.in_ok-out.out)))) _ _ _ (rw (c.as_str.ensures.value) at c.in_ok-policy.ensures.read)
    (more (tables_in (string_bytes c.args.options.now.base)) (table_texts c.in_ok-base.base) ((string_bytes c.args.options.now.journal, Fails) ∷ [] ++ (file_if_named c.args.options.now.report ++ (tables_if_named c.args.options.now.out))) (c.in_ok-journal.journal.items ∷ [] ++ (text_if_named c.in_ok-report.report ++ (texts_if_named c.in_ok-out.out))) _ _ _ (moved tables_in _ _ (table_texts c.in_ok-base.base) _ _ c.as_str-2.ensures.value c.in_ok-base.ensures.read)
    (more ((string_bytes c.args.options.now.journal, Fails) ∷ []) (c.in_ok-journal.journal.items ∷ []) (file_if_named c.args.options.now.report ++ (tables_if_named c.args.options.now.out)) (text_if_named c.in_ok-report.report ++ (texts_if_named c.in_ok-out.out)) _ _ _ (rw (c.as_str-3.ensures.value) at c.in_ok-journal.ensures.read)
    (more (file_if_named c.args.options.now.report) (text_if_named c.in_ok-report.report) (tables_if_named c.args.options.now.out) (texts_if_named c.in_ok-out.out) _ _ _ c.in_ok-report.ensures.read
    c.in_ok-out.ensures.read)))
