use Rattle.std.proofs.Common.{◌++◌, ◌∷◌, [], codes, string_bytes}
use Rattle.std.proofs.lemmas.Result.{err_from_is_err_and}
use Rattle.outside.proofs.ReadSteps.{behind, here, more, must}
use Rattle.outside.specs.declared.reading.IfMissing.TheVariants.{Fails}
use Rattle.page_run.proofs.files.read_result.Goals as goal

pub returns-in_err-journal-clause-stops : goal.returns-in_err-journal-clause-stops
returns-in_err-journal-clause-stops g c =
    let p = err_from_is_err_and c.from_residual.result c.from_residual.ensures.1 in rw (p.1, p.2)
    (here ((string_bytes c.args.options.now.journal, Fails) ∷ []) ((must (string_bytes c.args.options.now.out) (codes "answers.csv")) ++ ((must (string_bytes c.args.options.now.out) (codes "passed.csv")) ++ ((must (string_bytes c.args.options.now.out) (codes "report.csv"))))) _ _ _ (rw (c.as_str.ensures.value) at c.in_err-journal.ensures.stops))

pub returns-in_err-answers-clause-stops : goal.returns-in_err-answers-clause-stops
returns-in_err-answers-clause-stops g c =
    let p = err_from_is_err_and c.from_residual-in_err-answers.result c.from_residual-in_err-answers.ensures.1 in rw (p.1, p.2)
    (behind ((string_bytes c.args.options.now.journal, Fails) ∷ []) (c.in_ok-journal.journal.items ∷ []) ((must (string_bytes c.args.options.now.out) (codes "answers.csv")) ++ ((must (string_bytes c.args.options.now.out) (codes "passed.csv")) ++ ((must (string_bytes c.args.options.now.out) (codes "report.csv"))))) _ _ _ _ (rw (c.as_str.ensures.value) at c.in_ok-journal.ensures.read)
    (here (must (string_bytes c.args.options.now.out) (codes "answers.csv")) ((must (string_bytes c.args.options.now.out) (codes "passed.csv")) ++ ((must (string_bytes c.args.options.now.out) (codes "report.csv")))) _ _ _ (rw (c.as_str-out.ensures.value) at c.in_err-answers.ensures.stops)))

pub returns-in_err-passed-clause-stops : goal.returns-in_err-passed-clause-stops
returns-in_err-passed-clause-stops g c =
    let p = err_from_is_err_and c.from_residual-in_err-passed.result c.from_residual-in_err-passed.ensures.1 in rw (p.1, p.2)
    (behind ((string_bytes c.args.options.now.journal, Fails) ∷ []) (c.in_ok-journal.journal.items ∷ []) ((must (string_bytes c.args.options.now.out) (codes "answers.csv")) ++ ((must (string_bytes c.args.options.now.out) (codes "passed.csv")) ++ ((must (string_bytes c.args.options.now.out) (codes "report.csv"))))) _ _ _ _ (rw (c.as_str.ensures.value) at c.in_ok-journal.ensures.read)
    (behind (must (string_bytes c.args.options.now.out) (codes "answers.csv")) (c.in_ok-answers.answers.items ∷ []) ((must (string_bytes c.args.options.now.out) (codes "passed.csv")) ++ ((must (string_bytes c.args.options.now.out) (codes "report.csv")))) _ _ _ _ (rw (c.as_str-out.ensures.value) at c.in_ok-answers.ensures.read)
    (here (must (string_bytes c.args.options.now.out) (codes "passed.csv")) (must (string_bytes c.args.options.now.out) (codes "report.csv")) _ _ _ (rw (c.as_str-out.ensures.value) at c.in_err-passed.ensures.stops))))

pub returns-in_err-report-clause-stops : goal.returns-in_err-report-clause-stops
returns-in_err-report-clause-stops g c =
    let p = err_from_is_err_and c.from_residual-in_err-report.result c.from_residual-in_err-report.ensures.1 in rw (p.1, p.2)
    (behind ((string_bytes c.args.options.now.journal, Fails) ∷ []) (c.in_ok-journal.journal.items ∷ []) ((must (string_bytes c.args.options.now.out) (codes "answers.csv")) ++ ((must (string_bytes c.args.options.now.out) (codes "passed.csv")) ++ ((must (string_bytes c.args.options.now.out) (codes "report.csv"))))) _ _ _ _ (rw (c.as_str.ensures.value) at c.in_ok-journal.ensures.read)
    (behind (must (string_bytes c.args.options.now.out) (codes "answers.csv")) (c.in_ok-answers.answers.items ∷ []) ((must (string_bytes c.args.options.now.out) (codes "passed.csv")) ++ ((must (string_bytes c.args.options.now.out) (codes "report.csv")))) _ _ _ _ (rw (c.as_str-out.ensures.value) at c.in_ok-answers.ensures.read)
    (behind (must (string_bytes c.args.options.now.out) (codes "passed.csv")) (c.in_ok-passed.passed.items ∷ []) (must (string_bytes c.args.options.now.out) (codes "report.csv")) _ _ _ _ (rw (c.as_str-out.ensures.value) at c.in_ok-passed.ensures.read)
    ((rw (c.as_str-out.ensures.value) at c.in_err-report.ensures.stops)))))

pub returns-clause-read : goal.returns-clause-read
returns-clause-read g c =
    more ((string_bytes c.args.options.now.journal, Fails) ∷ []) (c.in_ok-journal.journal.items ∷ []) ((must (string_bytes c.args.options.now.out) (codes "answers.csv")) ++ ((must (string_bytes c.args.options.now.out) (codes "passed.csv")) ++ ((must (string_bytes c.args.options.now.out) (codes "report.csv"))))) ((c.in_ok-answers.answers.items ∷ []) ++ ((c.in_ok-passed.passed.items ∷ []) ++ ((c.in_ok-report.report.items ∷ [])))) _ _ _ (rw (c.as_str.ensures.value) at c.in_ok-journal.ensures.read)
    (more (must (string_bytes c.args.options.now.out) (codes "answers.csv")) (c.in_ok-answers.answers.items ∷ []) ((must (string_bytes c.args.options.now.out) (codes "passed.csv")) ++ ((must (string_bytes c.args.options.now.out) (codes "report.csv")))) ((c.in_ok-passed.passed.items ∷ []) ++ ((c.in_ok-report.report.items ∷ []))) _ _ _ (rw (c.as_str-out.ensures.value) at c.in_ok-answers.ensures.read)
    (more (must (string_bytes c.args.options.now.out) (codes "passed.csv")) (c.in_ok-passed.passed.items ∷ []) (must (string_bytes c.args.options.now.out) (codes "report.csv")) (c.in_ok-report.report.items ∷ []) _ _ _ (rw (c.as_str-out.ensures.value) at c.in_ok-passed.ensures.read)
    ((rw (c.as_str-out.ensures.value) at c.in_ok-report.ensures.read))))
