use Rattle.std.proofs.Common.{◌∙◌, ap, codes, refl, map}
use Rattle.outside.specs.Places.{place_of}
use Rattle.outside.specs.Files.{place}
use Rattle.whole_run.proofs.Steps.{next}
use Rattle.whole_run.proofs.files.files_of_output.Goals as goal

pub returns : goal.returns
returns c = ap (map place_of) c.in_ok-vec.ensures.items ∙ next (c.in_ok-patrons.ensures ∙ ap (λ t. place c.args.folder.now (codes "patrons.csv", t)) c.as_slice.ensures.value)
    (next (c.in_ok-items.ensures ∙ ap (λ t. place c.args.folder.now (codes "items.csv", t)) c.as_slice-2.ensures.value)
    (next (c.in_ok-loans.ensures ∙ ap (λ t. place c.args.folder.now (codes "loans.csv", t)) c.as_slice-3.ensures.value)
    (next (c.in_ok-fees.ensures ∙ ap (λ t. place c.args.folder.now (codes "fees.csv", t)) c.as_slice-4.ensures.value)
    (next (c.in_ok-closed.ensures ∙ ap (λ t. place c.args.folder.now (codes "closed.csv", t)) c.as_slice-5.ensures.value)
    (next (c.in_ok-holds.ensures ∙ ap (λ t. place c.args.folder.now (codes "holds.csv", t)) c.as_slice-6.ensures.value)
    (next (c.in_ok-answers.ensures ∙ ap (λ t. place c.args.folder.now (codes "answers.csv", t)) c.as_slice-7.ensures.value)
    (next (c.in_ok-report.ensures ∙ ap (λ t. place c.args.folder.now (codes "report.csv", t)) c.as_slice-8.ensures.value)
    (next (c.in_ok-passed.ensures ∙ ap (λ t. place c.args.folder.now (codes "passed.csv", t)) c.as_slice-9.ensures.value)
    (refl)))))))))
