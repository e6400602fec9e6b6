use Rattle.std.proofs.Common.{◌∙◌, ap, codes, map, refl}
use Rattle.std.specs.Prelude.{string_bytes}
use Rattle.outside.specs.Files.{in_folder}
use Rattle.whole_run.proofs.Steps.{next}
use Rattle.whole_run.proofs.loss.paths_read.Goals as goal

pub returns : goal.returns
returns c = ap (map string_bytes) c.in_ok-vec.ensures.items ∙ next (c.in_ok-policy.ensures.ok ∙ c.as_str.ensures.value)
    (next (c.in_ok-patrons.ensures ∙ ap (λ b. in_folder b (codes "patrons.csv")) c.as_str-base.ensures.value)
    (next (c.in_ok-items.ensures ∙ ap (λ b. in_folder b (codes "items.csv")) c.as_str-base.ensures.value)
    (next (c.in_ok-loans.ensures ∙ ap (λ b. in_folder b (codes "loans.csv")) c.as_str-base.ensures.value)
    (next (c.in_ok-fees.ensures ∙ ap (λ b. in_folder b (codes "fees.csv")) c.as_str-base.ensures.value)
    (next (c.in_ok-closed.ensures ∙ ap (λ b. in_folder b (codes "closed.csv")) c.as_str-base.ensures.value)
    (next (c.in_ok-holds.ensures ∙ ap (λ b. in_folder b (codes "holds.csv")) c.as_str-base.ensures.value)
    (next (c.in_ok-journal.ensures.ok ∙ c.as_str-2.ensures.value)
    refl)))))))
