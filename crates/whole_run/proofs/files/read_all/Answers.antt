-- Each exit has the reads that were given before it, and the one that it stops at.
use Rattle.std.proofs.Common.{ap, codes, refl}
use Rattle.std.proofs.lemmas.Result.{err_from_is_err_and}
use Rattle.outside.specs.Files.{in_folder}
use Rattle.whole_run.proofs.Steps.{behind, behind_absent, here}
use Rattle.whole_run.proofs.files.read_all.Goals as goal

pub returns-in_err-policy-clause-stops : goal.returns-in_err-policy-clause-stops
returns-in_err-policy-clause-stops g c =
    let p = err_from_is_err_and c.from_residual.result c.from_residual.ensures.1 in rw (p.1, p.2)
    (here _ _ _ _ _ _ _ c.as_str.ensures.value c.in_err-policy.ensures.stops)

pub returns-in_err-patrons-clause-stops : goal.returns-in_err-patrons-clause-stops
returns-in_err-patrons-clause-stops g c =
    let p = err_from_is_err_and c.from_residual-in_err-patrons.result c.from_residual-in_err-patrons.ensures.1 in rw (p.1, p.2)
    (behind _ _ _ _ _ _ _ _ _ c.in_ok-policy.ensures.given c.as_str.ensures.value
    (here _ _ _ _ _ _ _ (ap (λ b. in_folder b (codes "patrons.csv")) c.as_str-base.ensures.value) c.in_err-patrons.ensures.stops))

pub returns-in_err-items-clause-stops : goal.returns-in_err-items-clause-stops
returns-in_err-items-clause-stops g c =
    let p = err_from_is_err_and c.from_residual-in_err-items.result c.from_residual-in_err-items.ensures.1 in rw (p.1, p.2)
    (behind _ _ _ _ _ _ _ _ _ c.in_ok-policy.ensures.given c.as_str.ensures.value
    (behind _ _ _ _ _ _ _ _ _ c.in_ok-patrons.ensures.given (ap (λ b. in_folder b (codes "patrons.csv")) c.as_str-base.ensures.value)
    (here _ _ _ _ _ _ _ (ap (λ b. in_folder b (codes "items.csv")) c.as_str-base.ensures.value) c.in_err-items.ensures.stops)))

pub returns-in_err-loans-clause-stops : goal.returns-in_err-loans-clause-stops
returns-in_err-loans-clause-stops g c =
    let p = err_from_is_err_and c.from_residual-in_err-loans.result c.from_residual-in_err-loans.ensures.1 in rw (p.1, p.2)
    (behind _ _ _ _ _ _ _ _ _ c.in_ok-policy.ensures.given c.as_str.ensures.value
    (behind _ _ _ _ _ _ _ _ _ c.in_ok-patrons.ensures.given (ap (λ b. in_folder b (codes "patrons.csv")) c.as_str-base.ensures.value)
    (behind _ _ _ _ _ _ _ _ _ c.in_ok-items.ensures.given (ap (λ b. in_folder b (codes "items.csv")) c.as_str-base.ensures.value)
    (here _ _ _ _ _ _ _ (ap (λ b. in_folder b (codes "loans.csv")) c.as_str-base.ensures.value) c.in_err-loans.ensures.stops))))

pub returns-in_err-fees-clause-stops : goal.returns-in_err-fees-clause-stops
returns-in_err-fees-clause-stops g c =
    let p = err_from_is_err_and c.from_residual-in_err-fees.result c.from_residual-in_err-fees.ensures.1 in rw (p.1, p.2)
    (behind _ _ _ _ _ _ _ _ _ c.in_ok-policy.ensures.given c.as_str.ensures.value
    (behind _ _ _ _ _ _ _ _ _ c.in_ok-patrons.ensures.given (ap (λ b. in_folder b (codes "patrons.csv")) c.as_str-base.ensures.value)
    (behind _ _ _ _ _ _ _ _ _ c.in_ok-items.ensures.given (ap (λ b. in_folder b (codes "items.csv")) c.as_str-base.ensures.value)
    (behind _ _ _ _ _ _ _ _ _ c.in_ok-loans.ensures.given (ap (λ b. in_folder b (codes "loans.csv")) c.as_str-base.ensures.value)
    (here _ _ _ _ _ _ _ (ap (λ b. in_folder b (codes "fees.csv")) c.as_str-base.ensures.value) c.in_err-fees.ensures.stops)))))

pub returns-in_err-closed-clause-stops : goal.returns-in_err-closed-clause-stops
returns-in_err-closed-clause-stops g c =
    let p = err_from_is_err_and c.from_residual-in_err-closed.result c.from_residual-in_err-closed.ensures.1 in rw (p.1, p.2)
    (behind _ _ _ _ _ _ _ _ _ c.in_ok-policy.ensures.given c.as_str.ensures.value
    (behind _ _ _ _ _ _ _ _ _ c.in_ok-patrons.ensures.given (ap (λ b. in_folder b (codes "patrons.csv")) c.as_str-base.ensures.value)
    (behind _ _ _ _ _ _ _ _ _ c.in_ok-items.ensures.given (ap (λ b. in_folder b (codes "items.csv")) c.as_str-base.ensures.value)
    (behind _ _ _ _ _ _ _ _ _ c.in_ok-loans.ensures.given (ap (λ b. in_folder b (codes "loans.csv")) c.as_str-base.ensures.value)
    (behind _ _ _ _ _ _ _ _ _ c.in_ok-fees.ensures.given (ap (λ b. in_folder b (codes "fees.csv")) c.as_str-base.ensures.value)
    (here _ _ _ _ _ _ _ (ap (λ b. in_folder b (codes "closed.csv")) c.as_str-base.ensures.value) c.in_err-closed.ensures.stops))))))

pub returns-in_err-holds-clause-stops : goal.returns-in_err-holds-clause-stops
returns-in_err-holds-clause-stops g c =
    let p = err_from_is_err_and c.from_residual-in_err-holds.result c.from_residual-in_err-holds.ensures.1 in rw (p.1, p.2)
    (behind _ _ _ _ _ _ _ _ _ c.in_ok-policy.ensures.given c.as_str.ensures.value
    (behind _ _ _ _ _ _ _ _ _ c.in_ok-patrons.ensures.given (ap (λ b. in_folder b (codes "patrons.csv")) c.as_str-base.ensures.value)
    (behind _ _ _ _ _ _ _ _ _ c.in_ok-items.ensures.given (ap (λ b. in_folder b (codes "items.csv")) c.as_str-base.ensures.value)
    (behind _ _ _ _ _ _ _ _ _ c.in_ok-loans.ensures.given (ap (λ b. in_folder b (codes "loans.csv")) c.as_str-base.ensures.value)
    (behind _ _ _ _ _ _ _ _ _ c.in_ok-fees.ensures.given (ap (λ b. in_folder b (codes "fees.csv")) c.as_str-base.ensures.value)
    (behind _ _ _ _ _ _ _ _ _ c.in_ok-closed.ensures.given (ap (λ b. in_folder b (codes "closed.csv")) c.as_str-base.ensures.value)
    (here _ _ _ _ _ _ _ (ap (λ b. in_folder b (codes "holds.csv")) c.as_str-base.ensures.value) c.in_err-holds.ensures.stops)))))))

pub returns-in_err-journal-clause-stops : goal.returns-in_err-journal-clause-stops
returns-in_err-journal-clause-stops g c =
    let p = err_from_is_err_and c.from_residual-in_err-journal.result c.from_residual-in_err-journal.ensures.1 in rw (p.1, p.2)
    (behind _ _ _ _ _ _ _ _ _ c.in_ok-policy.ensures.given c.as_str.ensures.value
    (behind _ _ _ _ _ _ _ _ _ c.in_ok-patrons.ensures.given (ap (λ b. in_folder b (codes "patrons.csv")) c.as_str-base.ensures.value)
    (behind _ _ _ _ _ _ _ _ _ c.in_ok-items.ensures.given (ap (λ b. in_folder b (codes "items.csv")) c.as_str-base.ensures.value)
    (behind _ _ _ _ _ _ _ _ _ c.in_ok-loans.ensures.given (ap (λ b. in_folder b (codes "loans.csv")) c.as_str-base.ensures.value)
    (behind _ _ _ _ _ _ _ _ _ c.in_ok-fees.ensures.given (ap (λ b. in_folder b (codes "fees.csv")) c.as_str-base.ensures.value)
    (behind _ _ _ _ _ _ _ _ _ c.in_ok-closed.ensures.given (ap (λ b. in_folder b (codes "closed.csv")) c.as_str-base.ensures.value)
    (behind_absent _ _ _ _ _ _ _ _ _ c.in_ok-holds.ensures.given.1 c.in_ok-holds.ensures.given.2 (ap (λ b. in_folder b (codes "holds.csv")) c.as_str-base.ensures.value)
    (here _ _ _ _ _ _ _ c.as_str-2.ensures.value c.in_err-journal.ensures.stops))))))))

pub returns-clause-given : goal.returns-clause-given
returns-clause-given g c = (_, rw (c.in_ok-journal.ensures.given, c.in_ok-holds.ensures.given.2, c.in_ok-closed.ensures.given, c.in_ok-fees.ensures.given, c.in_ok-loans.ensures.given, c.in_ok-items.ensures.given, c.in_ok-patrons.ensures.given, c.in_ok-policy.ensures.given, c.as_str.ensures.value, c.as_str-base.ensures.value, c.as_str-2.ensures.value) refl, (c.in_ok-holds.ensures.given.0, c.in_ok-holds.ensures.given.1, c.of.ensures, refl))
