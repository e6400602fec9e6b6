use Rattle.std.proofs.Common.{◌∷◌, [], inl, inr, refl, string_bytes, subst}
use Rattle.std.proofs.lemmas.Result.{err_from_is_err_and}
use Rattle.outside.proofs.Steps.{both}
use Rattle.whole_run.specs.Checking.{IsText}
use Rattle.whole_run.proofs.checking.check.Goals as goal

pub returns-in_err-inputs-clause-stops : goal.returns-in_err-inputs-clause-stops
returns-in_err-inputs-clause-stops g c =
    let p = err_from_is_err_and c.from_residual.result c.from_residual.ensures.1 in rw (p.1, p.2)
    (let d = c.in_err-inputs.ensures.stops in (d.0, d.1, inl d.2))

pub returns-in_err-found-clause-stops : goal.returns-in_err-found-clause-stops
returns-in_err-found-clause-stops g c =
    let p = err_from_is_err_and c.from_residual-in_err-found.result c.from_residual-in_err-found.ensures.1 in rw (p.1, p.2)
    (let r = c.in_ok-inputs.ensures.given in (r.0, r.1, inr (inl (c.in_ok-inputs.inputs, r.2, c.in_err-found.ensures.err))))

pub returns-in_err-text-clause-stops : goal.returns-in_err-text-clause-stops
returns-in_err-text-clause-stops g c =
    let p = err_from_is_err_and c.from_residual-in_err-text.result c.from_residual-in_err-text.ensures.1 in rw (p.1)
    (let r = c.in_ok-inputs.ensures.given in (r.0, r.1, inr (inl (c.in_ok-inputs.inputs, r.2, inr p.2))))

pub returns-then-print-clause-ended : goal.returns-then-print-clause-ended
returns-then-print-clause-ended g c =
    let r = c.in_ok-inputs.ensures.given in
    let f = c.in_ok-found.ensures.found in
    let text = string_bytes c.in_ok-text.text in
    let faults = c.in_ok-found.found.faults.items in
    let is = subst (λ n. IsText c.args.options.now faults c.in_ok-found.found.sizes n text) f.4 c.in_ok-text.ensures in (
      _,
      both r.0 (_ ∷ []) _ _ _ r.1 (rw (c.if-print.true) at c.print.ensures),
      (faults, text, r.0, (c.in_ok-inputs.inputs, f.0, c.in_ok-found.found.sizes, r.2, f.1, f.2, f.3, is), refl, c.status-status.ensures),
    )

pub returns-clause-stops : goal.returns-clause-stops
returns-clause-stops g c =
    let r = c.in_ok-inputs.ensures.given in
    let f = c.in_ok-found.ensures.found in
    let text = string_bytes c.in_ok-text.text in
    let faults = c.in_ok-found.found.faults.items in
    let is = subst (λ n. IsText c.args.options.now faults c.in_ok-found.found.sizes n text) f.4 c.in_ok-text.ensures in (
      _,
      both r.0 (_ ∷ []) _ _ _ r.1 (rw (c.if-print.false) at c.print.ensures),
      inr (inr (faults, text, r.0, (c.in_ok-inputs.inputs, f.0, c.in_ok-found.found.sizes, r.2, f.1, f.2, f.3, is), refl, refl)),
    )
