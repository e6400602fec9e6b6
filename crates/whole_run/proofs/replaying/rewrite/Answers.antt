use Rattle.std.proofs.Common.{◌++◌, inl, inr, refl}
use Rattle.std.proofs.lemmas.Result.{err_from_is_err_and}
use Rattle.whole_run.specs.Run.{writes_of}
use Rattle.outside.proofs.Steps.{both}
use Rattle.whole_run.proofs.replaying.rewrite.Goals as goal

pub returns-in_err-inputs-clause-stops : goal.returns-in_err-inputs-clause-stops
returns-in_err-inputs-clause-stops g c =
    let p = err_from_is_err_and c.from_residual.result c.from_residual.ensures.1 in rw (p.1, p.2)
    (let d = c.in_err-inputs.ensures.stops in (d.0, d.1, inl d.2))

pub returns-in-Err-clause-stops : goal.returns-in-Err-clause-stops
returns-in-Err-clause-stops g c =
    let r = c.in_ok-inputs.ensures.given in
    (r.0, r.1, inr (inl (c.in-Err.fault, (c.in_ok-inputs.inputs, r.2, c.in-Err.ensures.output), c.stop_of.ensures)))

pub returns-in_err-write_output-clause-stops : goal.returns-in_err-write_output-clause-stops
returns-in_err-write_output-clause-stops g c =
    let p = err_from_is_err_and c.from_residual-in_err-write_output.result c.from_residual-in_err-write_output.ensures.1 in rw (p.1, p.2)
    (let r = c.in_ok-inputs.ensures.given in
    let w = rw (c.as_str.ensures.value) at c.in_err-write_output.ensures.stops in (
      r.0 ++ w.0,
      both r.0 w.0 _ _ _ r.1 w.1,
      inr (inr (inl (c.in-Ok.output, r.0, w.0, (c.in_ok-inputs.inputs, r.2, c.in-Ok.ensures.output), w.2, refl))),
    ))

pub returns-clause-written : goal.returns-clause-written
returns-clause-written g c =
    let r = c.in_ok-inputs.ensures.given in
    let w = rw (c.as_str.ensures.value) at c.in_ok-write_output.ensures.written in (
      r.0 ++ writes_of c.args.options.now c.in-Ok.output,
      both r.0 (writes_of c.args.options.now c.in-Ok.output) _ _ _ r.1 w,
      (c.in-Ok.output, r.0, (c.in_ok-inputs.inputs, r.2, c.in-Ok.ensures.output), refl, refl),
    )
