use Rattle.std.proofs.Common.{◌∙◌, [], ap, inl, inr, map, refl, sym}
use Rattle.std.proofs.lemmas.Result.{err_from_is_err_and}
use Rattle.std.specs.Prelude.{string_bytes}
use Rattle.whole_run.specs.Sources.{paths_in}
use Rattle.whole_run.proofs.Looks.{looked, looks_after}
use Rattle.whole_run.proofs.loss.refuse_loss.Goals as goal

pub returns-in_err-inputs-clause-stops : goal.returns-in_err-inputs-clause-stops
returns-in_err-inputs-clause-stops g c =
    let p = err_from_is_err_and c.from_residual.result c.from_residual.ensures.1 in rw (p.1) ([], refl, inr (tt, p.2))

pub returns-in_err-outputs-clause-stops : goal.returns-in_err-outputs-clause-stops
returns-in_err-outputs-clause-stops g c =
    let p = err_from_is_err_and c.from_residual-in_err-outputs.result c.from_residual-in_err-outputs.ensures.1 in rw (p.1) ([], refl, inr (tt, p.2))

pub returns-in_err-written-clause-stops : goal.returns-in_err-written-clause-stops
returns-in_err-written-clause-stops g c =
    let p = err_from_is_err_and c.from_residual-in_err-written.result c.from_residual-in_err-written.ensures.1 in rw (p.1)
    (let d = looks_after _ _ _ _ _ c.in_ok-read.ensures.found c.in_err-written.ensures.stops in (d.0, d.1, inr (d.2, p.2)))

pub returns-in-Some-clause-stops : goal.returns-in-Some-clause-stops
returns-in-Some-clause-stops g c =
    let d = looked c.args.options.now _ _ _ _ _ _ _ _ (ap (map string_bytes) c.as_slice.ensures.value ∙ c.in_ok-inputs.ensures)
    (ap (map string_bytes) c.as_slice-2.ensures.value ∙ (c.in_ok-outputs.ensures ∙ ap paths_in c.as_str.ensures.value))
    c.in_ok-read.ensures.found c.in_ok-written.ensures.found (sym c.in-Some.is ∙ (rw (c.as_slice-3.ensures.value, c.as_slice-4.ensures.value) at c.lost.ensures))
    in (d.0, d.1, inl (c.in-Some.input, d.2, c.of_loss.ensures))

pub returns-clause-apart : goal.returns-clause-apart
returns-clause-apart g c =
    looked c.args.options.now _ _ _ _ _ _ _ _ (ap (map string_bytes) c.as_slice.ensures.value ∙ c.in_ok-inputs.ensures)
    (ap (map string_bytes) c.as_slice-2.ensures.value ∙ (c.in_ok-outputs.ensures ∙ ap paths_in c.as_str.ensures.value))
    c.in_ok-read.ensures.found c.in_ok-written.ensures.found (sym c.in-None.is ∙ (rw (c.as_slice-3.ensures.value, c.as_slice-4.ensures.value) at c.lost.ensures))
