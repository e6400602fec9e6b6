use Rattle.std.proofs.Common.{inl, inr, refl}
use Rattle.std.proofs.lemmas.Result.{err_from_is_err_and}
use Rattle.why_run.proofs.whole.make.Goals as goal

pub returns-in_err-texts-clause-stops : goal.returns-in_err-texts-clause-stops
returns-in_err-texts-clause-stops g c =
    let p = err_from_is_err_and c.from_residual.result c.from_residual.ensures.1 in rw (p.1, p.2)
    (let s = c.in_err-texts.ensures.stops in (s.0, s.1, inl (_, refl, s.2)))

pub returns-in-Ok-clause-made : goal.returns-in-Ok-clause-made
returns-in-Ok-clause-made g c = let r = c.in_ok-texts.ensures.read in (r.0, r.1, (_, r.2, c.in-Ok.ensures))

pub returns-in-Err-clause-stops : goal.returns-in-Err-clause-stops
returns-in-Err-clause-stops g c =
    let r = c.in_ok-texts.ensures.read in (r.0, r.1, inr (c.in-Err.why, refl, (_, r.2, c.in-Err.ensures)))
