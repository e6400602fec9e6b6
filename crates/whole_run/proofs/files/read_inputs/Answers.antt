use Rattle.std.proofs.Common.{inl}
use Rattle.std.proofs.lemmas.Result.{IfErr-weaker, IfOk-weaker, err_from_is_err_and}
use Rattle.whole_run.proofs.Looks.{given, stopped}
use Rattle.whole_run.proofs.files.read_inputs.Goals as goal

pub returns-in_err-refuse_loss-clause-stops : goal.returns-in_err-refuse_loss-clause-stops
returns-in_err-refuse_loss-clause-stops g c =
    let p = err_from_is_err_and c.from_residual.result c.from_residual.ensures.1 in rw (p.1, p.2)
    (let d = c.in_err-refuse_loss.ensures.stops in (d.0, d.1, inl d.2))

pub returns-clause-given : goal.returns-clause-given
returns-clause-given g c =
    IfOk-weaker c.read_all.result _ _ (λ i r. given c.args.options.now i _ _ _ c.in_ok-refuse_loss.ensures.apart r) c.read_all.ensures.given

pub returns-clause-stops : goal.returns-clause-stops
returns-clause-stops g c =
    IfErr-weaker c.read_all.result _ _ (λ stop r. stopped c.args.options.now stop _ _ _ c.in_ok-refuse_loss.ensures.apart r) c.read_all.ensures.stops
