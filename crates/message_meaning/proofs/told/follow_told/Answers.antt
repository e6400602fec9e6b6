use Rattle.std.proofs.lemmas.Result.{err_from_is_err_and}
use Rattle.read_set.specs.AsRecorded.{followed}
use Rattle.read_set.specs.Meaning.{rule_of, rule_with}
use Rattle.read_set.proofs.Following.{goes_on, stop_then}
use Rattle.read_set.proofs.Gaining.{gains_first, gains_then}
use Rattle.message_meaning.proofs.told.follow_told.Goals as goal

pub returns-in_err-ruled-clause-gives : goal.returns-in_err-ruled-clause-gives
unfolding rule_with
returns-in_err-ruled-clause-gives g c =
    let p = err_from_is_err_and c.from_residual.result c.from_residual.ensures.1 in
    let line = c.args.line.now in
    rw (p.1, p.2) (stop_then _ (rule_of line.policy.now line.number line.date c.args.act.now) (followed line.policy.now line.number line.date c.args.act.now c.args.deed.now) _ c.in_err-ruled.ensures.gives)

pub returns-in_err-ruled-clause-keeps : goal.returns-in_err-ruled-clause-keeps
unfolding rule_with
returns-in_err-ruled-clause-keeps g c =
    let line = c.args.line.now in
    gains_first _ _ (rule_of line.policy.now line.number line.date c.args.act.now) (followed line.policy.now line.number line.date c.args.act.now c.args.deed.now) c.in_err-ruled.ensures.keeps

pub returns-clause-gives : goal.returns-clause-gives
unfolding rule_with
returns-clause-gives g c =
    let line = c.args.line.now in
    goes_on _ _ (rule_of line.policy.now line.number line.date c.args.act.now) (followed line.policy.now line.number line.date c.args.act.now c.args.deed.now) c.in_ok-ruled.ruled _
    c.follow_up.ensures.keeps.grows c.in_ok-ruled.ensures.gives c.follow_up.ensures.gives

pub returns-clause-keeps : goal.returns-clause-keeps
unfolding rule_with
returns-clause-keeps g c =
    let line = c.args.line.now in
    gains_then _ _ _ (rule_of line.policy.now line.number line.date c.args.act.now) (followed line.policy.now line.number line.date c.args.act.now c.args.deed.now) c.in_ok-ruled.ruled
    c.in_ok-ruled.ensures.gives c.in_ok-ruled.ensures.keeps c.follow_up.ensures.keeps
