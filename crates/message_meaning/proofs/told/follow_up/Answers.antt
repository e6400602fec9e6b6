use Rattle.std.proofs.Common.{◌∙◌, ap, sym}
use Rattle.std.proofs.lemmas.Result.{err_from_is_err_and}
use Rattle.read_set.specs.AsRecorded.{answering, carried}
use Rattle.read_set.specs.Asks.{Give, Done}
use Rattle.read_set.proofs.Following.{follow_then, stop_then}
use Rattle.read_set.proofs.Gaining.{gains_first}
use Rattle.message_meaning.proofs.Unlike.{not_agreed}
use Rattle.message_meaning.proofs.told.follow_up.Goals as goal

pub returns-in_err-done-clause-gives : goal.returns-in_err-done-clause-gives
returns-in_err-done-clause-gives g c =
    let p = err_from_is_err_and c.from_residual-in_err-done.result c.from_residual-in_err-done.ensures.1 in
    let line = c.args.line.now in
    let unlike = not_agreed line.policy.now line.number line.date c.args.act.now c.args.deed.now c.args.ruled (sym c.in_ok-agrees_with.ensures ∙ c.if-branch.false) in
    rw (p.1, p.2, unlike) (stop_then _ (carried line.policy.now line.number line.date c.args.act.now c.args.deed.now) (λ done. Give (answering c.args.ruled.answer done)) _ c.in_err-done.ensures.gives)

pub returns-in_err-done-clause-keeps : goal.returns-in_err-done-clause-keeps
returns-in_err-done-clause-keeps g c =
    let line = c.args.line.now in
    let unlike = not_agreed line.policy.now line.number line.date c.args.act.now c.args.deed.now c.args.ruled (sym c.in_ok-agrees_with.ensures ∙ c.if-branch.false) in
    rw unlike (gains_first _ _ (carried line.policy.now line.number line.date c.args.act.now c.args.deed.now) (λ done. Give (answering c.args.ruled.answer done)) c.in_err-done.ensures.keeps)

pub returns-clause-gives : goal.returns-clause-gives
returns-clause-gives g c =
    let line = c.args.line.now in
    let unlike = not_agreed line.policy.now line.number line.date c.args.act.now c.args.deed.now c.args.ruled (sym c.in_ok-agrees_with.ensures ∙ c.if-branch.false) in
    rw unlike (follow_then _ (carried line.policy.now line.number line.date c.args.act.now c.args.deed.now) (λ done. Give (answering c.args.ruled.answer done)) c.in_ok-done.done _ c.in_ok-done.ensures.gives (ap Done (sym c.answering.ensures)))

pub returns-clause-keeps : goal.returns-clause-keeps
returns-clause-keeps g c =
    let line = c.args.line.now in
    let unlike = not_agreed line.policy.now line.number line.date c.args.act.now c.args.deed.now c.args.ruled (sym c.in_ok-agrees_with.ensures ∙ c.if-branch.false) in
    rw unlike (gains_first _ _ (carried line.policy.now line.number line.date c.args.act.now c.args.deed.now) (λ done. Give (answering c.args.ruled.answer done)) c.in_ok-done.ensures.keeps)
