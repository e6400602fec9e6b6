use Rattle.std.proofs.Common.{ap, sym}
use Rattle.std.specs.Option.{option_copied}
use Rattle.std.specs.Prelude.{is_some}
use Rattle.read_set.specs.RenewAlls.{turns_of, turns_rule, none_renewed, all_renewed}
use Rattle.read_set.specs.Asks.{Give, Done}
use Rattle.read_set.proofs.Following.{follow_then}
use Rattle.read_set.proofs.Gaining.{gains_first}
use Rattle.loan_meaning.proofs.renew_alls.renew_each.Goals as goal

pub returns-clause-gives : goal.returns-clause-gives
returns-clause-gives g c =
    let first = rw (c.as_slice.ensures, c.in_ok-items.ensures, c.get.ensures, c.is_forced-forced.ensures) at c.in_ok-done.ensures.gives in
    follow_then _ (turns_rule c.args.line.now.policy.now c.args.line.now.number (is_some (option_copied c.args.named)) c.args.request.now c.args.line.now.date (turns_of (option_copied c.args.named) c.args.member.patron.loans) (none_renewed c.args.member)) (λ done. Give (all_renewed c.args.line.now.policy.now c.args.request.now c.args.line.now.date done)) c.in_ok-done.done _
    first (ap Done (sym c.in_ok-finish.ensures))

pub returns-clause-keeps : goal.returns-clause-keeps
returns-clause-keeps g c =
    let first = rw (c.as_slice.ensures, c.in_ok-items.ensures, c.get.ensures, c.is_forced-forced.ensures) at c.in_ok-done.ensures.keeps in
    gains_first _ _ (turns_rule c.args.line.now.policy.now c.args.line.now.number (is_some (option_copied c.args.named)) c.args.request.now c.args.line.now.date (turns_of (option_copied c.args.named) c.args.member.patron.loans) (none_renewed c.args.member)) (λ done. Give (all_renewed c.args.line.now.policy.now c.args.request.now c.args.line.now.date done)) first

pub returns-in_err-done-clause-keeps : goal.returns-in_err-done-clause-keeps
returns-in_err-done-clause-keeps g c =
    let first = rw (c.as_slice.ensures, c.in_ok-items.ensures, c.get.ensures, c.is_forced-forced.ensures) at c.in_err-done.ensures.keeps in
    gains_first _ _ (turns_rule c.args.line.now.policy.now c.args.line.now.number (is_some (option_copied c.args.named)) c.args.request.now c.args.line.now.date (turns_of (option_copied c.args.named) c.args.member.patron.loans) (none_renewed c.args.member)) (λ done. Give (all_renewed c.args.line.now.policy.now c.args.request.now c.args.line.now.date done)) first

pub returns-in_err-finish-clause-keeps : goal.returns-in_err-finish-clause-keeps
returns-in_err-finish-clause-keeps g c =
    let first = rw (c.as_slice.ensures, c.in_ok-items.ensures, c.get.ensures, c.is_forced-forced.ensures) at c.in_ok-done.ensures.keeps in
    gains_first _ _ (turns_rule c.args.line.now.policy.now c.args.line.now.number (is_some (option_copied c.args.named)) c.args.request.now c.args.line.now.date (turns_of (option_copied c.args.named) c.args.member.patron.loans) (none_renewed c.args.member)) (λ done. Give (all_renewed c.args.line.now.policy.now c.args.request.now c.args.line.now.date done)) first
