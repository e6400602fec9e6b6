use Rattle.std.proofs.Common.{ap, sym}
use Rattle.read_set.specs.Asks.{Give, Done}
use Rattle.read_set.specs.Lookups.{fee_at}
use Rattle.read_set.specs.Payments.{only_known}
use Rattle.read_set.proofs.Following.{follow_then}
use Rattle.read_set.proofs.Gaining.{gains_first}
use Rattle.message_meaning.proofs.payments.named_ids.Goals as goal

pub returns-clause-gives : goal.returns-clause-gives
returns-clause-gives g c =
    follow_then _ (fee_at c.args.id.now) (λ fee. Give (only_known c.args.id.now c.args.fees.now fee)) _ _
    c.in_ok-fee.ensures.gives (ap Done (sym c.in_ok-only.ensures))

pub returns-in_err-fee-clause-keeps : goal.returns-in_err-fee-clause-keeps
returns-in_err-fee-clause-keeps g c =
    gains_first _ _ (fee_at c.args.id.now) (λ fee. Give (only_known c.args.id.now c.args.fees.now fee)) c.in_err-fee.ensures.keeps

pub returns-in_err-only-clause-keeps : goal.returns-in_err-only-clause-keeps
returns-in_err-only-clause-keeps g c =
    gains_first _ _ (fee_at c.args.id.now) (λ fee. Give (only_known c.args.id.now c.args.fees.now fee)) c.in_ok-fee.ensures.keeps

pub returns-clause-keeps : goal.returns-clause-keeps
returns-clause-keeps g c =
    gains_first _ _ (fee_at c.args.id.now) (λ fee. Give (only_known c.args.id.now c.args.fees.now fee)) c.in_ok-fee.ensures.keeps
