use Rattle.message_meaning.proofs.WhatIsPaid.{payments-pay}
use Rattle.message_meaning.proofs.laws.payments_pay_what_is_meant.Goals as goal

pub returns : goal.returns
returns c = payments-pay
