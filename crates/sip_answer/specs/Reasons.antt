-- Reasons: which of them an answer has, which go with a yes, and their words in tables.
use Rattle.std.specs.Prelude.{ℕ, Bool, true, false, List, codes, is_some}
use Rattle.sip_answer.specs.declared.answer.Answer.{Answer}
use Rattle.sip_answer.specs.declared.answer.Answer.TheVariants as answers
use Rattle.sip_answer.specs.declared.reason.Reason.{Reason}
use Rattle.sip_answer.specs.declared.reason.Reason.TheVariants as reasons

-- why this is answered
abbrev pub reason_of : Answer → Reason
reason_of (answers.BlockPatron a) = a.reason
reason_of (answers.Checkin a) = a.reason
reason_of (answers.Checkout a) = a.reason
reason_of (answers.Hold a) = a.reason
reason_of (answers.ItemStatus a) = a.reason
reason_of (answers.PatronEnable a) = a.reason
reason_of (answers.Renew a) = a.reason
reason_of (answers.FeePaid a) = a.reason
reason_of (answers.RenewAll a) = a.reason
reason_of answers.Resend = reasons.Checksum

-- Whether an answer says yes (SIP 2.00): its ok, or payment accepted; to a block or an enable,
-- valid patron. One that asks for the message again says no.
abbrev pub says_yes : Answer → Bool
says_yes (answers.BlockPatron a) = is_some a.known
says_yes (answers.Checkin a) = is_some a.known
says_yes (answers.Checkout a) = is_some a.due
says_yes (answers.Hold a) = a.ok
says_yes (answers.ItemStatus a) = is_some a.known
says_yes (answers.PatronEnable a) = is_some a.known
says_yes (answers.Renew a) = is_some a.due
says_yes (answers.FeePaid a) = a.accepted
says_yes (answers.RenewAll a) = a.ok
says_yes answers.Resend = false

-- the reasons that go with a yes
abbrev pub grants : Reason → Bool
grants reasons.Made = true
grants reasons.Renewed = true
grants reasons.WasIn = true
grants reasons.Returned = true
grants reasons.ReturnedLate = true
grants reasons.Added = true
grants reasons.Deleted = true
grants reasons.Changed = true
grants reasons.NothingOwed = true
grants reasons.Paid = true
grants reasons.Done = true
grants _ = false

-- A renewal and a checkin of what isn't on loan have the same word.
abbrev pub reason_word : Reason → List ℕ
reason_word reasons.UnknownPatron = codes "unknown_patron"
reason_word reasons.UnknownItem = codes "unknown_item"
reason_word reasons.OwnLoan = codes "own_loan"
reason_word reasons.Lent = codes "lent"
reason_word reasons.Queue = codes "queue"
reason_word reasons.Blocked = codes "blocked"
reason_word reasons.MaxLoans = codes "max_loans"
reason_word reasons.MaxFees = codes "max_fees"
reason_word reasons.Rental = codes "rental"
reason_word reasons.Made = codes "made"
reason_word reasons.NotLent = codes "not_lent"
reason_word reasons.ThirdParty = codes "third_party"
reason_word reasons.WaitedFor = codes "waited_for"
reason_word reasons.MaxRenewals = codes "max_renewals"
reason_word reasons.Renewed = codes "renewed"
reason_word reasons.WasIn = codes "not_lent"
reason_word reasons.Returned = codes "returned"
reason_word reasons.ReturnedLate = codes "returned_late"
reason_word reasons.HasEntry = codes "has_entry"
reason_word reasons.QueueFull = codes "queue_full"
reason_word reasons.Added = codes "added"
reason_word reasons.NoEntry = codes "no_entry"
reason_word reasons.Deleted = codes "deleted"
reason_word reasons.Changed = codes "changed"
reason_word reasons.Currency = codes "currency"
reason_word reasons.NoAmount = codes "no_amount"
reason_word reasons.NothingOwed = codes "nothing_owed"
reason_word reasons.Paid = codes "paid"
reason_word reasons.Done = codes "done"
reason_word reasons.Checksum = codes "checksum"
