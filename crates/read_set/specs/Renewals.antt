-- Renew (SIP 2.00, message 29), by the circulation rules: renewal.
use Rattle.std.specs.Prelude.{ℕ, true, nat_lt, ◌+◌, List, [], ◌∷◌, Option, Some, None, if◌then◌else◌}
use Rattle.circ_policy.specs.Terms.{Terms}
use Rattle.circ_records.specs.Records.{Entries}
use Rattle.circ_records.specs.declared.key.Key.TheVariants as keys
use Rattle.circ_records.specs.declared.record.FeeType.TheVariants as fee_types
use Rattle.circ_records.specs.declared.record.Item.{Item}
use Rattle.circ_records.specs.declared.record.Loan.{Loan}
use Rattle.circ_records.specs.declared.record.Patron.{Patron}
use Rattle.circ_records.specs.declared.record.Record.TheVariants as records
use Rattle.sip_answer.specs.declared.reason.Reason.TheVariants as reasons
use Rattle.sip_reader.specs.declared.request.Renew.{Renew}
use Rattle.read_set.specs.Asks.{Asks, Give, ◌>>=◌}
use Rattle.read_set.specs.Effects.{writing, ◌⊕◌}
use Rattle.read_set.specs.Fees.{fee_made, with_fee}
use Rattle.read_set.specs.Loans.{by_renew, charge_for, due_for, loan_answer, refused}
use Rattle.read_set.specs.Lookups.{item_at, patron_at}
use Rattle.read_set.specs.Owing.{decided_or, owing_tests}
use Rattle.read_set.specs.Rules.{early_renewal}
use Rattle.read_set.specs.Tests.{first_of}
use Rattle.read_set.specs.declared.effect.Effect.{Effect}
use Rattle.read_set.specs.declared.known.Article.{Article}
use Rattle.read_set.specs.declared.known.Member.{Member}
use Rattle.read_set.specs.declared.verdict.LoanRequest.{LoanRequest}
use Rattle.read_set.specs.declared.verdict.Verdict.{Verdict}
use Rattle.read_set.specs.declared.verdict.Verdict.TheVariants as verdicts

-- the tests before what is owed, and then, after the writes so far, those by what is owed
unfoldable pub renewal_tests : Entries → LoanRequest → Member → Article → Asks Verdict
renewal_tests w a member article = decided_or (first_of (early_renewal a member article)) (owing_tests w a.agreed member article)

-- renewals plus one; they stay at their greatest number
abbrev pub one_more : ℕ → ℕ
one_more n = if nat_lt n 4294967295 then n + 1 else n

abbrev pub renewed_loan : ℕ → Option Loan → Option Loan
renewed_loan due None = None
renewed_loan due (Some loan) = Some (record loan { due = due; renewals = one_more loan.renewals })

abbrev pub renewed : ℕ → Item → Item
renewed due item = record item { loan = renewed_loan due item.loan }

-- the patron is written only where a rental is charged
abbrev pub charged : ℕ → List ℕ → ℕ → Patron → Entries
charged n id charge patron = if nat_lt 0 charge then (keys.Patron id, records.Patron (record patron { fees = with_fee n 0 charge patron.fees })) ∷ [] else []

-- made on a due day at a charge: the due day, renewals plus one, a rental charged to the asker
abbrev pub renewal_writes : ℕ → LoanRequest → ℕ → ℕ → Member → Article → Entries
renewal_writes n a due charge member article =
    [] ⊕ charged n a.patron charge member.patron ⊕ ((keys.Item a.item, records.Item (renewed due article.item)) ∷ []) ⊕ fee_made n 0 a.patron fee_types.Rental charge

unfoldable pub renewal_made : Terms → ℕ → LoanRequest → List ℕ → Member → Article → Effect
renewal_made p n a date member article = writing
    (renewal_writes n a (due_for p a date article.media) (charge_for a article.media) member article)
    (loan_answer p a date (Some article.item) (Some (due_for p a date article.media)) true (charge_for a article.media) reasons.Renewed)

abbrev pub renewal_by : Terms → ℕ → LoanRequest → List ℕ → Member → Article → Verdict → Effect
renewal_by p n a date member article (verdicts.Refused why) = refused p a date (Some article) why
renewal_by p n a date member article verdicts.Made = renewal_made p n a date member article

unfoldable pub renewal_rule : Terms → ℕ → LoanRequest → List ℕ → Member → Article → Asks Effect
renewal_rule p n a date member article = do
  verdict ← renewal_tests [] a member article
  Give (renewal_by p n a date member article verdict)

-- an unknown patron or item is refused
abbrev pub renew_rule_known : Terms → ℕ → LoanRequest → List ℕ → Option Member → Option Article → Asks Effect
renew_rule_known p n a date (Some member) (Some article) = renewal_rule p n a date member article
renew_rule_known p n a date (Some member) None = Give (refused p a date None reasons.UnknownItem)
renew_rule_known p n a date None article = Give (refused p a date article reasons.UnknownPatron)

-- asks for the patron, then for the item, then for the fees where they matter
unfoldable pub renew_rule : Terms → ℕ → Renew → List ℕ → Asks Effect
renew_rule p n q date = do
  patron ← patron_at p q.patron
  item ← item_at p q.item
  renew_rule_known p n (by_renew q) date patron item
