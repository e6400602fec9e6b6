-- Checkout (SIP 2.00, message 11), by the circulation rules: checkout.
use Rattle.std.specs.Prelude.{ℕ, Bool, false, ◌&&◌, List, [], ◌∷◌, ◌++◌, Option, Some, None, if◌then◌else◌}
use Rattle.circ_policy.specs.Terms.{Terms}
use Rattle.circ_records.specs.Records.{Entries}
use Rattle.circ_records.specs.declared.key.Key.TheVariants as keys
use Rattle.circ_records.specs.declared.record.FeeType.TheVariants as fee_types
use Rattle.circ_records.specs.declared.record.Item.{Item}
use Rattle.circ_records.specs.declared.record.Loan.{Loan}
use Rattle.circ_records.specs.declared.record.Patron.{Patron}
use Rattle.circ_records.specs.declared.record.Record.TheVariants as records
use Rattle.sip_answer.specs.declared.reason.Reason.TheVariants as reasons
use Rattle.sip_reader.specs.declared.request.Checkout.{Checkout}
use Rattle.read_set.specs.Asks.{Asks, Give, ◌>>=◌}
use Rattle.read_set.specs.Effects.{writing, ◌⊕◌}
use Rattle.read_set.specs.Fees.{fee_made, with_fee}
use Rattle.read_set.specs.Ids.{same, without}
use Rattle.read_set.specs.Loans.{by_checkout, charge_for, due_for, lent_to, loan_answer, may_renew, refused}
use Rattle.read_set.specs.Lookups.{item_at, patron_at}
use Rattle.read_set.specs.Owing.{decided_or, owing_tests}
use Rattle.read_set.specs.Queues.{without_hold}
use Rattle.read_set.specs.Renewals.{renewal_rule}
use Rattle.read_set.specs.Rules.{early_lending}
use Rattle.read_set.specs.Tests.{first_of}
use Rattle.read_set.specs.declared.effect.Effect.{Effect}
use Rattle.read_set.specs.declared.known.Article.{Article}
use Rattle.read_set.specs.declared.known.Member.{Member}
use Rattle.read_set.specs.declared.verdict.LoanRequest.{LoanRequest}
use Rattle.read_set.specs.declared.verdict.Verdict.{Verdict}
use Rattle.read_set.specs.declared.verdict.Verdict.TheVariants as verdicts

-- the tests before what is owed, and then those by what is owed
unfoldable pub lending_tests : LoanRequest → Member → Article → Asks Verdict
lending_tests a member article = decided_or (first_of (early_lending a member article)) (owing_tests [] a.agreed member article)

-- the other patron whose loan ends
abbrev pub other_at : Terms → List ℕ → Option Loan → Asks (Option Member)
other_at p patron None = Give None
other_at p patron (Some loan) = if same loan.patron patron then Give None else patron_at p loan.patron

-- the item leaves the other's list; a borrower that counts as unknown isn't written
abbrev pub loan_ended : List ℕ → List ℕ → Option Member → Entries
loan_ended item borrower None = []
loan_ended item borrower (Some other) = (keys.Patron borrower, records.Patron (record other.patron { loans = without item other.patron.loans })) ∷ []

abbrev pub loan_ended_by : List ℕ → Option Loan → Option Member → Entries
loan_ended_by item None other = []
loan_ended_by item (Some loan) other = loan_ended item loan.patron other

-- the item with its new loan; the patron's own hold leaves
abbrev pub lent : LoanRequest → ℕ → Item → Item
lent a due item = record item { loan = Some (record { patron = a.patron; due = due; renewals = 0 }); holds = without_hold a.patron item.holds }

-- the item goes last in the patron's list
abbrev pub lent_list : LoanRequest → Option Loan → List (List ℕ) → List (List ℕ)
lent_list a loan loans = (if lent_to a.patron loan then without a.item loans else loans) ++ a.item ∷ []

abbrev pub lending_patron : ℕ → LoanRequest → ℕ → Option Loan → Patron → Patron
lending_patron n a charge loan patron = record patron { loans = lent_list a loan patron.loans; fees = with_fee n 0 charge patron.fees }

-- the patron and the item
abbrev pub lending_records : ℕ → LoanRequest → ℕ → ℕ → Member → Article → Entries
lending_records n a due charge member article =
    (keys.Patron a.patron, records.Patron (lending_patron n a charge article.item.loan member.patron))
    ∷ (keys.Item a.item, records.Item (lent a due article.item)) ∷ []

-- made on a due day at a charge: a loan that the item has ends without a fee, and the item gets a loan with 0 renewals
abbrev pub lending_writes : ℕ → LoanRequest → ℕ → ℕ → Member → Article → Option Member → Entries
lending_writes n a due charge member article other =
    [] ⊕ loan_ended_by a.item article.item.loan other ⊕ lending_records n a due charge member article ⊕ fee_made n 0 a.patron fee_types.Rental charge

unfoldable pub lending_made : Terms → ℕ → LoanRequest → List ℕ → Member → Article → Option Member → Effect
lending_made p n a date member article other = writing
    (lending_writes n a (due_for p a date article.media) (charge_for a article.media) member article other)
    (loan_answer p a date (Some article.item) (Some (due_for p a date article.media)) false (charge_for a article.media) reasons.Made)

unfoldable pub lending_of : Terms → ℕ → LoanRequest → List ℕ → Member → Article → Asks Effect
lending_of p n a date member article = do
  other ← other_at p a.patron article.item.loan
  Give (lending_made p n a date member article other)

abbrev pub lending_rule_by : Terms → ℕ → LoanRequest → List ℕ → Member → Article → Verdict → Asks Effect
lending_rule_by p n a date member article (verdicts.Refused why) = Give (refused p a date (Some article) why)
lending_rule_by p n a date member article verdicts.Made = lending_of p n a date member article

unfoldable pub lending_rule : Terms → ℕ → LoanRequest → List ℕ → Member → Article → Asks Effect
lending_rule p n a date member article = do
  verdict ← lending_tests a member article
  lending_rule_by p n a date member article verdict

-- A checkout of what is on loan to the same patron is a renewal, where the terminal allows it (SC renewal policy). No checkout allows a
-- third party to renew.
abbrev pub checkout_rule_known : Terms → ℕ → Bool → LoanRequest → List ℕ → Option Member → Option Article → Asks Effect
checkout_rule_known p n renewal a date (Some member) (Some article) =
    if renewal && may_renew a article.item.loan then renewal_rule p n a date member article
    else lending_rule p n a date member article
checkout_rule_known p n renewal a date (Some member) None = Give (refused p a date None reasons.UnknownItem)
checkout_rule_known p n renewal a date None article = Give (refused p a date article reasons.UnknownPatron)

-- asks for the patron, then for the item, then for the fees where they matter, then for the other patron whose loan ends
unfoldable pub checkout_rule_for : Terms → ℕ → Bool → LoanRequest → List ℕ → Asks Effect
checkout_rule_for p n renewal a date = do
  patron ← patron_at p a.patron
  item ← item_at p a.item
  checkout_rule_known p n renewal a date patron item

abbrev pub checkout_rule : Terms → ℕ → Checkout → List ℕ → Asks Effect
checkout_rule p n q date = checkout_rule_for p n q.renewal (by_checkout q) date
