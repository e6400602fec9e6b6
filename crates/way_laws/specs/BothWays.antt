-- What holds of a replay as recorded beside one by the rules.
use Rattle.std.specs.Prelude.{◌≡◌, ◌+◌, ℕ, List, [], false, slice_get, Some, IfSome, Option, None, true, if◌then◌else◌}
use Rattle.circ_policy.specs.Terms.{Terms}
use Rattle.circ_records.specs.declared.record.Record.TheVariants as records
use Rattle.circ_records.specs.declared.record.Record.{Record}
use Rattle.circ_records.specs.declared.record.Loan.{Loan}
use Rattle.circ_records.specs.declared.key.Key.TheVariants as keys
use Rattle.circ_policy.specs.declared.due_form.DueForm.{DueForm}
use Rattle.circ_records.specs.Records.{Entries}
use Rattle.journal_table.specs.Entry.{Entry}
use Rattle.read_set.specs.Asks.{over}
use Rattle.read_set.specs.Ids.{same}
use Rattle.read_set.specs.Known.{item_in, patron_in}
use Rattle.read_set.specs.Loans.{by_checkout, by_renew}
use Rattle.read_set.specs.Maps.{Map, put}
use Rattle.read_set.specs.Meaning.{rule_of, rule_with}
use Rattle.read_set.specs.Plans.{Planned, plan_of}
use Rattle.read_set.specs.Replay.{after, answer_of}
use Rattle.read_set.specs.declared.known.Article.{Article}
use Rattle.read_set.specs.declared.known.Member.{Member}
use Rattle.read_set.specs.declared.verdict.LoanRequest.{LoanRequest}
use Rattle.read_set.specs.declared.way.Way.TheVariants as ways
use Rattle.sip_answer.specs.Deeds.{deed_in}
use Rattle.sip_answer.specs.Differ.{Agrees}
use Rattle.sip_answer.specs.declared.deed.Deed.{Deed}
use Rattle.sip_answer.specs.declared.deed.Deed.TheVariants as deeds
use Rattle.sip_answer.specs.declared.deed.ToldLoan.{ToldLoan}
use Rattle.sip_reader.specs.declared.request.Act.{Act}
use Rattle.sip_reader.specs.declared.request.Act.TheVariants as acts

-- a response says that nothing was done
abbrev pub IsUndone : Deed → Type 0
IsUndone deeds.NotTaken = Unit {0}
IsUndone (deeds.Said done) = done ≡ false
IsUndone deeds.Refused = Unit {0}
IsUndone (deeds.Lent told) = ⊥
IsUndone (deeds.Renewed items) = ⊥

-- Then no record is written, whatever the rules would do.
abbrev pub UndoneChangesNothing : Type 0
UndoneChangesNothing = (policy : Terms) (n : ℕ) (date : List ℕ) (act : Act) (deed : Deed) (M : Map)
    → IsUndone deed → (over M (rule_with policy n date act (Some deed))).writes ≡ []

-- If a response differs in no word from the answer of the rules, what it says changes nothing.
abbrev pub SameIfNoWordDiffers : Type 0
SameIfNoWordDiffers = (policy : Terms) (n : ℕ) (date : List ℕ) (act : Act) (form : DueForm) (recorded : List ℕ) (M : Map)
    → IfSome (over M (rule_of policy n date act)).answer (λ answer. Agrees answer recorded)
    → over M (rule_with policy n date act (deed_in form act recorded)) ≡ over M (rule_of policy n date act)

abbrev pub by_rules : Terms → Entries → List Entry → Planned
by_rules policy base lines = plan_of ways.ByRules policy base lines

abbrev pub as_recorded : Terms → Entries → List Entry → Planned
as_recorded policy base lines = plan_of ways.AsRecorded policy base lines

-- a run by the rules reports nothing: no recorded response differs from the answer of its line
abbrev pub NoneDiffers : Terms → Entries → List Entry → Type 0
NoneDiffers policy base lines = (i : ℕ) (line : Entry) → slice_get lines i ≡ Some line
    → IfSome (answer_of (by_rules policy base lines) ((by_rules policy base lines).first + i)) (λ answer. Agrees answer line.response)

-- Then a run as recorded has the same records after each line, and the same answers.
abbrev pub SameRunIfNoneDiffers : Type 0
SameRunIfNoneDiffers = (policy : Terms) (base : Entries) (lines : List Entry) → NoneDiffers policy base lines
    → ((n : ℕ) → after (as_recorded policy base lines) n ≡ after (by_rules policy base lines) n)
    × ((line : ℕ) → answer_of (as_recorded policy base lines) line ≡ answer_of (by_rules policy base lines) line)

-- the loan or the renewal for which a request asks
abbrev pub asks_for : Act → Option LoanRequest
asks_for (acts.Checkout q) = Some (by_checkout q)
asks_for (acts.Renew q) = Some (by_renew q)
asks_for act = None

-- who has the item then: who asks; or, if a third party may renew, the borrower
abbrev pub borrower_after : LoanRequest → Option Loan → List ℕ
borrower_after a None = a.patron
borrower_after a (Some loan) = if a.third_party then loan.patron else a.patron

-- an item on loan to a patron, due on this day if one is named
abbrev pub IsOnLoan : List ℕ → Option ℕ → Option Record → Type 0
IsOnLoan patron due (Some (records.Item item)) = (loan : Loan) × (item.loan ≡ Some loan) × (same loan.patron patron ≡ true) × IfSome due (λ day. loan.due ≡ day)
IsOnLoan patron due r = ⊥

-- If a response says that the item was lent or renewed, and patron and item are known, it is on loan to the
-- patron, and due on the day that the response names.
abbrev pub LentIsOnLoan : Type 0
LentIsOnLoan = (policy : Terms) (n : ℕ) (date : List ℕ) (act : Act) (told : ToldLoan) (M : Map) (a : LoanRequest) (member : Member) (article : Article)
    → asks_for act ≡ Some a → patron_in policy M a.patron ≡ Some member → item_in policy M a.item ≡ Some article
    → IsOnLoan (borrower_after a article.item.loan) told.due
    (put (over M (rule_with policy n date act (Some (deeds.Lent told)))).writes M (keys.Item a.item))
