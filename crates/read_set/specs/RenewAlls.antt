-- Renew All (SIP 2.00, message 65), by the circulation rules: renew all.
use Rattle.std.specs.Prelude.{ℕ, Bool, false, not, ◌&&◌, nat_lt, ◌+◌, List, [], ◌∷◌, ◌++◌, Option, Some, None, is_some, filter, if◌then◌else◌}
use Rattle.circ_policy.specs.Terms.{Terms}
use Rattle.circ_records.specs.declared.key.Key.TheVariants as keys
use Rattle.circ_records.specs.declared.record.FeeType.TheVariants as fee_types
use Rattle.circ_records.specs.declared.record.Record.TheVariants as records
use Rattle.sip_answer.specs.Deeds.{names_item}
use Rattle.sip_answer.specs.declared.answer.Answer.{Answer}
use Rattle.sip_answer.specs.declared.answer.Answer.TheVariants as answers
use Rattle.sip_answer.specs.Reasons.{grants}
use Rattle.sip_answer.specs.declared.reason.Reason.{Reason}
use Rattle.sip_answer.specs.declared.reason.Reason.TheVariants as reasons
use Rattle.sip_reader.specs.declared.request.RenewAll.{RenewAll}
use Rattle.read_set.specs.Asks.{Asks, Give, ◌>>=◌}
use Rattle.read_set.specs.Effects.{unwritten, ◌⊕◌}
use Rattle.read_set.specs.Fees.{fee_made, with_fee}
use Rattle.read_set.specs.Known.{as_article}
use Rattle.read_set.specs.Loans.{charge_for, due_for}
use Rattle.read_set.specs.Lookups.{ask_after, patron_at}
use Rattle.read_set.specs.Renewals.{renewal_tests, renewed}
use Rattle.read_set.specs.declared.effect.Effect.{Effect}
use Rattle.read_set.specs.declared.known.Article.{Article}
use Rattle.read_set.specs.declared.known.Member.{Member}
use Rattle.read_set.specs.declared.progress.Renewals.{Renewals}
use Rattle.read_set.specs.declared.verdict.LoanRequest.{LoanRequest}
use Rattle.read_set.specs.declared.verdict.Verdict.{Verdict}
use Rattle.read_set.specs.declared.verdict.Verdict.TheVariants as verdicts

-- Each item is asked for without a third party, by the rules never forced. It is forced if a response
-- names it as renewed, and then a rental is charged only if the user agreed to it, as such a response
-- names no fee.
abbrev pub by_renew_all : Bool → RenewAll → List ℕ → LoanRequest
by_renew_all forced q item = record {
  patron = q.patron;
  item = item;
  third_party = false;
  forced = forced;
  given = None;
  agreed = q.agreed;
  price = if forced && not q.agreed then Some 0 else None;
  checkout = false;
}

-- an item's turn, after the ones before it: the item is renewed, and a rental charged under the next number
abbrev pub one_renewed : Terms → ℕ → LoanRequest → List ℕ → Article → Renewals → Renewals
one_renewed p n a date article done = record done {
  writes = done.writes ⊕ ((keys.Item a.item, records.Item (renewed (due_for p a date article.media) article.item)) ∷ [])
      ⊕ fee_made n done.made a.patron fee_types.Rental (charge_for a article.media);
  member = record done.member { patron = record done.member.patron { fees = with_fee n done.made (charge_for a article.media) done.member.patron.fees } };
  made = if nat_lt 0 (charge_for a article.media) then done.made + 1 else done.made;
  renewed = done.renewed ++ a.item ∷ [];
}

-- or it isn't, for a reason
abbrev pub one_left : List ℕ → Reason → Renewals → Renewals
one_left item why done = record done { others = done.others ++ item ∷ []; reasons = done.reasons ++ why ∷ [] }

unfoldable pub turn_by : Terms → ℕ → LoanRequest → List ℕ → Article → Renewals → Verdict → Renewals
turn_by p n a date article done verdicts.Made = one_renewed p n a date article done
turn_by p n a date article done (verdicts.Refused why) = one_left a.item why done

abbrev pub turn_rule_known : Terms → ℕ → LoanRequest → List ℕ → Renewals → Option Article → Asks Renewals
turn_rule_known p n a date done None = Give (one_left a.item reasons.UnknownItem done)
turn_rule_known p n a date done (Some article) = do
  verdict ← renewal_tests done.writes a done.member article
  Give (turn_by p n a date article done verdict)

unfoldable pub turn_rule : Terms → ℕ → LoanRequest → List ℕ → Renewals → Asks Renewals
turn_rule p n a date done = do
  found ← ask_after done.writes (keys.Item a.item)
  turn_rule_known p n a date done (as_article p found)

-- the items of a list, each on the records as the ones before it left them
abbrev pub turns_rule : Terms → ℕ → Bool → RenewAll → List ℕ → List (List ℕ) → Renewals → Asks Renewals
turns_rule p n forced q date [] done = Give done
turns_rule p n forced q date (id ∷ more) done = do
  next ← turn_rule p n (by_renew_all forced q id) date done
  turns_rule p n forced q date more next

abbrev pub none_renewed : Member → Renewals
none_renewed member = record { writes = []; member = member; made = 0; renewed = []; others = []; reasons = [] }

abbrev pub renew_all_answer : Terms → List ℕ → Reason → List (List ℕ) → List (List ℕ) → List Reason → Answer
renew_all_answer p date why renewed others whys =
    answers.RenewAll (record { date = date; institution = p.institution; ok = grants why; reason = why; renewed = renewed; unrenewed = others; reasons = whys })

-- the patron is written only where a rental was charged
unfoldable pub all_renewed : Terms → RenewAll → List ℕ → Renewals → Effect
all_renewed p q date done = record {
  writes = if nat_lt 0 done.made then done.writes ⊕ ((keys.Patron q.patron, records.Patron done.member.patron) ∷ []) else done.writes;
  answer = Some (renew_all_answer p date reasons.Done done.renewed done.others done.reasons);
}

-- whose turn comes: by the rules each item of the patron's list; of the texts of a response, those that these name
abbrev pub turns_of : Option (List (List ℕ)) → List (List ℕ) → List (List ℕ)
turns_of None loans = loans
turns_of (Some named) loans = filter (names_item named) loans

-- ok is 1 where the patron is known; then each item of the patron's list, as it was at entry
abbrev pub renew_all_rule_known : Terms → ℕ → Option (List (List ℕ)) → RenewAll → List ℕ → Option Member → Asks Effect
renew_all_rule_known p n named q date None = Give (unwritten (Some (renew_all_answer p date reasons.UnknownPatron [] [] [])))
renew_all_rule_known p n named q date (Some member) = do
  done ← turns_rule p n (is_some named) q date (turns_of named member.patron.loans) (none_renewed member)
  Give (all_renewed p q date done)

-- asks for the patron, then for each item of its list whose turn comes
unfoldable pub renew_all_rule : Terms → ℕ → Option (List (List ℕ)) → RenewAll → List ℕ → Asks Effect
renew_all_rule p n named q date = do
  patron ← patron_at p q.patron
  renew_all_rule_known p n named q date patron
