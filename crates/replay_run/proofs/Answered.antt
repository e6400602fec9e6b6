-- What is asked has an answer, over any records; what is passed over or can't be read has none.
use Rattle.std.proofs.Common.{◌≡◌, ◌∙◌, ◌<◌, ◌≤◌, ◌-◌, ◌+◌, ℕ, zero, suc, Bool, true, false, cond, List, [], ◌∷◌, ◌++◌, length, map, take, Option, Some, None, refl, subst, sym, ap, arith}
use Rattle.std.specs.Prelude.{◌==◌, nat_lt, not, slice_get}
use Rattle.std.specs.Option.{is_some}
use Rattle.std.proofs.lemmas.Bool.{le-ltb}
use Rattle.std.proofs.lemmas.List.{map-append, take_all}
use Rattle.circ_policy.specs.Terms.{Terms}
use Rattle.circ_records.specs.declared.record.Item.{Item}
use Rattle.circ_records.specs.declared.record.Loan.{Loan}
use Rattle.circ_records.specs.declared.record.Patron.{Patron}
use Rattle.sip_reader.specs.declared.request.Act.{Act}
use Rattle.sip_reader.specs.declared.request.Act.TheVariants as acts
use Rattle.sip_reader.specs.declared.request.Checkin.{Checkin}
use Rattle.sip_reader.specs.declared.request.FeePaid.{FeePaid}
use Rattle.sip_reader.specs.declared.request.HoldRequest.{HoldRequest}
use Rattle.sip_reader.specs.declared.request.ItemStatus.{ItemStatus}
use Rattle.sip_reader.specs.declared.request.Reading.{Reading}
use Rattle.sip_reader.specs.declared.request.Reading.TheVariants as readings
use Rattle.sip_reader.specs.declared.request.RenewAll.{RenewAll}
use Rattle.read_set.specs.Asks.{Give, over, ◌>>=◌}
use Rattle.read_set.specs.Holds.{held, hold_by, hold_kept, hold_refusal, hold_rule}
use Rattle.read_set.specs.ItemStatuses.{item_status_rule, relabelled, updated}
use Rattle.read_set.specs.Ids.{same}
use Rattle.read_set.specs.Known.{item_in, patron_in}
use Rattle.read_set.specs.Checkouts.{checkout_rule_for, checkout_rule_known, lending_made, lending_of, lending_rule, lending_rule_by, lending_tests, other_at}
use Rattle.read_set.specs.Loans.{by_checkout, by_renew, refused, loan_of}
use Rattle.read_set.specs.Renewals.{renew_rule, renew_rule_known, renewal_by, renewal_made, renewal_rule, renewal_tests}
use Rattle.read_set.specs.Lookups.{borrower_at, item_at, patron_at}
use Rattle.read_set.specs.Maps.{Map}
use Rattle.read_set.specs.Meaning.{one, rule, rule_of, rule_with}
use Rattle.read_set.specs.Owing.{owed_at}
use Rattle.read_set.specs.Blocks.{block_rule, block_rule_known, blocked_by}
use Rattle.read_set.specs.Payments.{all_paid, fee_paid_rule, fee_paid_rule_known, meant_at, pay_rule_each, payment_rule}
use Rattle.read_set.specs.Plans.{deed_at, Planned, reading_at}
use Rattle.read_set.specs.RenewAlls.{all_renewed, none_renewed, renew_all_rule, renew_all_rule_known, turns_rule}
use Rattle.read_set.specs.Replay.{after, one_at, one_by}
use Rattle.read_set.specs.Checkins.{checked_in, checkin_rule, returned}
use Rattle.read_set.specs.declared.effect.Effect.{Effect}
use Rattle.read_set.specs.declared.known.Article.{Article}
use Rattle.read_set.specs.declared.known.Member.{Member}
use Rattle.read_set.specs.declared.progress.Payments.{Payments}
use Rattle.read_set.specs.declared.verdict.LoanRequest.{LoanRequest}
use Rattle.read_set.specs.declared.verdict.Verdict.{Verdict}
use Rattle.read_set.specs.declared.verdict.Verdict.TheVariants as verdicts
use Rattle.read_set.specs.AsRecorded.{agrees_with, answering, carried, followed}
use Rattle.sip_answer.specs.declared.deed.Deed.{Deed}
use Rattle.sip_answer.specs.declared.reason.Reason.{Reason}
use Rattle.read_set.proofs.Following.{over_all, over_either, over_then}
use Rattle.read_set.proofs.WholeMaps.{lines-give}
use Rattle.result_report.specs.Report.{is_answered}
use Rattle.replay_run.specs.Answers.{answers_of, first_answers}

-- an effect has an answer
abbrev Tells : Effect → Type 0
Tells e = is_some e.answer ≡ true

block-tells : (p : Terms) (blocks : Bool) (id date : List ℕ) (M : Map) (member : Option Member)
    → Tells (over M (block_rule_known p blocks id date member))
unfolding blocked_by
block-tells p blocks id date M None = refl
block-tells p blocks id date M (Some member) = over_all M (owed_at [] member.patron.fees) (λ owes. Give (blocked_by p blocks id date member owes)) Tells (λ owes. refl)

returned-tells : (p : Terms) (n : ℕ) (q : Checkin) (date : List ℕ) (article : Article)
    (borrower : Option Member) (loan : Option Loan)
    → Tells (returned p n q date article borrower loan)
returned-tells p n q date article borrower None = refl
returned-tells p n q date article borrower (Some loan) = refl

checkin-tells : (p : Terms) (n : ℕ) (q : Checkin) (date : List ℕ) (article : Option Article)
    (borrower : Option Member) → Tells (checked_in p n q date article borrower)
unfolding checked_in
checkin-tells p n q date None borrower = refl
checkin-tells p n q date (Some article) borrower = returned-tells p n q date article borrower article.item.loan

lending-tells : (p : Terms) (n : ℕ) (a : LoanRequest) (date : List ℕ) (M : Map) (member : Member)
    (article : Article) (v : Verdict) → Tells (over M (lending_rule_by p n a date member article v))
unfolding refused lending_made lending_of
lending-tells p n a date M member article (verdicts.Refused why) = refl
lending-tells p n a date M member article verdicts.Made =
    over_all M (other_at p a.patron article.item.loan) (λ other. Give (lending_made p n a date member article other)) Tells (λ other. refl)

renewal-tells : (p : Terms) (n : ℕ) (a : LoanRequest) (date : List ℕ) (member : Member)
    (article : Article) (v : Verdict) → Tells (renewal_by p n a date member article v)
unfolding refused renewal_made
renewal-tells p n a date member article (verdicts.Refused why) = refl
renewal-tells p n a date member article verdicts.Made = refl

renewed-tells : (p : Terms) (n : ℕ) (a : LoanRequest) (date : List ℕ) (M : Map) (member : Member)
    (article : Article) → Tells (over M (renewal_rule p n a date member article))
unfolding renewal_rule
renewed-tells p n a date M member article =
    over_all M (renewal_tests [] a member article) (λ v. Give (renewal_by p n a date member article v)) Tells (renewal-tells p n a date member article)

lent-tells : (p : Terms) (n : ℕ) (a : LoanRequest) (date : List ℕ) (M : Map) (member : Member)
    (article : Article) → Tells (over M (lending_rule p n a date member article))
unfolding lending_rule
lent-tells p n a date M member article =
    over_all M (lending_tests a member article) (λ v. lending_rule_by p n a date member article v) Tells (lending-tells p n a date M member article)

checkout-tells : (p : Terms) (n : ℕ) (renewal : Bool) (a : LoanRequest) (date : List ℕ) (M : Map)
    (member : Option Member) (article : Option Article)
    → Tells (over M (checkout_rule_known p n renewal a date member article))
unfolding refused
checkout-tells p n renewal a date M (Some member) (Some article) =
    over_either M _ (renewal_rule p n a date member article) (lending_rule p n a date member article) Tells
    (λ e. renewed-tells p n a date M member article)
    (λ e. lent-tells p n a date M member article)
checkout-tells p n renewal a date M (Some member) None = refl
checkout-tells p n renewal a date M None article = refl

renew-tells : (p : Terms) (n : ℕ) (a : LoanRequest) (date : List ℕ) (M : Map)
    (member : Option Member) (article : Option Article)
    → Tells (over M (renew_rule_known p n a date member article))
unfolding refused
renew-tells p n a date M (Some member) (Some article) = renewed-tells p n a date M member article
renew-tells p n a date M (Some member) None = refl
renew-tells p n a date M None article = refl

hold-known-tells : (p : Terms) (q : HoldRequest) (date : List ℕ) (item : Item) (why : Option Reason)
    → Tells (hold_by p q date item why)
unfolding hold_kept
hold-known-tells p q date item (Some why) = refl
hold-known-tells p q date item None = refl

hold-tells : (p : Terms) (q : HoldRequest) (date : List ℕ) (member : Option Member)
    (article : Option Article) → Tells (held p false q date member article)
unfolding held
hold-tells p q date (Some member) (Some article) =
    hold-known-tells p q date article.item (hold_refusal q.mode q.patron member.patron.blocked article.item)
hold-tells p q date (Some member) None = refl
hold-tells p q date None article = refl

relabelled-tells : (q : ItemStatus) (date : List ℕ) (item : Item) (given : Option (List ℕ))
    → Tells (relabelled q date item given)
relabelled-tells q date item None = refl
relabelled-tells q date item (Some given) = refl

item-status-tells : (q : ItemStatus) (date : List ℕ) (article : Option Article) → Tells (updated q date article)
unfolding updated
item-status-tells q date None = refl
item-status-tells q date (Some article) = relabelled-tells q date article.item q.properties

payment-tells : (p : Terms) (q : FeePaid) (date : List ℕ) (M : Map) (patron : Patron)
    → Tells (over M (payment_rule p q date patron))
unfolding all_paid payment_rule
payment-tells p q date M patron =
    let begun : Payments = record { left = q.amount; writes = []; closed = [] } in
    over_all M (meant_at q.fee patron.fees) (λ ids. pay_rule_each ids begun >>= λ done. Give (all_paid p q date patron done)) Tells
    (λ ids. over_all M (pay_rule_each ids begun) (λ done. Give (all_paid p q date patron done)) Tells (λ done. refl))

fee-paid-tells : (p : Terms) (q : FeePaid) (date : List ℕ) (M : Map) (member : Option Member)
    → Tells (over M (fee_paid_rule_known p q date member))
fee-paid-tells p q date M None = refl
fee-paid-tells p q date M (Some member) =
    over_either M (not (same q.currency p.currency)) _ _ Tells (λ e. refl)
    (λ e. over_either M (q.amount == 0) _ (payment_rule p q date member.patron) Tells (λ d. refl) (λ d. payment-tells p q date M member.patron))

renew-all-tells : (p : Terms) (n : ℕ) (q : RenewAll) (date : List ℕ) (M : Map)
    (member : Option Member) → Tells (over M (renew_all_rule_known p n None q date member))
unfolding all_renewed
renew-all-tells p n q date M None = refl
renew-all-tells p n q date M (Some member) =
    over_all M (turns_rule p n false q date member.patron.loans (none_renewed member)) (λ done. Give (all_renewed p q date done)) Tells (λ done. refl)

act-tells : (p : Terms) (n : ℕ) (date : List ℕ) (act : Act) (M : Map) → Tells (over M (rule_of p n date act))
unfolding rule_of block_rule checkin_rule checkout_rule_for hold_rule item_status_rule renew_rule fee_paid_rule renew_all_rule patron_at item_at
act-tells p n date (acts.BlockPatron q) M = block-tells p true q.patron date M (patron_in p M q.patron)
act-tells p n date (acts.Checkin q) M =
    over_all M (borrower_at p (loan_of (item_in p M q.item))) (λ b. Give (checked_in p n q date (item_in p M q.item) b)) Tells (checkin-tells p n q date (item_in p M q.item))
act-tells p n date (acts.Checkout q) M =
    checkout-tells p n q.renewal (by_checkout q) date M (patron_in p M q.patron) (item_in p M q.item)
act-tells p n date (acts.Hold q) M = hold-tells p q date (patron_in p M q.patron) (item_in p M q.item)
act-tells p n date (acts.ItemStatus q) M = item-status-tells q date (item_in p M q.item)
act-tells p n date (acts.PatronEnable q) M = block-tells p false q.patron date M (patron_in p M q.patron)
act-tells p n date (acts.Renew q) M = renew-tells p n (by_renew q) date M (patron_in p M q.patron) (item_in p M q.item)
act-tells p n date (acts.FeePaid q) M = fee-paid-tells p q date M (patron_in p M q.patron)
act-tells p n date (acts.RenewAll q) M = renew-all-tells p n q date M (patron_in p M q.patron)

-- so it has as recorded
with-tells : (p : Terms) (n : ℕ) (date : List ℕ) (act : Act) (o : Option Deed) (M : Map)
    → Tells (over M (rule_with p n date act o))
unfolding rule_with followed
with-tells p n date act None M = act-tells p n date act M
with-tells p n date act (Some o) M =
    subst Tells (sym (over_then M (rule_of p n date act) (followed p n date act o)))
    (over_either M (agrees_with ruled.answer o) (Give ruled) (carried p n date act o >>= λ done. Give (answering ruled.answer done)) Tells
    (λ e. act-tells p n date act M)
    (λ e. over_all M (carried p n date act o) (λ done. Give (answering ruled.answer done)) Tells (λ done. act-tells p n date act M)))
  where
    ruled : Effect
    ruled = over M (rule_of p n date act)

rule-tells : (p : Terms) (n : ℕ) (r : Reading) (o : Option Deed) (M : Map) → is_some (over M (rule p n r o)).answer ≡ is_answered r
unfolding rule
rule-tells p n (readings.Asked q) o M = with-tells p n q.date q.act o M
rule-tells p n (readings.Passed why) o M = refl
rule-tells p n readings.BadSum o M = refl
rule-tells p n (readings.Unread why) o M = refl

-- a line has an answer just if its reading is answered
line-tells : (p : Terms) (n : ℕ) (r : Reading) (o : Option Deed) (M : Map) → is_some (one p n r o M).1 ≡ is_answered r
line-tells p n r o M = subst (λ (x : Effect). is_some x.answer ≡ is_answered r) (lines-give p n r o M) (rule-tells p n r o M)

taken-next : {X : Type 0} (xs : List X) (n : ℕ) (x : X) → slice_get xs n ≡ Some x
    → take (suc n) xs ≡ take n xs ++ x ∷ []
taken-next [] n x e = cc e
taken-next (y ∷ xs) zero x e = let same : y ≡ x = cc e in rw same refl
taken-next (y ∷ xs) (suc n) x e = ap (λ (rest : List _). y ∷ rest) (taken-next xs n x e)

there : {X : Type 0} (xs : List X) (n : ℕ) → n < length xs → (x : X) × (slice_get xs n ≡ Some x)
there [] n lt = absurd (omega arith)
there (x ∷ xs) zero lt = (x, refl)
there (x ∷ xs) (suc n) lt = there xs n (omega arith)

-- what a line of the plan is read as
read-at : (plan : Planned) (n : ℕ) → reading_at plan (plan.first + n) ≡ slice_get plan.readings n
read-at plan n =
    let below : nat_lt (plan.first + n) plan.first ≡ false = le-ltb (plan.first + n) plan.first (omega arith) in
    let at : plan.first + n - plan.first ≡ n = omega arith in
    ap (λ b. cond b None (slice_get plan.readings (plan.first + n - plan.first))) below ∙ ap (slice_get plan.readings) at

answered-next : (plan : Planned) (n : ℕ) → n < length plan.readings
    → map is_some (first_answers plan n) ≡ map is_answered (take n plan.readings)
    → map is_some (first_answers plan (suc n)) ≡ map is_answered (take (suc n) plan.readings)
answered-next plan n lt so =
    let r = there plan.readings n lt in
    let at : reading_at plan (plan.first + n) ≡ Some r.0 = read-at plan n ∙ r.1 in
    map-append is_some (first_answers plan n) ((one_at plan (plan.first + n) (after plan n)).1 ∷ [])
    ∙ ap (λ (given : List Bool). given ++ is_some (one_at plan (plan.first + n) (after plan n)).1 ∷ []) so
    ∙ ap (λ b. map is_answered (take n plan.readings) ++ b ∷ [])
    (ap (λ found. is_some (one_by plan (plan.first + n) found (after plan n)).1) at
    ∙ line-tells plan.policy (plan.first + n) r.0 (deed_at plan (plan.first + n))
    (after plan n))
    ∙ sym (map-append is_answered (take n plan.readings) (r.0 ∷ []))
    ∙ ap (map is_answered) (sym (taken-next plan.readings n r.0 r.1))

answered-first : (plan : Planned) (n : ℕ) → n ≤ length plan.readings
    → map is_some (first_answers plan n) ≡ map is_answered (take n plan.readings)
answered-first plan zero le = refl
answered-first plan (suc n) le = answered-next plan n (omega arith) (answered-first plan n (omega arith))

-- of the replay by one thread each line has an answer, none just if it is passed over or can't
-- be read
pub answered : (plan : Planned) → map is_some (answers_of plan) ≡ map is_answered plan.readings
answered plan = answered-first plan (length plan.readings) (omega arith) ∙ ap (map is_answered) (take_all (length plan.readings) plan.readings (omega arith))
