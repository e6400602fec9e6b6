-- An answer says yes just where its reason is one that grants: that of a hold, a payment and a renewal of all items by what it is made of.
use Rattle.std.proofs.Common.{◌≡◌, ℕ, Bool, true, false, cond, not, ◌&&◌, List, [], ◌∷◌, Option, Some, None, refl, subst, sym}
use Rattle.std.specs.Prelude.{◌==◌, IfSome, is_some, nat_lt}
use Rattle.circ_policy.specs.Terms.{Terms}
use Rattle.circ_records.specs.Records.{Entries}
use Rattle.circ_records.specs.declared.record.Item.{Item}
use Rattle.circ_records.specs.declared.record.Loan.{Loan}
use Rattle.circ_records.specs.declared.record.Patron.{Patron}
use Rattle.sip_answer.specs.Reasons.{grants, reason_of, says_yes}
use Rattle.sip_answer.specs.declared.answer.LoanAnswer.{LoanAnswer}
use Rattle.sip_answer.specs.declared.answer.PatronAnswer.{PatronAnswer}
use Rattle.sip_answer.specs.declared.deed.Deed.{Deed}
use Rattle.sip_answer.specs.declared.reason.Reason.{Reason}
use Rattle.sip_answer.specs.declared.reason.Reason.TheVariants as reasons
use Rattle.sip_reader.specs.declared.request.Act.{Act}
use Rattle.sip_reader.specs.declared.request.Act.TheVariants as acts
use Rattle.sip_reader.specs.declared.request.Checkin.{Checkin}
use Rattle.sip_reader.specs.declared.request.FeePaid.{FeePaid}
use Rattle.sip_reader.specs.declared.request.HoldRequest.{HoldRequest}
use Rattle.sip_reader.specs.declared.request.ItemStatus.{ItemStatus}
use Rattle.sip_reader.specs.declared.request.Reading.{Reading}
use Rattle.sip_reader.specs.declared.request.Reading.TheVariants as readings
use Rattle.sip_reader.specs.declared.request.RenewAll.{RenewAll}
use Rattle.read_set.specs.Asks.{Asks, Give, over, ◌>>=◌}
use Rattle.read_set.specs.Blocks.{block_answer, block_rule, block_rule_known, blocked_by}
use Rattle.read_set.specs.Checkins.{checked_in, checkin_rule, lateness, returned}
use Rattle.read_set.specs.Checkouts.{checkout_rule_for, checkout_rule_known, lending_made, lending_of, lending_rule, lending_rule_by, lending_tests, other_at}
use Rattle.read_set.specs.Holds.{held, hold_by, hold_kept, hold_refusal, hold_rule}
use Rattle.read_set.specs.Ids.{same}
use Rattle.read_set.specs.ItemStatuses.{item_status_rule, relabelled, updated}
use Rattle.read_set.specs.Known.{item_in, patron_in}
use Rattle.read_set.specs.Loans.{by_checkout, by_kind, by_renew, refused, loan_of, may_renew, not_own}
use Rattle.read_set.specs.Lookups.{borrower_at, item_at, patron_at}
use Rattle.read_set.specs.Maps.{Map}
use Rattle.read_set.specs.Meaning.{effect, rule, rule_of}
use Rattle.read_set.specs.Owing.{owed_at, owing_tests, owing_verdict, decided_or}
use Rattle.read_set.specs.Payments.{all_paid, fee_paid_rule, fee_paid_rule_known, meant_at, pay_rule_each, payment_rule}
use Rattle.read_set.specs.Plans.{Planned, deed_at, reading_at}
use Rattle.read_set.specs.RenewAlls.{all_renewed, none_renewed, renew_all_rule, renew_all_rule_known, turns_rule}
use Rattle.read_set.specs.Renewals.{renew_rule, renew_rule_known, renewal_by, renewal_made, renewal_rule, renewal_tests}
use Rattle.read_set.specs.Replay.{one_by}
use Rattle.read_set.specs.Tests.{first_of}
use Rattle.read_set.specs.Rules.{early_lending, early_renewal}
use Rattle.read_set.specs.declared.effect.Effect.{Effect}
use Rattle.read_set.specs.declared.known.Article.{Article}
use Rattle.read_set.specs.declared.known.Member.{Member}
use Rattle.read_set.specs.declared.progress.Payments.{Payments}
use Rattle.read_set.specs.declared.verdict.LoanRequest.{LoanRequest}
use Rattle.read_set.specs.declared.verdict.Verdict.{Verdict}
use Rattle.read_set.specs.declared.verdict.Verdict.TheVariants as verdicts
use Rattle.read_set.proofs.Following.{over_all, over_either, over_then}
use Rattle.read_set.proofs.WholeMaps.{lines-give}
use Rattle.line_origins.specs.Laws.{ReasonsGoWithAnswers}
use Rattle.line_origins.proofs.Answered.{answer_is_ruled}

-- the answer of an effect goes with its reason
abbrev Goes : Effect → Type 0
Goes e = IfSome e.answer (λ a. says_yes a ≡ grants (reason_of a))

-- NO TEST OF A LOAN REFUSES FOR A REASON THAT GRANTS

abbrev Denies : Verdict → Type 0
Denies verdicts.Made = Unit {0}
Denies (verdicts.Refused why) = grants why ≡ false

abbrev AllDeny : List (Verdict × Bool) → Type 0
AllDeny [] = Unit {0}
AllDeny (test ∷ more) = Denies test.0 × AllDeny more

first_denies : (M : Map) (b : Bool) (v : Verdict) (more : Option Verdict) (after : Asks Verdict) → Denies v → Denies (over M (decided_or more after)) → Denies (over M (decided_or (cond b (Some v) more) after))
first_denies M true v more after d h = d
first_denies M false v more after d h = h

decided_denies : (M : Map) (tests : List (Verdict × Bool)) (after : Asks Verdict) → AllDeny tests → Denies (over M after) → Denies (over M (decided_or (first_of tests) after))
decided_denies M [] after all h = h
decided_denies M (test ∷ more) after all h = first_denies M test.1 test.0 (first_of more) after all.0 (decided_denies M more after all.1 h)

last_denies : (b c : Bool) → Denies (cond b (verdicts.Refused reasons.MaxFees) (cond c (verdicts.Refused reasons.Rental) verdicts.Made))
last_denies true c = refl
last_denies false true = refl
last_denies false false = tt

owing_denies : (M : Map) (w : Entries) (agreed : Bool) (member : Member) (article : Article) → Denies (over M (owing_tests w agreed member article))
unfolding owing_tests owing_verdict
owing_denies M w agreed member article =
    over_all M (owed_at w member.patron.fees) (λ owes. Give (owing_verdict owes agreed member article)) Denies
    (λ owes. last_denies (nat_lt member.class.max_fees owes) (nat_lt 0 article.media.rental && not agreed))

lending_denies : (M : Map) (a : LoanRequest) (member : Member) (article : Article) → Denies (over M (lending_tests a member article))
unfolding lending_tests early_lending
lending_denies M a member article =
    decided_denies M (early_lending a member article) (owing_tests [] a.agreed member article) (tt, (refl, (refl, (refl, (refl, (refl, tt)))))) (owing_denies M [] a.agreed member article)

not_own_denies : (loan : Option Loan) → grants (not_own loan) ≡ false
not_own_denies None = refl
not_own_denies (Some loan) = refl

renewal_denies : (M : Map) (a : LoanRequest) (member : Member) (article : Article) → Denies (over M (renewal_tests [] a member article))
unfolding renewal_tests early_renewal
renewal_denies M a member article =
    decided_denies M (early_renewal a member article) (owing_tests [] a.agreed member article) (not_own_denies article.item.loan, (tt, (refl, (refl, (refl, tt)))))
    (owing_denies M [] a.agreed member article)

-- CHECKOUT AND RENEWAL

kind_goes : (b : Bool) (a : LoanAnswer) → is_some a.due ≡ grants a.reason → says_yes (by_kind b a) ≡ grants (reason_of (by_kind b a))
kind_goes true a h = h
kind_goes false a h = h

refused_goes : (p : Terms) (a : LoanRequest) (date : List ℕ) (article : Option Article) (why : Reason) → grants why ≡ false → Goes (refused p a date article why)
unfolding refused
refused_goes p a date article why denied = kind_goes a.checkout _ (sym denied)

lent_goes : (p : Terms) (n : ℕ) (a : LoanRequest) (date : List ℕ) (M : Map) (member : Member) (article : Article) (v : Verdict) → Denies v → Goes (over M (lending_rule_by p n a date member article v))
unfolding lending_made lending_of
lent_goes p n a date M member article (verdicts.Refused why) d = refused_goes p a date (Some article) why d
lent_goes p n a date M member article verdicts.Made d =
    over_all M (other_at p a.patron article.item.loan) (λ other. Give (lending_made p n a date member article other)) Goes (λ other. kind_goes a.checkout _ refl)

renewed_goes : (p : Terms) (n : ℕ) (a : LoanRequest) (date : List ℕ) (member : Member) (article : Article) (v : Verdict) → Denies v → Goes (renewal_by p n a date member article v)
unfolding renewal_made
renewed_goes p n a date member article (verdicts.Refused why) d = refused_goes p a date (Some article) why d
renewed_goes p n a date member article verdicts.Made d = kind_goes a.checkout _ refl

lending_goes : (p : Terms) (n : ℕ) (a : LoanRequest) (date : List ℕ) (M : Map) (member : Member) (article : Article) → Goes (over M (lending_rule p n a date member article))
unfolding lending_rule
lending_goes p n a date M member article =
    subst Goes (sym (over_then M (lending_tests a member article) (λ v. lending_rule_by p n a date member article v)))
    (lent_goes p n a date M member article (over M (lending_tests a member article)) (lending_denies M a member article))

renewal_goes : (p : Terms) (n : ℕ) (a : LoanRequest) (date : List ℕ) (M : Map) (member : Member) (article : Article) → Goes (over M (renewal_rule p n a date member article))
unfolding renewal_rule
renewal_goes p n a date M member article =
    subst Goes (sym (over_then M (renewal_tests [] a member article) (λ v. Give (renewal_by p n a date member article v))))
    (renewed_goes p n a date member article (over M (renewal_tests [] a member article)) (renewal_denies M a member article))

checkout_goes : (p : Terms) (n : ℕ) (renewal : Bool) (a : LoanRequest) (date : List ℕ) (M : Map) (member : Option Member) (article : Option Article) → Goes (over M (checkout_rule_known p n renewal a date member article))
checkout_goes p n renewal a date M None article = refused_goes p a date article reasons.UnknownPatron refl
checkout_goes p n renewal a date M (Some member) None = refused_goes p a date None reasons.UnknownItem refl
checkout_goes p n renewal a date M (Some member) (Some article) =
    over_either M (renewal && may_renew a article.item.loan) (renewal_rule p n a date member article) (lending_rule p n a date member article) Goes
    (λ e. renewal_goes p n a date M member article) (λ e. lending_goes p n a date M member article)

renew_goes : (p : Terms) (n : ℕ) (a : LoanRequest) (date : List ℕ) (M : Map) (member : Option Member) (article : Option Article) → Goes (over M (renew_rule_known p n a date member article))
renew_goes p n a date M None article = refused_goes p a date article reasons.UnknownPatron refl
renew_goes p n a date M (Some member) None = refused_goes p a date None reasons.UnknownItem refl
renew_goes p n a date M (Some member) (Some article) = renewal_goes p n a date M member article

-- THE OTHERS

either_grants : (b : Bool) → true ≡ grants (cond b reasons.ReturnedLate reasons.Returned)
either_grants true = refl
either_grants false = refl

returned_goes : (p : Terms) (n : ℕ) (q : Checkin) (date : List ℕ) (article : Article) (borrower : Option Member) (loan : Option Loan) → Goes (returned p n q date article borrower loan)
returned_goes p n q date article borrower None = refl
returned_goes p n q date article borrower (Some loan) = either_grants (is_some borrower && nat_lt 0 (lateness q date loan article.media))

checkin_goes : (p : Terms) (n : ℕ) (q : Checkin) (date : List ℕ) (article : Option Article) (borrower : Option Member) → Goes (checked_in p n q date article borrower)
unfolding checked_in
checkin_goes p n q date None borrower = refl
checkin_goes p n q date (Some article) borrower = returned_goes p n q date article borrower article.item.loan

hold_by_goes : (p : Terms) (q : HoldRequest) (date : List ℕ) (item : Item) (why : Option Reason) → Goes (hold_by p q date item why)
unfolding hold_kept
hold_by_goes p q date item (Some why) = refl
hold_by_goes p q date item None = refl

hold_goes : (p : Terms) (q : HoldRequest) (date : List ℕ) (member : Option Member) (article : Option Article) → Goes (held p false q date member article)
unfolding held
hold_goes p q date None article = refl
hold_goes p q date (Some member) None = refl
hold_goes p q date (Some member) (Some article) = hold_by_goes p q date article.item (hold_refusal q.mode q.patron member.patron.blocked article.item)

paid_goes : (p : Terms) (q : FeePaid) (date : List ℕ) (M : Map) (patron : Patron) → Goes (over M (payment_rule p q date patron))
unfolding all_paid payment_rule
paid_goes p q date M patron =
    let begun : Payments = record { left = q.amount; writes = []; closed = [] } in
    over_all M (meant_at q.fee patron.fees) (λ ids. pay_rule_each ids begun >>= λ done. Give (all_paid p q date patron done)) Goes
    (λ ids. over_all M (pay_rule_each ids begun) (λ done. Give (all_paid p q date patron done)) Goes (λ done. refl))

payment_goes : (p : Terms) (q : FeePaid) (date : List ℕ) (M : Map) (member : Option Member) → Goes (over M (fee_paid_rule_known p q date member))
payment_goes p q date M None = refl
payment_goes p q date M (Some member) =
    over_either M (not (same q.currency p.currency)) _ _ Goes (λ e. refl)
    (λ e. over_either M (q.amount == 0) _ (payment_rule p q date member.patron) Goes (λ d. refl) (λ d. paid_goes p q date M member.patron))

block_answers : (blocks : Bool) (a : PatronAnswer) → is_some a.known ≡ grants a.reason → says_yes (block_answer blocks a) ≡ grants (reason_of (block_answer blocks a))
block_answers true a h = h
block_answers false a h = h

block_goes : (p : Terms) (blocks : Bool) (id date : List ℕ) (M : Map) (member : Option Member) → Goes (over M (block_rule_known p blocks id date member))
unfolding blocked_by
block_goes p blocks id date M None = block_answers blocks _ refl
block_goes p blocks id date M (Some member) =
    over_all M (owed_at [] member.patron.fees) (λ owes. Give (blocked_by p blocks id date member owes)) Goes (λ owes. block_answers blocks _ refl)

all_goes : (p : Terms) (n : ℕ) (q : RenewAll) (date : List ℕ) (M : Map) (member : Option Member) → Goes (over M (renew_all_rule_known p n None q date member))
unfolding all_renewed
all_goes p n q date M None = refl
all_goes p n q date M (Some member) =
    over_all M (turns_rule p n false q date member.patron.loans (none_renewed member)) (λ done. Give (all_renewed p q date done)) Goes (λ done. refl)

relabelled_goes : (q : ItemStatus) (date : List ℕ) (item : Item) (given : Option (List ℕ)) → Goes (relabelled q date item given)
relabelled_goes q date item None = refl
relabelled_goes q date item (Some given) = refl

status_goes : (q : ItemStatus) (date : List ℕ) (article : Option Article) → Goes (updated q date article)
unfolding updated
status_goes q date None = refl
status_goes q date (Some article) = relabelled_goes q date article.item q.properties

-- EACH LINE

act_goes : (p : Terms) (n : ℕ) (date : List ℕ) (act : Act) (M : Map) → Goes (over M (rule_of p n date act))
unfolding rule_of block_rule checkin_rule checkout_rule_for hold_rule item_status_rule renew_rule fee_paid_rule renew_all_rule patron_at item_at
act_goes p n date (acts.BlockPatron q) M = block_goes p true q.patron date M (patron_in p M q.patron)
act_goes p n date (acts.Checkin q) M =
    over_all M (borrower_at p (loan_of (item_in p M q.item))) (λ b. Give (checked_in p n q date (item_in p M q.item) b)) Goes (checkin_goes p n q date (item_in p M q.item))
act_goes p n date (acts.Checkout q) M = checkout_goes p n q.renewal (by_checkout q) date M (patron_in p M q.patron) (item_in p M q.item)
act_goes p n date (acts.Hold q) M = hold_goes p q date (patron_in p M q.patron) (item_in p M q.item)
act_goes p n date (acts.ItemStatus q) M = status_goes q date (item_in p M q.item)
act_goes p n date (acts.PatronEnable q) M = block_goes p false q.patron date M (patron_in p M q.patron)
act_goes p n date (acts.Renew q) M = renew_goes p n (by_renew q) date M (patron_in p M q.patron) (item_in p M q.item)
act_goes p n date (acts.FeePaid q) M = payment_goes p q date M (patron_in p M q.patron)
act_goes p n date (acts.RenewAll q) M = all_goes p n q date M (patron_in p M q.patron)

rule_goes : (p : Terms) (n : ℕ) (r : Reading) (o : Option Deed) (M : Map) → Goes (over M (rule p n r o))
unfolding rule
rule_goes p n (readings.Asked q) o M =
    subst (λ a. IfSome a (λ x. says_yes x ≡ grants (reason_of x))) (sym (answer_is_ruled p n q.date q.act o M)) (act_goes p n q.date q.act M)
rule_goes p n readings.BadSum o M = refl
rule_goes p n (readings.Passed why) o M = tt
rule_goes p n (readings.Unread why) o M = tt

reading_goes : (p : Terms) (n : ℕ) (r : Reading) (o : Option Deed) (M : Map) → Goes (effect p n r o M)
reading_goes p n r o M = subst Goes (lines-give p n r o M) (rule_goes p n r o M)

line_goes : (plan : Planned) (line : ℕ) (r : Option Reading) (M : Map) → IfSome (one_by plan line r M).1 (λ a. says_yes a ≡ grants (reason_of a))
line_goes plan line None M = tt
line_goes plan line (Some r) M = reading_goes plan.policy line r (deed_at plan line) M

pub reasons_go : ReasonsGoWithAnswers
reasons_go plan line M = line_goes plan line (reading_at plan line) M
