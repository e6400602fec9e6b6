-- Over a whole map, the programs that ask give what the messages do to that map.
use Rattle.std.proofs.Common.{◌≡◌, ℕ, Bool, true, false, cond, not, ◌&&◌, List, [], ◌∷◌, ◌++◌, Option, Some, None, refl, ap, sym, ◌∙◌}
use Rattle.std.specs.Prelude.{is_some}
use Rattle.std.specs.List.{fold}
use Rattle.circ_policy.specs.Terms.{Terms}
use Rattle.circ_records.specs.Records.{Entries}
use Rattle.circ_records.specs.declared.key.Key.TheVariants as keys
use Rattle.circ_records.specs.declared.record.Loan.{Loan}
use Rattle.sip_answer.specs.declared.deed.Deed.{Deed}
use Rattle.sip_answer.specs.declared.deed.Deed.TheVariants as deeds
use Rattle.sip_answer.specs.declared.deed.ToldLoan.{ToldLoan}
use Rattle.sip_answer.specs.declared.reason.Reason.{Reason}
use Rattle.sip_answer.specs.declared.reason.Reason.TheVariants as reasons
use Rattle.sip_reader.specs.declared.request.Act.{Act}
use Rattle.sip_reader.specs.declared.request.Act.TheVariants as acts
use Rattle.sip_reader.specs.declared.request.Checkin.{Checkin}
use Rattle.sip_reader.specs.declared.request.FeePaid.{FeePaid}
use Rattle.sip_reader.specs.declared.request.HoldRequest.{HoldRequest}
use Rattle.sip_reader.specs.declared.request.ItemStatus.{ItemStatus}
use Rattle.sip_reader.specs.declared.request.Reading.TheVariants as readings
use Rattle.sip_reader.specs.declared.request.Renew.{Renew}
use Rattle.sip_reader.specs.declared.request.RenewAll.{RenewAll}
use Rattle.read_set.specs.AsRecorded.{agrees_with, answering, as_told, carried, done_told, followed, loan_told, renewals_told}
use Rattle.read_set.specs.Asks.{Asks, Give, over, ◌>>=◌}
use Rattle.read_set.specs.Blocks.{block_rule, block_rule_known, blocked_by}
use Rattle.read_set.specs.Checkins.{checked_in, checkin_rule, returned}
use Rattle.read_set.specs.Checkouts.{checkout_rule_for, checkout_rule_known, lending_made, lending_of, lending_rule, lending_rule_by, lending_tests, other_at}
use Rattle.read_set.specs.Fees.{owed}
use Rattle.read_set.specs.Holds.{held, hold_by, hold_refusal, hold_rule}
use Rattle.read_set.specs.Ids.{same}
use Rattle.read_set.specs.ItemStatuses.{item_status_rule}
use Rattle.read_set.specs.Known.{as_article, borrower_in, fee_in, item_in, patron_in}
use Rattle.read_set.specs.Loans.{by_checkout, by_renew, is_lent, loan_of, may_renew, refused}
use Rattle.read_set.specs.Lookups.{ask_after, borrower_at, item_at, patron_at}
use Rattle.read_set.specs.Maps.{Map, put}
use Rattle.read_set.specs.Meaning.{rule, rule_of, rule_with}
use Rattle.read_set.specs.Owing.{decided_or, owed_at, owing_tests, owing_verdict}
use Rattle.read_set.specs.Payments.{all_paid, fee_paid_rule, fee_paid_rule_known, meant, pay_one, payment_rule, refused_or}
use Rattle.read_set.specs.RenewAlls.{all_renewed, by_renew_all, none_renewed, renew_all_rule, renew_all_rule_known, turn_by, turn_rule, turn_rule_known, turns_of, turns_rule}
use Rattle.read_set.specs.Renewals.{renew_rule, renew_rule_known, renewal_by, renewal_made, renewal_rule, renewal_tests}
use Rattle.read_set.specs.Rules.{checkin_list, early_lending, early_renewal, owing_refusals, payment_refusals}
use Rattle.read_set.specs.Tests.{first_of, first_or}
use Rattle.read_set.specs.WholeMap.{act_effect, block, block_of, carried_out, checkin, checkin_effect, checkin_of, checkout_for, effect_with, fee_paid, fee_paid_of, followed_by, hold, hold_as_told, hold_effect, hold_of, item_status, lending, lending_or_renewing, line_effect, loan_as_told, loan_effect, other_in, payment_effect, renew, renew_all, renew_all_of, renewals_as_told, renewing, turn, turn_effect, turn_of}
use Rattle.read_set.specs.WholeMapLaws.{AskingGivesTheRules, LinesGiveTheRules}
use Rattle.read_set.specs.declared.effect.Effect.{Effect}
use Rattle.read_set.specs.declared.known.Article.{Article}
use Rattle.read_set.specs.declared.known.Member.{Member}
use Rattle.read_set.specs.declared.progress.Payments.{Payments}
use Rattle.read_set.specs.declared.progress.Renewals.{Renewals}
use Rattle.read_set.specs.declared.verdict.LoanRequest.{LoanRequest}
use Rattle.read_set.specs.declared.verdict.Verdict.{Verdict}
use Rattle.read_set.specs.declared.verdict.Verdict.TheVariants as verdicts
use Rattle.read_set.proofs.Following.{over_then}
use Rattle.read_set.proofs.Overs.{asked, owes, owing, paid-over, pay_each}

-- LISTS OF TESTS

-- some tests, and then what is asked for
decided : (M : Map) (tests : List (Verdict × Bool)) (m : Asks Verdict) → over M (decided_or (first_of tests) m) ≡ first_or tests (over M m)
decided M [] m = refl
decided M (t ∷ more) m = by t.1 (decided M more m)
  where
    by : (b : Bool) → over M (decided_or (first_of more) m) ≡ first_or more (over M m) → over M (decided_or (cond b (Some t.0) (first_of more)) m) ≡ cond b t.0 (first_or more (over M m))
    by true h = refl
    by false h = h

-- tests and further ones
joined : (tests more : List (Verdict × Bool)) (v : Verdict) → first_or tests (first_or more v) ≡ first_or (tests ++ more) v
joined [] more v = refl
joined (t ∷ tests) more v = ap (cond t.1 t.0) (joined tests more v)

-- the tests of a loan or of a renewal, after the writes so far
tested : (M : Map) (w : Entries) (tests : List (Verdict × Bool)) (agreed : Bool) (member : Member) (article : Article)
    → over M (decided_or (first_of tests) (owing_tests w agreed member article)) ≡ first_or (tests ++ owing_refusals (owed (put w M) member.patron.fees) agreed member article) verdicts.Made
unfolding owing_verdict
tested M w tests agreed member article =
    decided M tests (owing_tests w agreed member article)
    ∙ ap (first_or tests) (owing M w agreed member article)
    ∙ joined tests (owing_refusals (owed (put w M) member.patron.fees) agreed member article) verdicts.Made

-- CHECKOUTS AND RENEWALS

others : (M : Map) (p : Terms) (patron : List ℕ) (loan : Option Loan) → over M (other_at p patron loan) ≡ other_in p M patron loan
unfolding patron_at
others M p patron None = refl
others M p patron (Some loan) = by (same loan.patron patron)
  where
    by : (b : Bool) → over M (cond b (Give None) (patron_at p loan.patron)) ≡ cond b None (patron_in p M loan.patron)
    by true = refl
    by false = refl

lends : (M : Map) (p : Terms) (n : ℕ) (a : LoanRequest) (date : List ℕ) (member : Member) (article : Article)
    → over M (lending_rule p n a date member article) ≡ lending p n a date M (Some member) (Some article)
unfolding lending_rule lending_tests lending_of
lends M p n a date member article =
    over_then M (lending_tests a member article) (λ v. lending_rule_by p n a date member article v)
    ∙ by (over M (lending_tests a member article))
    ∙ ap (effect (Some member) (Some article)) (tested M [] (early_lending a member article) a.agreed member article)
  where
    effect : Option Member → Option Article → Verdict → Effect
    effect = loan_effect p a date (λ m x. lending_made p n a date m x (other_in p M a.patron x.item.loan))

    by : (v : Verdict) → over M (lending_rule_by p n a date member article v) ≡ effect (Some member) (Some article) v
    by (verdicts.Refused why) = refl
    by verdicts.Made =
        over_then M (other_at p a.patron article.item.loan) (λ other. Give (lending_made p n a date member article other))
        ∙ ap (lending_made p n a date member article) (others M p a.patron article.item.loan)

renews : (M : Map) (p : Terms) (n : ℕ) (a : LoanRequest) (date : List ℕ) (member : Member) (article : Article)
    → over M (renewal_rule p n a date member article) ≡ renewing p n a date M (Some member) (Some article)
unfolding renewal_rule renewal_tests
renews M p n a date member article =
    over_then M (renewal_tests [] a member article) (λ v. Give (renewal_by p n a date member article v))
    ∙ by (over M (renewal_tests [] a member article))
    ∙ ap (effect (Some member) (Some article)) (tested M [] (early_renewal a member article) a.agreed member article)
  where
    effect : Option Member → Option Article → Verdict → Effect
    effect = loan_effect p a date (λ m x. renewal_made p n a date m x)

    by : (v : Verdict) → renewal_by p n a date member article v ≡ effect (Some member) (Some article) v
    by (verdicts.Refused why) = refl
    by verdicts.Made = refl

renewals-give : (p : Terms) (n : ℕ) (q : Renew) (date : List ℕ) (M : Map) → over M (renew_rule p n q date) ≡ renew p n q date M
unfolding renew_rule renew patron_at item_at
renewals-give p n q date M = by (patron_in p M q.patron) (item_in p M q.item)
  where
    by : (o : Option Member) (x : Option Article) → over M (renew_rule_known p n (by_renew q) date o x) ≡ renewing p n (by_renew q) date M o x
    by None None = refl
    by None (Some article) = refl
    by (Some member) None = refl
    by (Some member) (Some article) = renews M p n (by_renew q) date member article

-- of two ways that end alike
alike : (b : Bool) (x y : Effect) → y ≡ x → x ≡ cond b x y
alike true x y e = refl
alike false x y e = sym e

checkouts-give : (p : Terms) (n : ℕ) (renewal : Bool) (a : LoanRequest) (date : List ℕ) (M : Map) → over M (checkout_rule_for p n renewal a date) ≡ checkout_for p n renewal a date M
unfolding checkout_rule_for checkout_for patron_at item_at
checkouts-give p n renewal a date M = by (patron_in p M a.patron) (item_in p M a.item)
  where
    known : (member : Member) (article : Article) (b : Bool) → over M (cond b (renewal_rule p n a date member article) (lending_rule p n a date member article))
        ≡ cond b (renewing p n a date M (Some member) (Some article)) (lending p n a date M (Some member) (Some article))
    known member article true = renews M p n a date member article
    known member article false = lends M p n a date member article

    by : (o : Option Member) (x : Option Article) → over M (checkout_rule_known p n renewal a date o x) ≡ lending_or_renewing p n renewal a date M o x
    by None None = alike (renewal && may_renew a None) _ _ refl
    by None (Some article) = alike (renewal && may_renew a article.item.loan) _ _ refl
    by (Some member) None = alike (renewal && may_renew a None) _ _ refl
    by (Some member) (Some article) = known member article (renewal && may_renew a article.item.loan)

-- CHECKINS

borrowers : (M : Map) (p : Terms) (loan : Option Loan) → over M (borrower_at p loan) ≡ borrower_in p M loan
unfolding patron_at borrower_at
borrowers M p None = refl
borrowers M p (Some loan) = refl

returns : (p : Terms) (n : ℕ) (q : Checkin) (date : List ℕ) (item : Option Article) (borrower : Option Member) → checked_in p n q date item borrower ≡ checkin_effect p n q date item borrower (first_of (checkin_list item))
unfolding checked_in
returns p n q date None borrower = refl
returns p n q date (Some article) borrower = by article.item.loan refl
  where
    by : (loan : Option Loan) → article.item.loan ≡ loan → returned p n q date article borrower loan ≡ checkin_effect p n q date (Some article) borrower (first_of ((reasons.WasIn, not (is_lent loan)) ∷ []))
    by None e = refl
    by (Some loan) e = ap (returned p n q date article borrower) (sym e)

checkins-give : (p : Terms) (n : ℕ) (q : Checkin) (date : List ℕ) (M : Map) → over M (checkin_rule p n q date) ≡ checkin p n q date M
unfolding checkin_rule checkin item_at
checkins-give p n q date M =
    over_then M (borrower_at p (loan_of (item_in p M q.item))) (λ b. Give (checked_in p n q date (item_in p M q.item) b))
    ∙ ap (checked_in p n q date (item_in p M q.item)) (borrowers M p (loan_of (item_in p M q.item)))
    ∙ returns p n q date (item_in p M q.item) (borrower_in p M (loan_of (item_in p M q.item)))

-- HOLDS

holds-give : (p : Terms) (forced : Bool) (q : HoldRequest) (date : List ℕ) (M : Map) → over M (hold_rule p forced q date) ≡ hold p forced q date M
unfolding hold_rule held hold hold_refusal patron_at item_at
holds-give p forced q date M = by (patron_in p M q.patron) (item_in p M q.item)
  where
    known : (article : Article) (o : Option Reason) → hold_by p q date article.item o ≡ hold_effect p q date (Some article) o
    known article None = refl
    known article (Some why) = refl

    by : (o : Option Member) (x : Option Article) → held p forced q date o x ≡ hold_of p forced q date o x
    by None None = refl
    by None (Some article) = refl
    by (Some member) None = refl
    by (Some member) (Some article) = known article (hold_refusal q.mode q.patron (not forced && member.patron.blocked) article.item)

-- FEES PAID

pays : (M : Map) (ids : List (List ℕ)) (done : Payments) → pay_each M ids done ≡ fold (λ done id. pay_one id done (fee_in (put done.writes M) id)) done ids
pays M [] done = refl
pays M (id ∷ more) done = pays M more (pay_one id done (fee_in (put done.writes M) id))

-- tests that refuse, and then what is asked for
refuses : (M : Map) (effect : Option Reason → Effect) (tests : List (Reason × Bool)) (m : Asks Effect) → over M m ≡ effect None → over M (refused_or tests (λ why. Give (effect (Some why))) m) ≡ effect (first_of tests)
refuses M effect [] m h = h
refuses M effect (t ∷ more) m h = by t.1 (refuses M effect more m h)
  where
    by : (b : Bool) → over M (refused_or more (λ why. Give (effect (Some why))) m) ≡ effect (first_of more)
        → over M (cond b (Give (effect (Some t.0))) (refused_or more (λ why. Give (effect (Some why))) m)) ≡ effect (cond b (Some t.0) (first_of more))
    by true k = refl
    by false k = k

payments-give : (p : Terms) (q : FeePaid) (date : List ℕ) (M : Map) → over M (fee_paid_rule p q date) ≡ fee_paid p q date M
unfolding fee_paid_rule fee_paid patron_at
payments-give p q date M = by (patron_in p M q.patron)
  where
    by : (o : Option Member) → over M (fee_paid_rule_known p q date o) ≡ fee_paid_of p q date M o
    by None = refl
    by (Some member) =
        refuses M (payment_effect p q date M (Some member)) (payment_refusals p q) (payment_rule p q date member.patron)
        (paid-over M p q date member.patron ∙ ap (all_paid p q date member.patron) (pays M (meant M q.fee member.patron.fees) (record { left = q.amount; writes = []; closed = [] })))

-- RENEWALS OF ALL

turned : (M : Map) (p : Terms) (n : ℕ) (a : LoanRequest) (date : List ℕ) (done : Renewals) → over M (turn_rule p n a date done) ≡ turn p n a date M done
unfolding turn_rule turn_by renewal_tests
turned M p n a date done =
    over_then M (ask_after done.writes (keys.Item a.item)) (λ found. turn_rule_known p n a date done (as_article p found))
    ∙ ap (λ found. over M (turn_rule_known p n a date done (as_article p found))) (asked done.writes M (keys.Item a.item))
    ∙ by (item_in p (put done.writes M) a.item)
  where
    known : (article : Article) (v : Verdict) → turn_by p n a date article done v ≡ turn_effect p n a date done (Some article) v
    known article (verdicts.Refused why) = refl
    known article verdicts.Made = refl

    by : (o : Option Article) → over M (turn_rule_known p n a date done o) ≡ turn_of p n a date (put done.writes M) done o
    by None = refl
    by (Some article) =
        over_then M (renewal_tests done.writes a done.member article) (λ v. Give (turn_by p n a date article done v))
        ∙ known article (over M (renewal_tests done.writes a done.member article))
        ∙ ap (turn_effect p n a date done (Some article)) (tested M done.writes (early_renewal a done.member article) a.agreed done.member article)

turns : (M : Map) (p : Terms) (n : ℕ) (forced : Bool) (q : RenewAll) (date : List ℕ) (ids : List (List ℕ)) (done : Renewals)
    → over M (turns_rule p n forced q date ids done) ≡ fold (λ done id. turn p n (by_renew_all forced q id) date M done) done ids
turns M p n forced q date [] done = refl
turns M p n forced q date (id ∷ more) done =
    over_then M (turn_rule p n (by_renew_all forced q id) date done) (λ next. turns_rule p n forced q date more next)
    ∙ ap (λ next. over M (turns_rule p n forced q date more next)) (turned M p n (by_renew_all forced q id) date done)
    ∙ turns M p n forced q date more (turn p n (by_renew_all forced q id) date M done)

renew-alls-give : (p : Terms) (n : ℕ) (named : Option (List (List ℕ))) (q : RenewAll) (date : List ℕ) (M : Map) → over M (renew_all_rule p n named q date) ≡ renew_all p n named q date M
unfolding renew_all_rule renew_all patron_at
renew-alls-give p n named q date M = by (patron_in p M q.patron)
  where
    by : (o : Option Member) → over M (renew_all_rule_known p n named q date o) ≡ renew_all_of p n named q date M o
    by None = refl
    by (Some member) =
        over_then M (turns_rule p n (is_some named) q date (turns_of named member.patron.loans) (none_renewed member)) (λ done. Give (all_renewed p q date done))
        ∙ ap (all_renewed p q date) (turns M p n (is_some named) q date (turns_of named member.patron.loans) (none_renewed member))

-- BLOCKS, ENABLES, ITEM STATUS UPDATES

blocks-give : (p : Terms) (sets : Bool) (id date : List ℕ) (M : Map) → over M (block_rule p sets id date) ≡ block p sets id date M
unfolding block_rule block patron_at
blocks-give p sets id date M = by (patron_in p M id)
  where
    by : (o : Option Member) → over M (block_rule_known p sets id date o) ≡ block_of p sets id date M o
    by None = refl
    by (Some member) =
        over_then M (owed_at [] member.patron.fees) (λ owes. Give (blocked_by p sets id date member owes))
        ∙ ap (blocked_by p sets id date member) (owes M [] member.patron.fees)

statuses-give : (p : Terms) (q : ItemStatus) (date : List ℕ) (M : Map) → over M (item_status_rule p q date) ≡ item_status p q date M
unfolding item_status_rule item_status item_at
statuses-give p q date M = refl

pub asking-gives : AskingGivesTheRules
asking-gives = record {
  blocks = blocks-give;
  checkins = checkins-give;
  checkouts = checkouts-give;
  holds = holds-give;
  item_statuses = statuses-give;
  payments = payments-give;
  renewals = renewals-give;
  renewals_of_all = renew-alls-give;
}

-- A LINE

acts-give : (p : Terms) (n : ℕ) (date : List ℕ) (act : Act) (M : Map) → over M (rule_of p n date act) ≡ act_effect p n date act M
unfolding rule_of
acts-give p n date (acts.BlockPatron q) M = blocks-give p true q.patron date M
acts-give p n date (acts.Checkin q) M = checkins-give p n q date M
acts-give p n date (acts.Checkout q) M = checkouts-give p n q.renewal (by_checkout q) date M
acts-give p n date (acts.Hold q) M = holds-give p false q date M
acts-give p n date (acts.ItemStatus q) M = statuses-give p q date M
acts-give p n date (acts.PatronEnable q) M = blocks-give p false q.patron date M
acts-give p n date (acts.Renew q) M = renewals-give p n q date M
acts-give p n date (acts.FeePaid q) M = payments-give p q date M
acts-give p n date (acts.RenewAll q) M = renew-alls-give p n None q date M

module _ (p : Terms) (n : ℕ) (date : List ℕ) (M : Map) where
  loans-told : (act : Act) (t : ToldLoan) → over M (loan_told p n date act t) ≡ loan_as_told p n date act t M
  unfolding loan_told
  loans-told (acts.Checkout q) t = checkouts-give p n t.renewal (as_told (by_checkout q) t) date M
  loans-told (acts.Renew q) t = checkouts-give p n true (as_told (by_renew q) t) date M
  loans-told (acts.BlockPatron q) t = refl
  loans-told (acts.Checkin q) t = refl
  loans-told (acts.Hold q) t = refl
  loans-told (acts.ItemStatus q) t = refl
  loans-told (acts.PatronEnable q) t = refl
  loans-told (acts.FeePaid q) t = refl
  loans-told (acts.RenewAll q) t = refl

  holds-told : (act : Act) → over M (done_told p date act) ≡ hold_as_told p date act M
  unfolding done_told
  holds-told (acts.Hold q) = holds-give p true q date M
  holds-told (acts.BlockPatron q) = refl
  holds-told (acts.Checkin q) = refl
  holds-told (acts.Checkout q) = refl
  holds-told (acts.ItemStatus q) = refl
  holds-told (acts.PatronEnable q) = refl
  holds-told (acts.Renew q) = refl
  holds-told (acts.FeePaid q) = refl
  holds-told (acts.RenewAll q) = refl

  all-told : (act : Act) (named : List (List ℕ)) → over M (renewals_told p n date act named) ≡ renewals_as_told p n date act named M
  unfolding renewals_told
  all-told (acts.RenewAll q) named = renew-alls-give p n (Some named) q date M
  all-told (acts.BlockPatron q) named = refl
  all-told (acts.Checkin q) named = refl
  all-told (acts.Checkout q) named = refl
  all-told (acts.Hold q) named = refl
  all-told (acts.ItemStatus q) named = refl
  all-told (acts.PatronEnable q) named = refl
  all-told (acts.Renew q) named = refl
  all-told (acts.FeePaid q) named = refl

  carries : (act : Act) (o : Deed) → over M (carried p n date act o) ≡ carried_out p n date act o M
  unfolding carried
  carries act deeds.NotTaken = refl
  carries act (deeds.Said false) = refl
  carries act (deeds.Said true) = holds-told act
  carries act deeds.Refused = refl
  carries act (deeds.Lent t) = loans-told act t
  carries act (deeds.Renewed named) = all-told act named

  follows : (act : Act) (o : Deed) (ruled : Effect) → over M (followed p n date act o ruled) ≡ followed_by p n date act o M ruled
  unfolding followed
  follows act o ruled = by (agrees_with ruled.answer o)
    where
      by : (b : Bool) → over M (cond b (Give ruled) (carried p n date act o >>= λ done. Give (answering ruled.answer done))) ≡ cond b ruled (answering ruled.answer (carried_out p n date act o M))
      by true = refl
      by false = over_then M (carried p n date act o) (λ done. Give (answering ruled.answer done)) ∙ ap (answering ruled.answer) (carries act o)

  withs-give : (act : Act) (o : Option Deed) → over M (rule_with p n date act o) ≡ effect_with p n date act o M
  unfolding rule_with
  withs-give act None = acts-give p n date act M
  withs-give act (Some o) =
      over_then M (rule_of p n date act) (λ ruled. followed p n date act o ruled)
      ∙ follows act o (over M (rule_of p n date act))
      ∙ ap (followed_by p n date act o M) (acts-give p n date act M)

pub lines-give : LinesGiveTheRules
unfolding rule line_effect
lines-give p n (readings.Asked q) o M = withs-give p n q.date M q.act o
lines-give p n readings.BadSum o M = refl
lines-give p n (readings.Passed why) o M = refl
lines-give p n (readings.Unread why) o M = refl
