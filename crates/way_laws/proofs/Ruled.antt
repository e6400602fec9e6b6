-- The answer of the rules: of which kind it is, and what it writes if it agrees that nothing was done.
use Rattle.std.proofs.Common.{◌≡◌, ◌∙◌, ℕ, List, [], Bool, true, false, cond, not, Option, Some, None, refl, subst, sym, ap}
use Rattle.std.specs.Prelude.{◌&&◌, ◌==◌, IfSome, is_some}
use Rattle.circ_policy.specs.Terms.{Terms}
use Rattle.circ_records.specs.Records.{Entries}
use Rattle.circ_records.specs.declared.record.Item.{Item}
use Rattle.circ_records.specs.declared.record.Loan.{Loan}
use Rattle.circ_records.specs.declared.record.Patron.{Patron}
use Rattle.read_set.specs.AsRecorded.{agrees_with, answering, carried, followed}
use Rattle.read_set.specs.Asks.{Give, over, ◌>>=◌}
use Rattle.read_set.specs.Blocks.{block_rule, block_rule_known, blocked_by}
use Rattle.read_set.specs.Checkins.{checked_in, checkin_rule, returned}
use Rattle.read_set.specs.Checkouts.{checkout_rule_for, checkout_rule_known, lending_made, lending_of, lending_rule, lending_rule_by, lending_tests, other_at}
use Rattle.read_set.specs.Effects.{unwritten}
use Rattle.read_set.specs.Holds.{held, hold_by, hold_kept, hold_refusal, hold_rule}
use Rattle.read_set.specs.Ids.{same}
use Rattle.read_set.specs.ItemStatuses.{item_status_rule, relabelled, updated}
use Rattle.read_set.specs.Known.{item_in, patron_in}
use Rattle.read_set.specs.Loans.{by_checkout, by_renew, by_kind, refused, loan_of, may_renew}
use Rattle.read_set.specs.Lookups.{borrower_at, item_at, patron_at}
use Rattle.read_set.specs.Maps.{Map}
use Rattle.read_set.specs.Meaning.{rule_of, rule_with}
use Rattle.read_set.specs.Owing.{owed_at}
use Rattle.read_set.specs.Payments.{all_paid, fee_paid_rule, fee_paid_rule_known, meant_at, pay_rule_each, payment_rule}
use Rattle.read_set.specs.RenewAlls.{all_renewed, none_renewed, renew_all_rule, renew_all_rule_known, turns_rule}
use Rattle.read_set.specs.Renewals.{renew_rule, renew_rule_known, renewal_by, renewal_made, renewal_rule, renewal_tests}
use Rattle.read_set.specs.declared.effect.Effect.{Effect}
use Rattle.read_set.specs.declared.known.Article.{Article}
use Rattle.read_set.specs.declared.known.Member.{Member}
use Rattle.read_set.specs.declared.verdict.LoanRequest.{LoanRequest}
use Rattle.read_set.specs.declared.verdict.Verdict.{Verdict}
use Rattle.read_set.specs.declared.verdict.Verdict.TheVariants as verdicts
use Rattle.read_set.proofs.Paid.{paid-grants}
use Rattle.read_set.proofs.SimpleKinds.{done-grants}
use Rattle.read_set.proofs.Following.{over_all, over_either, over_then}
use Rattle.sip_answer.specs.Deeds.{agrees, answers_act, deed_in, loan_agrees}
use Rattle.sip_answer.specs.Differ.{Agrees, is_same}
use Rattle.sip_answer.proofs.AsRecorded.{agreeing}
use Rattle.sip_answer.specs.declared.answer.Answer.{Answer}
use Rattle.sip_answer.specs.declared.answer.Answer.TheVariants as answers
use Rattle.sip_answer.specs.declared.answer.CheckinAnswer.{CheckinAnswer}
use Rattle.sip_answer.specs.declared.answer.FeePaidAnswer.{FeePaidAnswer}
use Rattle.sip_answer.specs.declared.answer.HoldAnswer.{HoldAnswer}
use Rattle.sip_answer.specs.declared.answer.ItemStatusAnswer.{ItemStatusAnswer}
use Rattle.sip_answer.specs.declared.answer.LoanAnswer.{LoanAnswer}
use Rattle.sip_answer.specs.declared.answer.PatronAnswer.{PatronAnswer}
use Rattle.sip_answer.specs.declared.answer.RenewAllAnswer.{RenewAllAnswer}
use Rattle.sip_answer.specs.declared.deed.Deed.{Deed}
use Rattle.sip_answer.specs.declared.deed.Deed.TheVariants as deeds
use Rattle.sip_answer.specs.declared.reason.Reason.{Reason}
use Rattle.sip_answer.specs.declared.reason.Reason.TheVariants as reasons
use Rattle.sip_reader.specs.declared.request.Act.{Act}
use Rattle.sip_reader.specs.declared.request.Act.TheVariants as acts
use Rattle.sip_reader.specs.declared.request.BlockPatron.{BlockPatron}
use Rattle.sip_reader.specs.declared.request.Checkin.{Checkin}
use Rattle.sip_reader.specs.declared.request.Checkout.{Checkout}
use Rattle.sip_reader.specs.declared.request.FeePaid.{FeePaid}
use Rattle.sip_reader.specs.declared.request.HoldRequest.{HoldRequest}
use Rattle.sip_reader.specs.declared.request.ItemStatus.{ItemStatus}
use Rattle.sip_reader.specs.declared.request.PatronEnable.{PatronEnable}
use Rattle.sip_reader.specs.declared.request.Renew.{Renew}
use Rattle.sip_reader.specs.declared.request.RenewAll.{RenewAll}
use Rattle.way_laws.specs.BothWays.{IsUndone, SameIfNoWordDiffers, UndoneChangesNothing}

-- no deed that nothing was done agrees with this answer
abbrev Grants : Answer → Type 0
Grants a = (o : Deed) → IsUndone o → agrees a o ≡ true → ⊥

-- an answer of the act's kind; if it agrees that nothing was done, nothing is written
record Ruled (act : Act) (e : Effect) : Type 0 where
  answer : Answer
  is : e.answer ≡ Some answer
  kind : answers_act answer act ≡ true
  nothing : (o : Deed) → IsUndone o → agrees answer o ≡ true → e.writes ≡ []

refuses : (act : Act) (a : Answer) → answers_act a act ≡ true → Ruled act (unwritten (Some a))
refuses act a kind = record { answer = a; is = refl; kind = kind; nothing = λ o u g. refl }

grants : (act : Act) (w : Entries) (a : Answer) → answers_act a act ≡ true → Grants a → Ruled act (record { writes = w; answer = Some a })
grants act w a kind g = record { answer = a; is = refl; kind = kind; nothing = λ o u e. absurd (g o u e) }

-- WHAT ANSWERS THAT GRANT AGREE WITH

lends : (a : LoanAnswer) (d : ℕ) → a.due ≡ Some d → (o : Deed) → IsUndone o → loan_agrees a o ≡ true → ⊥
lends a d due deeds.NotTaken u e = cc e
lends a d due (deeds.Said told) u e = cc e
lends a d due deeds.Refused u e = by a.due due e
  where
    by : (x : Option ℕ) → x ≡ Some d → not (is_some x) ≡ true → ⊥
    by None f g = cc f
    by (Some y) f g = cc g
lends a d due (deeds.Lent told) u e = u
lends a d due (deeds.Renewed items) u e = u

said : (b done : Bool) → b ≡ true → done ≡ false → is_same b done ≡ true → ⊥
said true done f u e = let clash : false ≡ true = sym u ∙ e in cc
said false done f u e = cc f

checks-in : (a : CheckinAnswer) → is_some a.known ≡ true → Grants (answers.Checkin a)
checks-in a sure deeds.NotTaken u e = cc e
checks-in a sure (deeds.Said done) u e = said (is_some a.known) done sure u e
checks-in a sure deeds.Refused u e = cc e
checks-in a sure (deeds.Lent told) u e = u
checks-in a sure (deeds.Renewed items) u e = u

holds : (a : HoldAnswer) → a.ok ≡ true → Grants (answers.Hold a)
holds a sure deeds.NotTaken u e = cc e
holds a sure (deeds.Said done) u e = said a.ok done sure u e
holds a sure deeds.Refused u e = cc e
holds a sure (deeds.Lent told) u e = u
holds a sure (deeds.Renewed items) u e = u

labels : (a : ItemStatusAnswer) → is_some a.known ≡ true → Grants (answers.ItemStatus a)
labels a sure deeds.NotTaken u e = cc e
labels a sure (deeds.Said done) u e = said (is_some a.known) done sure u e
labels a sure deeds.Refused u e = cc e
labels a sure (deeds.Lent told) u e = u
labels a sure (deeds.Renewed items) u e = u

accepts : (a : FeePaidAnswer) → a.accepted ≡ true → Grants (answers.FeePaid a)
accepts a sure deeds.NotTaken u e = cc e
accepts a sure (deeds.Said done) u e = said a.accepted done sure u e
accepts a sure deeds.Refused u e = cc e
accepts a sure (deeds.Lent told) u e = u
accepts a sure (deeds.Renewed items) u e = u

blocks-none : (a : PatronAnswer) → Grants (answers.BlockPatron a)
blocks-none a deeds.NotTaken u e = cc e
blocks-none a (deeds.Said done) u e = cc e
blocks-none a deeds.Refused u e = cc e
blocks-none a (deeds.Lent told) u e = u
blocks-none a (deeds.Renewed items) u e = u

enables-none : (a : PatronAnswer) → Grants (answers.PatronEnable a)
enables-none a deeds.NotTaken u e = cc e
enables-none a (deeds.Said done) u e = cc e
enables-none a deeds.Refused u e = cc e
enables-none a (deeds.Lent told) u e = u
enables-none a (deeds.Renewed items) u e = u

renews-all : (a : RenewAllAnswer) → Grants (answers.RenewAll a)
renews-all a deeds.NotTaken u e = cc e
renews-all a (deeds.Said done) u e = cc e
renews-all a deeds.Refused u e = cc e
renews-all a (deeds.Lent told) u e = u
renews-all a (deeds.Renewed items) u e = u

checks-out : (a : LoanAnswer) (d : ℕ) → a.due ≡ Some d → Grants (answers.Checkout a)
checks-out a d due deeds.NotTaken u e = lends a d due deeds.NotTaken u e
checks-out a d due (deeds.Said done) u e = lends a d due (deeds.Said done) u e
checks-out a d due deeds.Refused u e = lends a d due deeds.Refused u e
checks-out a d due (deeds.Lent told) u e = u
checks-out a d due (deeds.Renewed items) u e = u

renews : (a : LoanAnswer) (d : ℕ) → a.due ≡ Some d → Grants (answers.Renew a)
renews a d due deeds.NotTaken u e = lends a d due deeds.NotTaken u e
renews a d due (deeds.Said done) u e = lends a d due (deeds.Said done) u e
renews a d due deeds.Refused u e = lends a d due deeds.Refused u e
renews a d due (deeds.Lent told) u e = u
renews a d due (deeds.Renewed items) u e = u

block-made : (q : BlockPatron) (w : Entries) (a : PatronAnswer) → Ruled (acts.BlockPatron q) (record { writes = w; answer = Some (answers.BlockPatron a) })
block-made q w a = grants (acts.BlockPatron q) w (answers.BlockPatron a) refl (blocks-none a)

enable-made : (q : PatronEnable) (w : Entries) (a : PatronAnswer) → Ruled (acts.PatronEnable q) (record { writes = w; answer = Some (answers.PatronEnable a) })
enable-made q w a = grants (acts.PatronEnable q) w (answers.PatronEnable a) refl (enables-none a)

renew-all-made : (q : RenewAll) (w : Entries) (a : RenewAllAnswer) → Ruled (acts.RenewAll q) (record { writes = w; answer = Some (answers.RenewAll a) })
renew-all-made q w a = grants (acts.RenewAll q) w (answers.RenewAll a) refl (renews-all a)

checkin-made : (q : Checkin) (w : Entries) (a : CheckinAnswer) → is_some a.known ≡ true → Ruled (acts.Checkin q) (record { writes = w; answer = Some (answers.Checkin a) })
checkin-made q w a known = grants (acts.Checkin q) w (answers.Checkin a) refl (checks-in a known)

status-made : (q : ItemStatus) (w : Entries) (a : ItemStatusAnswer) → is_some a.known ≡ true → Ruled (acts.ItemStatus q) (record { writes = w; answer = Some (answers.ItemStatus a) })
status-made q w a known = grants (acts.ItemStatus q) w (answers.ItemStatus a) refl (labels a known)

hold-made : (q : HoldRequest) (w : Entries) (a : HoldAnswer) → a.ok ≡ true → Ruled (acts.Hold q) (record { writes = w; answer = Some (answers.Hold a) })
hold-made q w a ok = grants (acts.Hold q) w (answers.Hold a) refl (holds a ok)

payment-made : (q : FeePaid) (w : Entries) (a : FeePaidAnswer) → a.accepted ≡ true → Ruled (acts.FeePaid q) (record { writes = w; answer = Some (answers.FeePaid a) })
payment-made q w a accepted = grants (acts.FeePaid q) w (answers.FeePaid a) refl (accepts a accepted)

-- EACH RULE

module _ (p : Terms) (n : ℕ) (date : List ℕ) (M : Map) where
  -- of a loan that is asked for, by a checkout or a renewal
  refuses-loan : (act : Act) (a : LoanRequest) (article : Option Article) (why : Reason) → ((l : LoanAnswer) → answers_act (by_kind a.checkout l) act ≡ true) → Ruled act (refused p a date article why)
  unfolding refused
  refuses-loan act a article why kind = refuses act _ (kind _)

  renewal-ruled : (act : Act) (a : LoanRequest) (member : Member) (article : Article) → ((l : LoanAnswer) → answers_act (by_kind a.checkout l) act ≡ true)
      → ((l : LoanAnswer) (d : ℕ) → l.due ≡ Some d → Grants (by_kind a.checkout l)) → Ruled act (over M (renewal_rule p n a date member article))
  unfolding renewal_rule renewal_made
  renewal-ruled act a member article kind grant =
      over_all M (renewal_tests [] a member article) (λ v. Give (renewal_by p n a date member article v)) (Ruled act) by
    where
      by : (v : Verdict) → Ruled act (renewal_by p n a date member article v)
      by (verdicts.Refused why) = refuses-loan act a (Some article) why kind
      by verdicts.Made = grants act _ _ (kind _) (grant _ _ refl)

  lending-ruled : (act : Act) (a : LoanRequest) (member : Member) (article : Article) → ((l : LoanAnswer) → answers_act (by_kind a.checkout l) act ≡ true)
      → ((l : LoanAnswer) (d : ℕ) → l.due ≡ Some d → Grants (by_kind a.checkout l)) → Ruled act (over M (lending_rule p n a date member article))
  unfolding lending_rule lending_of lending_made
  lending-ruled act a member article kind grant =
      over_all M (lending_tests a member article) (lending_rule_by p n a date member article) (Ruled act) by
    where
      by : (v : Verdict) → Ruled act (over M (lending_rule_by p n a date member article v))
      by (verdicts.Refused why) = refuses-loan act a (Some article) why kind
      by verdicts.Made =
          over_all M (other_at p a.patron article.item.loan) (λ other. Give (lending_made p n a date member article other)) (Ruled act)
          (λ other. grants act _ _ (kind _) (grant _ _ refl))

  checkout-ruled : (q : Checkout) → Ruled (acts.Checkout q) (over M (checkout_rule_for p n q.renewal (by_checkout q) date))
  unfolding checkout_rule_for patron_at item_at
  checkout-ruled q = by (patron_in p M q.patron) (item_in p M q.item)
    where
      by : (o : Option Member) (x : Option Article) → Ruled (acts.Checkout q) (over M (checkout_rule_known p n q.renewal (by_checkout q) date o x))
      by None x = refuses-loan (acts.Checkout q) (by_checkout q) x reasons.UnknownPatron (λ l. refl)
      by (Some member) None = refuses-loan (acts.Checkout q) (by_checkout q) None reasons.UnknownItem (λ l. refl)
      by (Some member) (Some article) =
          over_either M (q.renewal && may_renew (by_checkout q) article.item.loan) (renewal_rule p n (by_checkout q) date member article) (lending_rule p n (by_checkout q) date member article) (Ruled (acts.Checkout q))
          (λ t. renewal-ruled (acts.Checkout q) (by_checkout q) member article (λ l. refl) checks-out)
          (λ t. lending-ruled (acts.Checkout q) (by_checkout q) member article (λ l. refl) checks-out)

  renew-ruled : (q : Renew) → Ruled (acts.Renew q) (over M (renew_rule p n q date))
  unfolding renew_rule patron_at item_at
  renew-ruled q = by (patron_in p M q.patron) (item_in p M q.item)
    where
      by : (o : Option Member) (x : Option Article) → Ruled (acts.Renew q) (over M (renew_rule_known p n (by_renew q) date o x))
      by None x = refuses-loan (acts.Renew q) (by_renew q) x reasons.UnknownPatron (λ l. refl)
      by (Some member) None = refuses-loan (acts.Renew q) (by_renew q) None reasons.UnknownItem (λ l. refl)
      by (Some member) (Some article) = renewal-ruled (acts.Renew q) (by_renew q) member article (λ l. refl) renews

  checkin-ruled : (q : Checkin) → Ruled (acts.Checkin q) (over M (checkin_rule p n q date))
  unfolding checkin_rule item_at checked_in
  checkin-ruled q = by (item_in p M q.item)
    where
      lent : (article : Article) (borrower : Option Member) (loan : Option Loan) → Ruled (acts.Checkin q) (returned p n q date article borrower loan)
      lent article borrower None = refuses (acts.Checkin q) _ refl
      lent article borrower (Some loan) = checkin-made q _ _ refl

      of : (x : Option Article) (borrower : Option Member) → Ruled (acts.Checkin q) (checked_in p n q date x borrower)
      of None borrower = refuses (acts.Checkin q) _ refl
      of (Some article) borrower = lent article borrower article.item.loan

      by : (x : Option Article) → Ruled (acts.Checkin q) (over M (borrower_at p (loan_of x) >>= λ borrower. Give (checked_in p n q date x borrower)))
      by x = over_all M (borrower_at p (loan_of x)) (λ borrower. Give (checked_in p n q date x borrower)) (Ruled (acts.Checkin q)) (of x)

  hold-by-ruled : (q : HoldRequest) (item : Item) (why : Option Reason) → Ruled (acts.Hold q) (hold_by p q date item why)
  unfolding hold_kept
  hold-by-ruled q item (Some why) = refuses (acts.Hold q) _ refl
  hold-by-ruled q item None = hold-made q _ _ (done-grants q.mode)

  hold-ruled : (q : HoldRequest) → Ruled (acts.Hold q) (over M (hold_rule p false q date))
  unfolding hold_rule held patron_at item_at
  hold-ruled q = by (patron_in p M q.patron) (item_in p M q.item)
    where
      by : (o : Option Member) (x : Option Article) → Ruled (acts.Hold q) (held p false q date o x)
      by None x = refuses (acts.Hold q) _ refl
      by (Some member) None = refuses (acts.Hold q) _ refl
      by (Some member) (Some article) = hold-by-ruled q article.item (hold_refusal q.mode q.patron member.patron.blocked article.item)

  status-ruled : (q : ItemStatus) → Ruled (acts.ItemStatus q) (over M (item_status_rule p q date))
  unfolding item_status_rule item_at updated
  status-ruled q = by (item_in p M q.item)
    where
      given : (item : Item) (o : Option (List ℕ)) → Ruled (acts.ItemStatus q) (relabelled q date item o)
      given item None = refuses (acts.ItemStatus q) _ refl
      given item (Some text) = status-made q _ _ refl

      by : (x : Option Article) → Ruled (acts.ItemStatus q) (updated q date x)
      by None = refuses (acts.ItemStatus q) _ refl
      by (Some article) = given article.item q.properties

  block-ruled : (q : BlockPatron) → Ruled (acts.BlockPatron q) (over M (block_rule p true q.patron date))
  unfolding block_rule patron_at blocked_by
  block-ruled q = by (patron_in p M q.patron)
    where
      by : (o : Option Member) → Ruled (acts.BlockPatron q) (over M (block_rule_known p true q.patron date o))
      by None = refuses (acts.BlockPatron q) _ refl
      by (Some member) =
          over_all M (owed_at [] member.patron.fees) (λ owes. Give (blocked_by p true q.patron date member owes)) (Ruled (acts.BlockPatron q))
          (λ owes. block-made q _ _)

  enable-ruled : (q : PatronEnable) → Ruled (acts.PatronEnable q) (over M (block_rule p false q.patron date))
  unfolding block_rule patron_at blocked_by
  enable-ruled q = by (patron_in p M q.patron)
    where
      by : (o : Option Member) → Ruled (acts.PatronEnable q) (over M (block_rule_known p false q.patron date o))
      by None = refuses (acts.PatronEnable q) _ refl
      by (Some member) =
          over_all M (owed_at [] member.patron.fees) (λ owes. Give (blocked_by p false q.patron date member owes)) (Ruled (acts.PatronEnable q))
          (λ owes. enable-made q _ _)

  payment-ruled : (q : FeePaid) → Ruled (acts.FeePaid q) (over M (fee_paid_rule p q date))
  unfolding fee_paid_rule patron_at payment_rule all_paid
  payment-ruled q = by (patron_in p M q.patron)
    where
      pays : (patron : Patron) → Ruled (acts.FeePaid q) (over M (payment_rule p q date patron))
      pays patron =
          over_all M (meant_at q.fee patron.fees) (λ ids. pay_rule_each ids (record { left = q.amount; writes = []; closed = [] }) >>= λ done. Give (all_paid p q date patron done)) (Ruled (acts.FeePaid q))
          (λ ids. over_all M (pay_rule_each ids (record { left = q.amount; writes = []; closed = [] })) (λ done. Give (all_paid p q date patron done)) (Ruled (acts.FeePaid q))
          (λ done. payment-made q _ _ (paid-grants (done.left == q.amount))))

      by : (o : Option Member) → Ruled (acts.FeePaid q) (over M (fee_paid_rule_known p q date o))
      by None = refuses (acts.FeePaid q) _ refl
      by (Some member) =
          over_either M (not (same q.currency p.currency)) _ _ (Ruled (acts.FeePaid q)) (λ t. refuses (acts.FeePaid q) _ refl)
          (λ t. over_either M (q.amount == 0) _ (payment_rule p q date member.patron) (Ruled (acts.FeePaid q)) (λ t. refuses (acts.FeePaid q) _ refl) (λ t. pays member.patron))

  renew-all-ruled : (q : RenewAll) → Ruled (acts.RenewAll q) (over M (renew_all_rule p n None q date))
  unfolding renew_all_rule patron_at all_renewed
  renew-all-ruled q = by (patron_in p M q.patron)
    where
      by : (o : Option Member) → Ruled (acts.RenewAll q) (over M (renew_all_rule_known p n None q date o))
      by None = refuses (acts.RenewAll q) _ refl
      by (Some member) =
          over_all M (turns_rule p n false q date member.patron.loans (none_renewed member)) (λ done. Give (all_renewed p q date done)) (Ruled (acts.RenewAll q))
          (λ done. renew-all-made q _ _)

  ruled : (act : Act) → Ruled act (over M (rule_of p n date act))
  unfolding rule_of
  ruled (acts.BlockPatron q) = block-ruled q
  ruled (acts.Checkin q) = checkin-ruled q
  ruled (acts.Checkout q) = checkout-ruled q
  ruled (acts.Hold q) = hold-ruled q
  ruled (acts.ItemStatus q) = status-ruled q
  ruled (acts.PatronEnable q) = enable-ruled q
  ruled (acts.Renew q) = renew-ruled q
  ruled (acts.FeePaid q) = payment-ruled q
  ruled (acts.RenewAll q) = renew-all-ruled q

-- NOTHING WAS DONE

carries-nothing : (p : Terms) (n : ℕ) (date : List ℕ) (act : Act) (o : Deed) (M : Map) → IsUndone o → (over M (carried p n date act o)).writes ≡ []
unfolding carried
carries-nothing p n date act deeds.NotTaken M u = refl
carries-nothing p n date act (deeds.Said true) M u = cc u
carries-nothing p n date act (deeds.Said false) M u = refl
carries-nothing p n date act deeds.Refused M u = refl
carries-nothing p n date act (deeds.Lent told) M u = absurd u
carries-nothing p n date act (deeds.Renewed items) M u = absurd u

agreed-writes : (act : Act) (e : Effect) (o : Deed) → Ruled act e → IsUndone o → agrees_with e.answer o ≡ true → e.writes ≡ []
agreed-writes act e o r u g = r.nothing o u (sym (ap (λ (a : Option Answer). agrees_with a o) r.is) ∙ g)

pub undone : UndoneChangesNothing
unfolding rule_with followed
undone p n date act o M u =
    subst (λ (x : Effect). x.writes ≡ []) (sym (over_then M (rule_of p n date act) (followed p n date act o)))
    (over_either M (agrees_with ruling.answer o) (Give ruling) (carried p n date act o >>= λ done. Give (answering ruling.answer done)) (λ (x : Effect). x.writes ≡ [])
    (λ g. agreed-writes act ruling o (ruled p n date M act) u g)
    (λ g. subst (λ (x : Effect). x.writes ≡ []) (sym (over_then M (carried p n date act o) (λ done. Give (answering ruling.answer done)))) (carries-nothing p n date act o M u)))
  where
    ruling : Effect
    ruling = over M (rule_of p n date act)

-- NO WORD DIFFERS

agreed-same : (p : Terms) (n : ℕ) (date : List ℕ) (act : Act) (o : Deed) (M : Map) (e : Effect) → agrees_with e.answer o ≡ true → over M (followed p n date act o e) ≡ e
unfolding followed
agreed-same p n date act o M e g =
    ap (λ (b : Bool). over M (cond b (Give e) (carried p n date act o >>= λ done. Give (answering e.answer done)))) g

pub same-line : SameIfNoWordDiffers
unfolding rule_with
same-line p n date act form recorded M agrees = by (deed_in form act recorded) refl
  where
    ruling : Effect
    ruling = over M (rule_of p n date act)

    r : Ruled act ruling
    r = ruled p n date M act

    fits : IfSome (deed_in form act recorded) (λ o. agrees_with ruling.answer o ≡ true)
    fits = subst (λ (x : Option Answer). IfSome (deed_in form act recorded) (λ o. agrees_with x o ≡ true)) (sym r.is)
        (agreeing r.answer act form recorded r.kind (subst (λ (x : Option Answer). IfSome x (λ a. Agrees a recorded)) r.is agrees))

    by : (o : Option Deed) → deed_in form act recorded ≡ o → over M (rule_with p n date act o) ≡ ruling
    by None e = refl
    by (Some o) e = over_then M (rule_of p n date act) (followed p n date act o) ∙ agreed-same p n date act o M ruling (subst (λ (x : Option Deed). IfSome x (λ o. agrees_with ruling.answer o ≡ true)) e fits)
