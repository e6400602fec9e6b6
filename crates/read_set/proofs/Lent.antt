-- Checkout keeps records coherent.
use Rattle.std.proofs.Common.{◌≡◌, ◌≤◌, ◌+◌, ℕ, List, [], ◌∷◌, ◌++◌, Bool, true, false, cond, Option, Some, None, length, refl, subst, sym, ap, ◌∙◌, arith}
use Rattle.std.specs.Prelude.{◌&&◌, IfSome}
use Rattle.circ_policy.specs.Terms.{Terms}
use Rattle.circ_records.specs.declared.holds.TheConstants.{QUEUE_MAX}
use Rattle.circ_records.specs.Coherent.{IsCoherentItem, IsCoherentLoan, is_hold, is_known}
use Rattle.circ_records.specs.Texts.{is_same}
use Rattle.circ_records.proofs.SameTexts.{same-text}
use Rattle.circ_records.specs.declared.key.Key.TheVariants as keys
use Rattle.circ_records.specs.declared.record.FeeType.TheVariants as fee_types
use Rattle.circ_records.specs.declared.record.Item.{Item}
use Rattle.circ_records.specs.declared.record.Loan.{Loan}
use Rattle.circ_records.specs.declared.record.Patron.{Patron}
use Rattle.circ_records.specs.declared.record.Record.TheVariants as records
use Rattle.sip_reader.specs.Dates.{is_stamp}
use Rattle.sip_reader.specs.declared.request.Checkout.{Checkout}
use Rattle.sip_reader.specs.declared.request.Renew.{Renew}
use Rattle.circ_policy.specs.Ranges.{FitsMedia}
use Rattle.read_set.specs.Asks.{Give, over}
use Rattle.sip_reader.specs.Days.{IsDay}
use Rattle.read_set.specs.Fees.{fee_made}
use Rattle.read_set.specs.Ids.{same, without}
use Rattle.read_set.specs.Known.{item_in, patron_in}
use Rattle.read_set.specs.Checkouts.{checkout_rule, checkout_rule_for, checkout_rule_known, loan_ended, loan_ended_by, lending_made, lending_of, lending_patron, lending_records, lending_rule, lending_rule_by, lending_tests, lending_writes, lent, other_at}
use Rattle.read_set.specs.Loans.{by_checkout, by_renew, charge_for, due_for, lent_to, refused, may_renew}
use Rattle.read_set.specs.Renewals.{renew_rule, renew_rule_known, renewal_rule}
use Rattle.read_set.specs.Lookups.{item_at, patron_at}
use Rattle.read_set.specs.Maps.{Map, put}
use Rattle.read_set.specs.Queues.{without_hold}
use Rattle.read_set.specs.declared.effect.Effect.{Effect}
use Rattle.read_set.specs.declared.known.Article.{Article}
use Rattle.read_set.specs.declared.known.Member.{Member}
use Rattle.read_set.specs.declared.verdict.LoanRequest.{LoanRequest}
use Rattle.read_set.specs.declared.verdict.Verdict.{Verdict}
use Rattle.read_set.specs.declared.verdict.Verdict.TheVariants as verdicts
use Rattle.read_set.proofs.Following.{over_all, over_either, over_then}
use Rattle.read_set.proofs.IdLists.{same-is, same-turned}
use Rattle.read_set.proofs.KnownParts.{article-known, article-there, known-member, member-known, member-there}
use Rattle.read_set.proofs.Line.{FitsAsked, Line, charge-most, due-day, put-three, renewal-keeps}
use Rattle.read_set.proofs.Listing.{IsListed, listed-less, listed-more, set-other, set-same, set-there, set-twice, set_at}
use Rattle.read_set.proofs.MapParts.{borrower_of, fees_of, lent_by, loans_of, owed_by, put_one, puts, sound-in}
use Rattle.read_set.proofs.OneRecord.{lent-at, listed-made, put-made, same-fees, same-patron}
use Rattle.read_set.proofs.QueueLists.{all-less, distinct-less, gone-less, no-longer}
use Rattle.read_set.proofs.SimpleKinds.{nothing}
use Rattle.read_set.proofs.States.{Parts, State, ends, fees-at, loans-at, put-item, put-patron, start}

-- THE ITEM THAT IS LENT

lent-right : (p : Terms) (M : Map) (a : LoanRequest) (due : ℕ) (i : Item) → IsDay due → is_known M a.patron ≡ true → IsCoherentItem p M a.item i → IsCoherentItem p M a.item (lent a due i)
lent-right p M a due i day known h = record {
  id_text = h.id_text;
  title = h.title;
  location = h.location;
  properties = h.properties;
  media = h.media;
  loan = λ l e.
      let new : Loan = record { patron = a.patron; due = due; renewals = 0 } in
      let same : new ≡ l = cc e in
      subst (λ (x : Loan). IsCoherentLoan M (without_hold a.patron i.holds) x) same
      (record { patron = known; waits = gone-less a.patron i.holds h.holds_once; due = day; renewals = omega arith });
  holds = all-less (is_hold M) a.patron i.holds h.holds;
  holds_once = distinct-less a.patron i.holds h.holds_once;
  few = let few : length i.holds ≤ QUEUE_MAX = h.few in let less : length (without_hold a.patron i.holds) ≤ length i.holds = no-longer a.patron i.holds in omega arith;
}

-- the patron's list before the item goes last in it
abbrev kept_list : LoanRequest → Option Loan → List (List ℕ) → List (List ℕ)
kept_list a loan loans = cond (lent_to a.patron loan) (without a.item loans) loans

-- where the item's earlier loan has left the lists, the new one is listed
lent-from : (p : Terms) (n : ℕ) (M N : Map) → Line p n M → (a : LoanRequest) (due charge : ℕ) (member : Member) (article : Article) (L : List ℕ → Option (List (List ℕ))) → IsDay due → charge ≤ 99999999999
    → M (keys.Patron a.patron) ≡ Some (records.Patron member.patron) → M (keys.Item a.item) ≡ Some (records.Item article.item)
    → State p (n + 1) M N L (lent_by M) (fees_of M) (owed_by M)
    → IsListed (set_at a.patron (Some (kept_list a article.item.loan member.patron.loans)) L) (set_at a.item None (lent_by M))
    → Parts p (n + 1) M (puts (fee_made n 0 a.patron fee_types.Rental charge) (puts (lending_records n a due charge member article) N))
lent-from p n M N line a due charge member article L day most e f s listed =
    let known : is_known M a.patron ≡ true = member-known M a.patron member.patron e in
    let q : Patron = lending_patron n a charge article.item.loan member.patron in
    let base : List (List ℕ) = kept_list a article.item.loan member.patron.loans in
    let one = put-patron s a.patron q (same-patron p (n + 1) M a.patron member.patron q line.parts.sound e refl refl) in
    let right = sound-in p (n + 1) M (put_one (keys.Patron a.patron) (records.Patron q) N) one.known (keys.Item a.item) (records.Item (lent a due article.item))
    (lent-right p M a due article.item day known (line.parts.sound.at (keys.Item a.item) (records.Item article.item) f)) in
    let two = put-item one a.item (lent a due article.item) right (article-known M a.item article.item f) in
    let three = put-made n 0 a.patron fee_types.Rental charge line.low (omega arith) most two (two.known.at a.patron known) in
    let more = listed-more (set_at a.patron (Some base) L) (set_at a.item None (lent_by M)) a.patron a.item base listed (set-there a.patron (Some base) L) (set-there a.item None (lent_by M)) in
    ends three line.parts.few
    (subst (λ (x : List ℕ → Option (List ℕ)). IsListed (set_at a.patron (Some (base ++ a.item ∷ [])) L) x) (set-twice a.item (Some a.patron) None (lent_by M))
    (subst (λ (x : List ℕ → Option (List (List ℕ))). IsListed x (set_at a.item (Some a.patron) (set_at a.item None (lent_by M)))) (set-twice a.patron (Some (base ++ a.item ∷ [])) (Some base) L) more))
    (listed-made n 0 a.patron charge (fees_of M) (owed_by M) member.patron.fees line.parts.fees (fees-at M a.patron member.patron e) (line.free 0 (omega arith)))

lending-writes : (p : Terms) (n : ℕ) (M : Map) → Line p n M → (a : LoanRequest) (due charge : ℕ) (member : Member) (article : Article) → IsDay due → charge ≤ 99999999999
    → M (keys.Patron a.patron) ≡ Some (records.Patron member.patron) → M (keys.Item a.item) ≡ Some (records.Item article.item)
    → Parts p (n + 1) M (put (lending_writes n a due charge member article (over M (other_at p a.patron article.item.loan))) M)
unfolding patron_at
lending-writes p n M line a due charge member article day most e f =
    subst (λ (N : Map). Parts p (n + 1) M N)
    (sym (put-three (loan_ended_by a.item article.item.loan (over M (other_at p a.patron article.item.loan))) (lending_records n a due charge member article) (fee_made n 0 a.patron fee_types.Rental charge) M))
    (by article.item.loan refl)
  where
    own : loans_of M a.patron ≡ Some member.patron.loans
    own = loans-at M a.patron member.patron e

    begin : State p (n + 1) M M (loans_of M) (lent_by M) (fees_of M) (owed_by M)
    begin = start p (n + 1) M line.parts.sound

    from : (N : Map) (L : List ℕ → Option (List (List ℕ))) (o : Option Loan) → article.item.loan ≡ o → State p (n + 1) M N L (lent_by M) (fees_of M) (owed_by M)
        → IsListed (set_at a.patron (Some (kept_list a o member.patron.loans)) L) (set_at a.item None (lent_by M))
        → Parts p (n + 1) M (puts (fee_made n 0 a.patron fee_types.Rental charge) (puts (lending_records n a due charge member article) N))
    from N L o l s listed =
        lent-from p n M N line a due charge member article L day most e f s
        (subst (λ (x : Option Loan). IsListed (set_at a.patron (Some (kept_list a x member.patron.loans)) L) (set_at a.item None (lent_by M))) (sym l) listed)

    lent-to : (loan : Loan) → article.item.loan ≡ Some loan → (b : Bool) → same loan.patron a.patron ≡ b
        → Parts p (n + 1) M (puts (fee_made n 0 a.patron fee_types.Rental charge) (puts (lending_records n a due charge member article) (puts (loan_ended a.item loan.patron (over M (cond b (Give None) (patron_at p loan.patron)))) M)))
    lent-to loan l true t =
        let one : loan.patron ≡ a.patron = same-text loan.patron a.patron (sym (same-is loan.patron a.patron) ∙ t) in
        let has : lent_by M a.item ≡ Some a.patron = lent-at M a.item article.item f ∙ ap borrower_of l ∙ ap Some one in
        from M (loans_of M) (Some loan) l begin
        (subst (λ (b : Bool). IsListed (set_at a.patron (Some (cond b (without a.item member.patron.loans) member.patron.loans)) (loans_of M)) (set_at a.item None (lent_by M))) (sym t)
        (listed-less (loans_of M) (lent_by M) a.patron a.item member.patron.loans line.parts.loans own has))
    lent-to loan l false t =
        let item : IsCoherentItem p M a.item article.item = line.parts.sound.at (keys.Item a.item) (records.Item article.item) f in
        let right : IsCoherentLoan M article.item.holds loan = item.loan loan l in
        let m = known-member p (n + 1) M loan.patron line.parts.sound right.patron in
        let there = member-there p M loan.patron m.0 m.1 in
        let other : Patron = record m.0.patron { loans = without a.item m.0.patron.loans } in
        let L : List ℕ → Option (List (List ℕ)) = set_at loan.patron (Some (without a.item m.0.patron.loans)) (loans_of M) in
        let apart : is_same a.patron loan.patron ≡ false = same-turned a.patron loan.patron ∙ sym (same-is loan.patron a.patron) ∙ t in
        let has : lent_by M a.item ≡ Some loan.patron = lent-at M a.item article.item f ∙ ap borrower_of l in
        let kept : L a.patron ≡ Some member.patron.loans = set-other loan.patron (Some (without a.item m.0.patron.loans)) (loans_of M) a.patron apart ∙ own in
        let less : IsListed L (set_at a.item None (lent_by M)) = listed-less (loans_of M) (lent_by M) loan.patron a.item m.0.patron.loans line.parts.loans (loans-at M loan.patron m.0.patron there) has in
        let s : State p (n + 1) M (put_one (keys.Patron loan.patron) (records.Patron other) M) L (lent_by M) (fees_of M) (owed_by M) =
        subst (λ (x : List ℕ → Option (List (List ℕ))). State p (n + 1) M (put_one (keys.Patron loan.patron) (records.Patron other) M) L (lent_by M) x (owed_by M)) (same-fees M loan.patron m.0.patron there)
        (put-patron begin loan.patron other (same-patron p (n + 1) M loan.patron m.0.patron other line.parts.sound there refl refl)) in
        subst (λ (o : Option Member). Parts p (n + 1) M (puts (fee_made n 0 a.patron fee_types.Rental charge) (puts (lending_records n a due charge member article) (puts (loan_ended a.item loan.patron o) M)))) (sym m.1)
        (from (put_one (keys.Patron loan.patron) (records.Patron other) M) L (Some loan) l s
        (subst (λ (b : Bool). IsListed (set_at a.patron (Some (cond b (without a.item member.patron.loans) member.patron.loans)) L) (set_at a.item None (lent_by M))) (sym t)
        (subst (λ (x : List ℕ → Option (List (List ℕ))). IsListed x (set_at a.item None (lent_by M))) (sym (set-same a.patron (Some member.patron.loans) L kept)) less)))

    by : (o : Option Loan) → article.item.loan ≡ o
        → Parts p (n + 1) M (puts (fee_made n 0 a.patron fee_types.Rental charge) (puts (lending_records n a due charge member article) (puts (loan_ended_by a.item o (over M (other_at p a.patron o))) M)))
    by None l =
        let none : lent_by M a.item ≡ None = lent-at M a.item article.item f ∙ ap borrower_of l in
        from M (loans_of M) None l begin
        (subst (λ (x : List ℕ → Option (List ℕ)). IsListed (set_at a.patron (Some member.patron.loans) (loans_of M)) x) (sym (set-same a.item None (lent_by M) none))
        (subst (λ (x : List ℕ → Option (List (List ℕ))). IsListed x (lent_by M)) (sym (set-same a.patron (Some member.patron.loans) (loans_of M) own)) line.parts.loans))
    by (Some loan) l = lent-to loan l (same loan.patron a.patron) refl

pub lending-keeps : (p : Terms) (n : ℕ) (M : Map) → Line p n M → (a : LoanRequest) (date : List ℕ) (member : Member) (article : Article) → is_stamp date ≡ true → FitsAsked a
    → patron_in p M a.patron ≡ Some member → item_in p M a.item ≡ Some article → Parts p (n + 1) M (put (over M (lending_rule p n a date member article)).writes M)
unfolding refused lending_made lending_of lending_rule
lending-keeps p n M line a date member article stamp fits e f =
    over_all M (lending_tests a member article) (λ v. lending_rule_by p n a date member article v) (λ (x : Effect). Parts p (n + 1) M (put x.writes M)) by
  where
    by : (v : Verdict) → Parts p (n + 1) M (put (over M (lending_rule_by p n a date member article v)).writes M)
    by (verdicts.Refused why) = nothing p (n + 1) M line.parts
    by verdicts.Made =
        let there = article-there p M a.item article f in
        let terms : FitsMedia article.media = line.policy article.item.media article.media there.1 in
        subst (λ (x : Effect). Parts p (n + 1) M (put x.writes M)) (sym (over_then M (other_at p a.patron article.item.loan) (λ other. Give (lending_made p n a date member article other))))
        (lending-writes p n M line a (due_for p a date article.media) (charge_for a article.media) member article (due-day p a date article.media stamp terms.days fits.0) (charge-most a article.media fits.1 terms.rental)
        (member-there p M a.patron member e) there.0)

-- THE TWO REQUESTS

pub renew-keeps : (p : Terms) (n : ℕ) (M : Map) → Line p n M → (q : Renew) (date : List ℕ) → is_stamp date ≡ true → IfSome q.due IsDay → Parts p (n + 1) M (put (over M (renew_rule p n q date)).writes M)
unfolding refused renew_rule patron_at item_at
renew-keeps p n M line q date stamp fits = by (patron_in p M q.patron) refl (item_in p M q.item) refl
  where
    by : (o : Option Member) → patron_in p M q.patron ≡ o → (x : Option Article) → item_in p M q.item ≡ x → Parts p (n + 1) M (put (over M (renew_rule_known p n (by_renew q) date o x)).writes M)
    by None e None f = nothing p (n + 1) M line.parts
    by None e (Some article) f = nothing p (n + 1) M line.parts
    by (Some member) e None f = nothing p (n + 1) M line.parts
    by (Some member) e (Some article) f = renewal-keeps p n M line (by_renew q) date member article stamp (fits, tt) e f

-- a checkout's rule for any loan that is asked for
pub checkout-for-keeps : (p : Terms) (n : ℕ) (M : Map) → Line p n M → (renewal : Bool) (a : LoanRequest) (date : List ℕ) → is_stamp date ≡ true → FitsAsked a → Parts p (n + 1) M (put (over M (checkout_rule_for p n renewal a date)).writes M)
unfolding refused checkout_rule_for patron_at item_at
checkout-for-keeps p n M line renewal a date stamp fits = by (patron_in p M a.patron) refl (item_in p M a.item) refl
  where
    by : (o : Option Member) → patron_in p M a.patron ≡ o → (x : Option Article) → item_in p M a.item ≡ x → Parts p (n + 1) M (put (over M (checkout_rule_known p n renewal a date o x)).writes M)
    by None e None f = nothing p (n + 1) M line.parts
    by None e (Some article) f = nothing p (n + 1) M line.parts
    by (Some member) e None f = nothing p (n + 1) M line.parts
    by (Some member) e (Some article) f =
        over_either M (renewal && may_renew a article.item.loan) (renewal_rule p n a date member article) (lending_rule p n a date member article)
        (λ (x : Effect). Parts p (n + 1) M (put x.writes M))
        (λ t. renewal-keeps p n M line a date member article stamp fits e f)
        (λ t. lending-keeps p n M line a date member article stamp fits e f)

pub fits-checkout : (q : Checkout) → IfSome q.due IsDay → FitsAsked (by_checkout q)
fits-checkout q fits = (fits, by q.cancel)
  where
    by : (b : Bool) → IfSome (cond b (Some 0) None) (λ x. x ≤ 99999999999)
    by true = omega arith
    by false = tt

pub checkout-keeps : (p : Terms) (n : ℕ) (M : Map) → Line p n M → (q : Checkout) (date : List ℕ) → is_stamp date ≡ true → IfSome q.due IsDay → Parts p (n + 1) M (put (over M (checkout_rule p n q date)).writes M)
checkout-keeps p n M line q date stamp fits = checkout-for-keeps p n M line q.renewal (by_checkout q) date stamp (fits-checkout q fits)
