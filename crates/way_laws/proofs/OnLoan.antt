-- What a response says was lent is on loan.
use Rattle.std.proofs.Common.{◌≡◌, ◌∙◌, ◌⊎◌, inl, inr, ℕ, List, [], ◌∷◌, Bool, true, false, cond, not, drop, Option, Some, None, refl, subst, sym, ap}
use Rattle.std.specs.Prelude.{◌&&◌, ◌||◌, ◌==◌, nat_lt}
use Rattle.std.proofs.Math.Dec.{T, eqb, eqb_refl}
use Rattle.std.proofs.lemmas.Bool.{and_parts, eqb-true}
use Rattle.circ_policy.specs.Terms.{Terms}
use Rattle.circ_records.proofs.SameTexts.{same-itself}
use Rattle.circ_records.specs.Records.{Entries}
use Rattle.circ_records.specs.declared.key.Key.TheVariants as keys
use Rattle.circ_records.specs.declared.record.FeeType.{FeeType}
use Rattle.circ_records.specs.declared.record.FeeType.TheVariants as fee_types
use Rattle.sip_reader.specs.Dates.{day_of}
use Rattle.sip_reader.specs.Texts.{fee_id}
use Rattle.sip_reader.specs.declared.request.Checkout.{Checkout}
use Rattle.sip_reader.specs.declared.request.Renew.{Renew}
use Rattle.circ_records.specs.declared.record.Item.{Item}
use Rattle.circ_records.specs.declared.record.Loan.{Loan}
use Rattle.circ_records.specs.declared.record.Record.{Record}
use Rattle.circ_records.specs.declared.record.Record.TheVariants as records
use Rattle.circ_policy.specs.Due.{due_day}
use Rattle.read_set.specs.AsRecorded.{agrees_with, answering, as_told, carried, day_told, followed, loan_told}
use Rattle.read_set.specs.Asks.{Asks, Give, over, ◌>>=◌}
use Rattle.sip_answer.specs.declared.reason.Reason.{Reason}
use Rattle.read_set.specs.Checkouts.{checkout_rule_for, checkout_rule_known, lending_made, lending_of, lending_records, lending_rule, lending_rule_by, lending_tests, lending_writes, lent, loan_ended_by, other_at}
use Rattle.read_set.specs.Fees.{fee_made}
use Rattle.read_set.specs.Ids.{same}
use Rattle.read_set.specs.Known.{item_in, patron_in}
use Rattle.read_set.specs.Loans.{by_checkout, by_kind, by_renew, charge_for, due_for, given_or, refused, may_renew, not_own}
use Rattle.read_set.specs.Lookups.{item_at, patron_at}
use Rattle.read_set.specs.Maps.{Map, put}
use Rattle.read_set.specs.Meaning.{rule_of, rule_with}
use Rattle.read_set.specs.Renewals.{charged, renew_rule, renew_rule_known, renewal_by, renewal_made, renewal_rule, renewal_tests, one_more, renewal_writes, renewed, renewed_loan}
use Rattle.read_set.specs.declared.effect.Effect.{Effect}
use Rattle.read_set.specs.declared.known.Article.{Article}
use Rattle.read_set.specs.declared.known.Member.{Member}
use Rattle.read_set.specs.declared.verdict.LoanRequest.{LoanRequest}
use Rattle.read_set.specs.declared.verdict.Verdict.{Verdict}
use Rattle.read_set.specs.declared.verdict.Verdict.TheVariants as verdicts
use Rattle.read_set.specs.Owing.{owing_tests, decided_or}
use Rattle.read_set.specs.Tests.{first_of}
use Rattle.read_set.specs.Rules.{early_lending, early_renewal}
use Rattle.read_set.proofs.Following.{over_all, over_either, over_then}
use Rattle.read_set.proofs.IdLists.{same-is}
use Rattle.read_set.proofs.Line.{put-three}
use Rattle.read_set.proofs.MapParts.{at-item, put_one, puts}
use Rattle.sip_answer.specs.Deeds.{agrees, is_told_day}
use Rattle.sip_answer.specs.Differ.{is_same_fee}
use Rattle.sip_answer.specs.declared.answer.Answer.{Answer}
use Rattle.sip_answer.specs.declared.answer.LoanAnswer.{LoanAnswer}
use Rattle.sip_answer.specs.declared.deed.Deed.TheVariants as deeds
use Rattle.sip_answer.specs.declared.deed.ToldLoan.{ToldLoan}
use Rattle.sip_reader.specs.declared.request.Act.{Act}
use Rattle.sip_reader.specs.declared.request.Act.TheVariants as acts
use Rattle.way_laws.specs.BothWays.{IsOnLoan, LentIsOnLoan, asks_for, borrower_after}

itself : (id : List ℕ) → same id id ≡ true
itself id = same-is id id ∙ same-itself id

unless : (b : Bool) → not b ≡ false → b ≡ true
unless true e = refl
unless false e = cc e

eqb-same : (n : ℕ) → (n == n) ≡ true
eqb-same n = by (eqb n n) (eqb_refl n)
  where
    by : (b : Bool) → T b → b ≡ true
    by true h = refl
    by false h = absurd h

-- a first test, and others after it
either-test : {B : Type 0} (M : Map) (b : Bool) (x : Verdict) (tests : List (Verdict × Bool)) (rest : Asks Verdict) (f : Verdict → Asks B) (P : B → Type 0)
    → (b ≡ true → P (over M (f x))) → (b ≡ false → (v : Verdict) → P (over M (f v))) → P (over M (decided_or (first_of ((x, b) ∷ tests)) rest >>= f))
either-test M true x tests rest f P h k = h refl
either-test M false x tests rest f P h k = over_all M (decided_or (first_of tests) rest) f P (k refl)

-- a test that is passed
first-test : {B : Type 0} (M : Map) (c : Bool) (y : Verdict) (tests : List (Verdict × Bool)) (rest : Asks Verdict) (f : Verdict → Asks B) (P : B → Type 0)
    → c ≡ true → P (over M (f y)) → P (over M (decided_or (first_of ((y, c) ∷ tests)) rest >>= f))
first-test M true y tests rest f P e h = h
first-test M false y tests rest f P e h = cc e

-- the same after one that isn't
second-test : {B : Type 0} (M : Map) (b c : Bool) (x y : Verdict) (tests : List (Verdict × Bool)) (rest : Asks Verdict) (f : Verdict → Asks B) (P : B → Type 0)
    → b ≡ false → c ≡ true → P (over M (f y)) → P (over M (decided_or (first_of ((x, b) ∷ (y, c) ∷ tests)) rest >>= f))
second-test M true c x y tests rest f P d e h = cc d
second-test M false c x y tests rest f P d e h = first-test M c y tests rest f P e h

-- THE ITEM AFTER THE WRITES

-- a fee that is made leaves the items
fee-skips : (n k : ℕ) (patron : List ℕ) (kind : FeeType) (amount : ℕ) (N : Map) (id : List ℕ) → puts (fee_made n k patron kind amount) N (keys.Item id) ≡ N (keys.Item id)
unfolding put_one
fee-skips n k patron kind amount N id = by (nat_lt 0 amount)
  where
    by : (b : Bool) → puts (cond b ((keys.Fee (fee_id n k), records.Fee (record { patron = patron; kind = kind; amount = amount; paid = 0 })) ∷ []) []) N (keys.Item id) ≡ N (keys.Item id)
    by true = refl
    by false = refl

item-put : (id : List ℕ) (r : Record) (N : Map) → put_one (keys.Item id) r N (keys.Item id) ≡ Some r
item-put id r N = at-item id r N id ∙ ap (λ (b : Bool). cond b (Some r) (N (keys.Item id))) (same-itself id)

lent-there : (n : ℕ) (a : LoanRequest) (due charge : ℕ) (member : Member) (article : Article) (other : Option Member) (M : Map)
    → put (lending_writes n a due charge member article other) M (keys.Item a.item) ≡ Some (records.Item (lent a due article.item))
lent-there n a due charge member article other M =
    let ended : Entries = loan_ended_by a.item article.item.loan other in
    let both : Entries = lending_records n a due charge member article in
    ap (λ (N : Map). N (keys.Item a.item)) (put-three ended both (fee_made n 0 a.patron fee_types.Rental charge) M)
    ∙ fee-skips n 0 a.patron fee_types.Rental charge (puts both (puts ended M)) a.item
    ∙ item-put a.item (records.Item (lent a due article.item)) _

renewed-there : (n : ℕ) (a : LoanRequest) (due charge : ℕ) (member : Member) (article : Article) (M : Map)
    → put (renewal_writes n a due charge member article) M (keys.Item a.item) ≡ Some (records.Item (renewed due article.item))
renewed-there n a due charge member article M =
    let first : Entries = charged n a.patron charge member.patron in
    let item : Entries = (keys.Item a.item, records.Item (renewed due article.item)) ∷ [] in
    ap (λ (N : Map). N (keys.Item a.item)) (put-three first item (fee_made n 0 a.patron fee_types.Rental charge) M)
    ∙ fee-skips n 0 a.patron fee_types.Rental charge (puts item (puts first M)) a.item
    ∙ item-put a.item (records.Item (renewed due article.item)) _

-- WHO HAS IT

renewed-on : (a : LoanRequest) (due : ℕ) (item : Item) (o : Option Loan) → item.loan ≡ o → may_renew a o ≡ true → IsOnLoan (borrower_after a o) (Some due) (Some (records.Item (renewed due item)))
renewed-on a due item None e may = cc may
renewed-on a due item (Some loan) e may = by a.third_party may
  where
    after : Loan
    after = record loan { due = due; renewals = one_more loan.renewals }

    there : (renewed due item).loan ≡ Some after
    there = ap (renewed_loan due) e

    same-by : (x : Bool) → (x || false) ≡ true → x ≡ true
    same-by true h = refl
    same-by false h = cc h

    by : (third : Bool) → (same loan.patron a.patron || third) ≡ true → IsOnLoan (cond third loan.patron a.patron) (Some due) (Some (records.Item (renewed due item)))
    by true h = (after, there, itself loan.patron, refl)
    by false h = (after, there, same-by (same loan.patron a.patron) h, refl)

-- one that is lent anew is of who asks
lent-to-asker : (a : LoanRequest) (renewal : Bool) (o : Option Loan) → (a.third_party ≡ true → renewal ≡ true) → (renewal && may_renew a o) ≡ false → borrower_after a o ≡ a.patron
lent-to-asker a renewal None third e = refl
lent-to-asker a renewal (Some loan) third e = by a.third_party refl
  where
    right : (x : Bool) → (x || true) ≡ true
    right true = refl
    right false = refl

    by : (t : Bool) → a.third_party ≡ t → cond t loan.patron a.patron ≡ a.patron
    by true f = absurd
        (let on : renewal ≡ true = third f in
        let may : may_renew a (Some loan) ≡ true = ap (λ t. same loan.patron a.patron || t) f ∙ right (same loan.patron a.patron) in
        let clash : true ≡ false = sym (ap (λ b. b && may_renew a (Some loan)) on ∙ may) ∙ e in cc)
    by false f = refl

lent-on : (a : LoanRequest) (due : ℕ) (item : Item) (b : List ℕ) → b ≡ a.patron → IsOnLoan b (Some due) (Some (records.Item (lent a due item)))
lent-on a due item b e = (record { patron = a.patron; due = due; renewals = 0 }, refl, ap (same a.patron) e ∙ itself a.patron, refl)

-- RESULTS OF A LOAN RULE

-- refused, with an answer without a due day; or made, with the due day that it answers
abbrev Lends : LoanRequest → Option Loan → Map → Effect → Type 0
Lends a loan M e = ((l : LoanAnswer) × (e.answer ≡ Some (by_kind a.checkout l)) × (l.due ≡ None))
    ⊎ ((l : LoanAnswer) × (day : ℕ) × (e.answer ≡ Some (by_kind a.checkout l)) × (l.due ≡ Some day) × IsOnLoan (borrower_after a loan) (Some day) (put e.writes M (keys.Item a.item)))

module _ (p : Terms) (n : ℕ) (date : List ℕ) (M : Map) (a : LoanRequest) (member : Member) (article : Article) where
  due : ℕ
  due = due_for p a date article.media

  refuses : (why : Reason) → Lends a article.item.loan M (refused p a date (Some article) why)
  unfolding refused
  refuses why = inl (_, refl, refl)

  renews : may_renew a article.item.loan ≡ true → Lends a article.item.loan M (renewal_made p n a date member article)
  unfolding renewal_made due
  renews may = inr (
    _,
    due,
    refl,
    refl,
    subst (IsOnLoan (borrower_after a article.item.loan) (Some due)) (sym (renewed-there n a due (charge_for a article.media) member article M))
        (renewed-on a due article.item article.item.loan refl may),
  )

  renewal-lends : Lends a article.item.loan M (over M (renewal_rule p n a date member article))
  unfolding renewal_rule renewal_tests early_renewal
  renewal-lends =
      either-test M (not (may_renew a article.item.loan)) (verdicts.Refused (not_own article.item.loan)) (drop 1 (early_renewal a member article)) (owing_tests [] a.agreed member article) (λ v. Give (renewal_by p n a date member article v)) (Lends a article.item.loan M) (λ e. refuses _)
      (λ e. made (unless (may_renew a article.item.loan) e))
    where
      made : may_renew a article.item.loan ≡ true → (v : Verdict) → Lends a article.item.loan M (renewal_by p n a date member article v)
      made may (verdicts.Refused why) = refuses why
      made may verdicts.Made = renews may

  lends : borrower_after a article.item.loan ≡ a.patron → (other : Option Member) → Lends a article.item.loan M (lending_made p n a date member article other)
  unfolding lending_made due
  lends asker other = inr (
    _,
    due,
    refl,
    refl,
    subst (IsOnLoan (borrower_after a article.item.loan) (Some due)) (sym (lent-there n a due (charge_for a article.media) member article other M))
        (lent-on a due article.item (borrower_after a article.item.loan) asker),
  )

  lending-lends : borrower_after a article.item.loan ≡ a.patron → Lends a article.item.loan M (over M (lending_rule p n a date member article))
  unfolding lending_rule lending_of
  lending-lends asker = over_all M (lending_tests a member article) (lending_rule_by p n a date member article) (Lends a article.item.loan M) made
    where
      made : (v : Verdict) → Lends a article.item.loan M (over M (lending_rule_by p n a date member article v))
      made (verdicts.Refused why) = refuses why
      made verdicts.Made =
          over_all M (other_at p a.patron article.item.loan) (λ other. Give (lending_made p n a date member article other)) (Lends a article.item.loan M) (lends asker)

  checkout-lends : (renewal : Bool) → (a.third_party ≡ true → renewal ≡ true) → patron_in p M a.patron ≡ Some member → item_in p M a.item ≡ Some article
      → Lends a article.item.loan M (over M (checkout_rule_for p n renewal a date))
  unfolding checkout_rule_for patron_at item_at
  checkout-lends renewal third known there =
      subst (λ (o : Option Member). Lends a article.item.loan M (over M (checkout_rule_known p n renewal a date o (item_in p M a.item)))) (sym known)
      (subst (λ (x : Option Article). Lends a article.item.loan M (over M (checkout_rule_known p n renewal a date (Some member) x))) (sym there)
      (over_either M (renewal && may_renew a article.item.loan) (renewal_rule p n a date member article) (lending_rule p n a date member article) (Lends a article.item.loan M)
      (λ t. renewal-lends) (λ t. lending-lends (lent-to-asker a renewal article.item.loan third t))))

  -- one that is forced isn't refused
  forced-renews : a.forced ≡ true → may_renew a article.item.loan ≡ true
      → IsOnLoan (borrower_after a article.item.loan) (Some due) (put (over M (renewal_rule p n a date member article)).writes M (keys.Item a.item))
  unfolding renewal_rule renewal_tests early_renewal renewal_made due
  forced-renews forced may =
      second-test M (not (may_renew a article.item.loan)) a.forced (verdicts.Refused (not_own article.item.loan)) verdicts.Made (drop 2 (early_renewal a member article)) (owing_tests [] a.agreed member article) (λ v. Give (renewal_by p n a date member article v))
      (λ (e : Effect). IsOnLoan (borrower_after a article.item.loan) (Some due) (put e.writes M (keys.Item a.item))) (ap not may) forced
      (subst (IsOnLoan (borrower_after a article.item.loan) (Some due)) (sym (renewed-there n a due (charge_for a article.media) member article M))
      (renewed-on a due article.item article.item.loan refl may))

  forced-lends : a.forced ≡ true → borrower_after a article.item.loan ≡ a.patron
      → IsOnLoan (borrower_after a article.item.loan) (Some due) (put (over M (lending_rule p n a date member article)).writes M (keys.Item a.item))
  unfolding lending_rule lending_tests early_lending lending_of lending_made due
  forced-lends forced asker =
      first-test M a.forced verdicts.Made (drop 1 (early_lending a member article)) (owing_tests [] a.agreed member article) (lending_rule_by p n a date member article)
      (λ (e : Effect). IsOnLoan (borrower_after a article.item.loan) (Some due) (put e.writes M (keys.Item a.item))) forced
      (over_all M (other_at p a.patron article.item.loan) (λ other. Give (lending_made p n a date member article other))
      (λ (e : Effect). IsOnLoan (borrower_after a article.item.loan) (Some due) (put e.writes M (keys.Item a.item)))
      (λ other. subst (IsOnLoan (borrower_after a article.item.loan) (Some due)) (sym (lent-there n a due (charge_for a article.media) member article other M))
      (lent-on a due article.item (borrower_after a article.item.loan) asker)))

  forced-checkout : (renewal : Bool) → a.forced ≡ true → (a.third_party ≡ true → renewal ≡ true) → patron_in p M a.patron ≡ Some member → item_in p M a.item ≡ Some article
      → IsOnLoan (borrower_after a article.item.loan) (Some due) (put (over M (checkout_rule_for p n renewal a date)).writes M (keys.Item a.item))
  unfolding checkout_rule_for patron_at item_at
  forced-checkout renewal forced third known there =
      subst (λ (o : Option Member). On (over M (checkout_rule_known p n renewal a date o (item_in p M a.item)))) (sym known)
      (subst (λ (x : Option Article). On (over M (checkout_rule_known p n renewal a date (Some member) x))) (sym there)
      (over_either M (renewal && may_renew a article.item.loan) (renewal_rule p n a date member article) (lending_rule p n a date member article) On
      (λ t. forced-renews forced (and_parts renewal (may_renew a article.item.loan) t).1) (λ t. forced-lends forced (lent-to-asker a renewal article.item.loan third t))))
    where
      On : Effect → Type 0
      On e = IsOnLoan (borrower_after a article.item.loan) (Some due) (put e.writes M (keys.Item a.item))

-- WHAT THE RESPONSE NAMES

-- due on the day that it names, if it names one
named-day : (b : List ℕ) (day : ℕ) (told : Option ℕ) (r : Option Record) → is_told_day (Some day) told ≡ true → IsOnLoan b (Some day) r → IsOnLoan b told r
named-day b day told None e h = h
named-day b day told (Some (records.Patron x)) e h = h
named-day b day told (Some (records.Fee x)) e h = h
named-day b day None (Some (records.Item item)) e h = (h.0, h.1, h.2, tt)
named-day b day (Some d) (Some (records.Item item)) e h = (h.0, h.1, h.2, h.3 ∙ eqb-true day d e)

told-day : (p : Terms) (a : LoanRequest) (date : List ℕ) (t : ToldLoan) (article : Article) → is_told_day (Some (due_for p (as_told a t) date article.media)) t.due ≡ true
unfolding due_for
told-day p a date t article = by t.due
  where
    by : (o : Option ℕ) → is_told_day (Some (given_or true (day_told a o) (due_day p (day_of date) article.media))) o ≡ true
    by None = refl
    by (Some d) = eqb-same d

-- the rules agree: they lent it until that day
agreed : (a : LoanRequest) (loan : Option Loan) (M : Map) (e : Effect) (t : ToldLoan) → Lends a loan M e → agrees_with e.answer (deeds.Lent t) ≡ true
    → IsOnLoan (borrower_after a loan) t.due (put e.writes M (keys.Item a.item))
agreed a loan M e t (inl l) g = absurd (refused-apart a.checkout l.0 l.2 (sym (ap (λ (x : Option Answer). agrees_with x (deeds.Lent t)) l.1) ∙ g))
  where
    none : (o : Option ℕ) (b : Bool) → o ≡ None → (is_told_day o t.due && b) ≡ true → ⊥
    none None b f h = cc h
    none (Some d) b f h = cc f

    refused-apart : (c : Bool) (l : LoanAnswer) → l.due ≡ None → agrees (by_kind c l) (deeds.Lent t) ≡ true → ⊥
    refused-apart true l f h = none l.due (is_same_fee l.rental t.fee) f h
    refused-apart false l f h = none l.due (is_same_fee l.rental t.fee) f h
agreed a loan M e t (inr l) g =
    named-day (borrower_after a loan) l.1 t.due (put e.writes M (keys.Item a.item)) (day-of a.checkout l.0 l.3 (sym (ap (λ (x : Option Answer). agrees_with x (deeds.Lent t)) l.2) ∙ g)) l.4
  where
    some : (o : Option ℕ) (b : Bool) → o ≡ Some l.1 → (is_told_day o t.due && b) ≡ true → is_told_day (Some l.1) t.due ≡ true
    some o b f h = subst (λ (x : Option ℕ). is_told_day x t.due ≡ true) f (and_parts (is_told_day o t.due) b h).0

    day-of : (c : Bool) (x : LoanAnswer) → x.due ≡ Some l.1 → agrees (by_kind c x) (deeds.Lent t) ≡ true → is_told_day (Some l.1) t.due ≡ true
    day-of true x f h = some x.due (is_same_fee x.rental t.fee) f h
    day-of false x f h = some x.due (is_same_fee x.rental t.fee) f h

-- either way
either-way : (p : Terms) (n : ℕ) (date : List ℕ) (act : Act) (t : ToldLoan) (M : Map) (a : LoanRequest) (loan : Option Loan)
    → Lends a loan M (over M (rule_of p n date act))
    → IsOnLoan (borrower_after a loan) t.due (put (over M (carried p n date act (deeds.Lent t))).writes M (keys.Item a.item))
    → IsOnLoan (borrower_after a loan) t.due (put (over M (rule_with p n date act (Some (deeds.Lent t)))).writes M (keys.Item a.item))
unfolding rule_with followed
either-way p n date act t M a loan ruled done =
    subst On (sym (over_then M (rule_of p n date act) (followed p n date act (deeds.Lent t))))
    (over_either M (agrees_with ruling.answer (deeds.Lent t)) (Give ruling) (carried p n date act (deeds.Lent t) >>= λ done. Give (answering ruling.answer done)) On
    (λ g. agreed a loan M ruling t ruled g)
    (λ g. subst On (sym (over_then M (carried p n date act (deeds.Lent t)) (λ done. Give (answering ruling.answer done)))) done))
  where
    ruling : Effect
    ruling = over M (rule_of p n date act)

    On : Effect → Type 0
    On e = IsOnLoan (borrower_after a loan) t.due (put e.writes M (keys.Item a.item))

checkout-on : (p : Terms) (n : ℕ) (date : List ℕ) (q : Checkout) (t : ToldLoan) (M : Map) (member : Member) (article : Article)
    → patron_in p M q.patron ≡ Some member → item_in p M q.item ≡ Some article
    → IsOnLoan (borrower_after (by_checkout q) article.item.loan) t.due (put (over M (rule_with p n date (acts.Checkout q) (Some (deeds.Lent t)))).writes M (keys.Item q.item))
unfolding rule_of carried loan_told due
checkout-on p n date q t M member article known there =
    either-way p n date (acts.Checkout q) t M (by_checkout q) article.item.loan
    (checkout-lends p n date M (by_checkout q) member article q.renewal (λ h. cc h) known there)
    (named-day _ (due_for p a date article.media) t.due _ (told-day p (by_checkout q) date t article)
    (forced-checkout p n date M a member article t.renewal refl (λ h. cc h) known there))
  where
    a : LoanRequest
    a = as_told (by_checkout q) t

renew-on : (p : Terms) (n : ℕ) (date : List ℕ) (q : Renew) (t : ToldLoan) (M : Map) (member : Member) (article : Article)
    → patron_in p M q.patron ≡ Some member → item_in p M q.item ≡ Some article
    → IsOnLoan (borrower_after (by_renew q) article.item.loan) t.due (put (over M (rule_with p n date (acts.Renew q) (Some (deeds.Lent t)))).writes M (keys.Item q.item))
unfolding rule_of carried loan_told renew_rule patron_at item_at due
renew-on p n date q t M member article known there =
    either-way p n date (acts.Renew q) t M (by_renew q) article.item.loan
    (subst (λ (o : Option Member). Lends (by_renew q) article.item.loan M (over M (renew_rule_known p n (by_renew q) date o (item_in p M q.item)))) (sym known)
    (subst (λ (x : Option Article). Lends (by_renew q) article.item.loan M (over M (renew_rule_known p n (by_renew q) date (Some member) x))) (sym there)
    (renewal-lends p n date M (by_renew q) member article)))
    (named-day _ (due_for p a date article.media) t.due _ (told-day p (by_renew q) date t article)
    (forced-checkout p n date M a member article true refl (λ h. refl) known there))
  where
    a : LoanRequest
    a = as_told (by_renew q) t

-- what is asked for is what the request says
of-asked : (a b : LoanRequest) (P : LoanRequest → Type 0) → Some b ≡ Some a → P b → P a
of-asked a b P e h = let same : b ≡ a = cc e in subst P same h

pub lent-on-loan : LentIsOnLoan
lent-on-loan p n date act t M a member article asks known there = by act asks
  where
    Holds : Act → LoanRequest → Type 0
    Holds act x = patron_in p M x.patron ≡ Some member → item_in p M x.item ≡ Some article
        → IsOnLoan (borrower_after x article.item.loan) t.due (put (over M (rule_with p n date act (Some (deeds.Lent t)))).writes M (keys.Item x.item))

    by : (act : Act) → asks_for act ≡ Some a → IsOnLoan (borrower_after a article.item.loan) t.due (put (over M (rule_with p n date act (Some (deeds.Lent t)))).writes M (keys.Item a.item))
    by (acts.Checkout q) e = of-asked a (by_checkout q) (Holds (acts.Checkout q)) e (checkout-on p n date q t M member article) known there
    by (acts.Renew q) e = of-asked a (by_renew q) (Holds (acts.Renew q)) e (renew-on p n date q t M member article) known there
    by (acts.BlockPatron q) e = cc e
    by (acts.Checkin q) e = cc e
    by (acts.Hold q) e = cc e
    by (acts.ItemStatus q) e = cc e
    by (acts.PatronEnable q) e = cc e
    by (acts.FeePaid q) e = cc e
    by (acts.RenewAll q) e = cc e
