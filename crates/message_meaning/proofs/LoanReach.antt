-- Which keys checkin, checkout, renewal and renewal of all items want.
use Rattle.std.proofs.Common.{◌≡◌, inl, inr, ℕ, ◌+◌, Bool, true, false, cond, List, [], ◌∷◌, ◌++◌, Option, Some, None, refl, ap, subst, sym, ◌∙◌}
use Rattle.std.specs.Prelude.{◌&&◌, nat_lt, Contains, filter, is_some}
use Rattle.std.proofs.lemmas.List.Elements.{Contains-append_cases, Contains-append_right, Contains-push_cases}
use Rattle.circ_policy.specs.Terms.{Terms}
use Rattle.circ_records.specs.Records.{Entries, record_at}
use Rattle.circ_records.specs.declared.key.Key.{Key}
use Rattle.circ_records.specs.declared.key.Key.TheVariants as keys
use Rattle.circ_records.specs.declared.record.FeeType.TheVariants as fee_types
use Rattle.circ_records.specs.declared.record.Loan.{Loan}
use Rattle.circ_records.specs.declared.record.Record.{Record}
use Rattle.circ_records.specs.declared.record.Record.TheVariants as records
use Rattle.sip_answer.specs.Deeds.{names_item}
use Rattle.sip_answer.specs.declared.reason.Reason.TheVariants as reasons
use Rattle.sip_reader.specs.Texts.{fee_id}
use Rattle.sip_reader.specs.declared.request.Checkin.{Checkin}
use Rattle.sip_reader.specs.declared.request.Renew.{Renew}
use Rattle.sip_reader.specs.declared.request.RenewAll.{RenewAll}
use Rattle.read_set.specs.Checkouts.{lending_tests, other_at, lending_of, lending_rule_by, lending_rule, checkout_rule_known, checkout_rule_for, lending_made}
use Rattle.read_set.specs.Renewals.{renewal_tests, renewal_rule, renew_rule_known, renew_rule, renewed, renewal_by}
use Rattle.read_set.specs.Lookups.{patron_at, item_at, borrower_at, ask_after}
use Rattle.read_set.specs.Owing.{owed_from, owed_at, owing_tests, owing_verdict, decided_or}
use Rattle.read_set.specs.RenewAlls.{turn_rule_known, turn_rule, turns_rule, renew_all_rule_known, renew_all_rule, by_renew_all, turns_of, one_left, turn_by, none_renewed, all_renewed}
use Rattle.read_set.specs.Checkins.{checkin_rule, checked_in}
use Rattle.read_set.specs.Asks.{Asks, Give, ◌>>=◌}
use Rattle.read_set.specs.Effects.{written}
use Rattle.read_set.specs.Fees.{rest_of}
use Rattle.read_set.specs.Ids.{same}
use Rattle.read_set.specs.Known.{as_article, as_fee}
use Rattle.read_set.specs.Loans.{by_renew, charge_for, refused, due_for, may_renew, loan_of}
use Rattle.read_set.specs.Maps.{Part}
use Rattle.read_set.specs.Tests.{first_of}
use Rattle.read_set.specs.Rules.{early_lending, early_renewal}
use Rattle.read_set.specs.declared.known.Article.{Article}
use Rattle.read_set.specs.declared.known.Member.{Member}
use Rattle.read_set.specs.declared.progress.Renewals.{Renewals}
use Rattle.read_set.specs.declared.verdict.LoanRequest.{LoanRequest}
use Rattle.read_set.specs.declared.verdict.Verdict.{Verdict}
use Rattle.read_set.specs.declared.verdict.Verdict.TheVariants as verdicts
use Rattle.read_set.proofs.Putting.{put-there, written-lacks}
use Rattle.message_meaning.proofs.Reach.{Reaches, reach_give, reach_any, reach_then, reach_if}
use Rattle.message_meaning.proofs.Wanting.{IsClosed, Lists, ListsAll, Lent, LentAll, patron_reach, item_reach, alone, ask_reach, first-of}

-- anything may be given
abbrev Any : {A : Type 0} → A → Type 0
Any x = Unit {0}

-- CHECKIN

borrower_reach : (has : Part) (near : Key → Type 0) → IsClosed has near → (p : Terms) (loan : Option Loan) → Lent near loan → Reaches has near (borrower_at p loan) (ListsAll near)
unfolding borrower_at
borrower_reach has near closed p None h = reach_give has near None (ListsAll near) tt
borrower_reach has near closed p (Some loan) h = patron_reach has near closed p loan.patron (h (keys.Patron loan.patron) refl)

loan_near : (near : Key → Type 0) (item : Option Article) → LentAll near item → Lent near (loan_of item)
loan_near near None h = λ k e. absurd e
loan_near near (Some article) h = h

pub checkin_reach : (has : Part) (near : Key → Type 0) → IsClosed has near → (p : Terms) (n : ℕ) (q : Checkin) (date : List ℕ) → near (keys.Item q.item)
    → Reaches has near (checkin_rule p n q date) Any
unfolding checkin_rule
checkin_reach has near closed p n q date i =
    reach_then has near (item_at p q.item) (λ item. borrower_at p (loan_of item) >>= λ borrower. Give (checked_in p n q date item borrower)) (LentAll near) Any (item_reach has near closed p q.item i)
    (λ item h. reach_then has near (borrower_at p (loan_of item)) (λ borrower. Give (checked_in p n q date item borrower)) (ListsAll near) Any (borrower_reach has near closed p (loan_of item) (loan_near near item h))
    (λ borrower b. reach_any has near (checked_in p n q date item borrower)))

-- WHAT IS OWED

-- the fees of a list that aren't among the writes so far are near
abbrev Owes : (Key → Type 0) → Entries → List (List ℕ) → Type 0
Owes near w fees = (id : List ℕ) → Contains fees id → record_at w (keys.Fee id) ≡ None → near (keys.Fee id)

owed_from_reach : (has : Part) (near : Key → Type 0) (w : Entries) (sum : ℕ) (fees : List (List ℕ)) → Owes near w fees → Reaches has near (owed_from w sum fees) Any
owed_from_reach has near w sum [] h = reach_any has near sum
owed_from_reach has near w sum (id ∷ more) h =
    reach_then has near (ask_after w (keys.Fee id)) (λ found. owed_from w (sum + rest_of (as_fee found)) more) Any Any
    (ask_reach has near w (keys.Fee id) (h id (first-of id more)))
    (λ found u. owed_from_reach has near w (sum + rest_of (as_fee found)) more (λ j c. h j (Contains-append_right (id ∷ []) more j c)))

pub owed_reach : (has : Part) (near : Key → Type 0) (w : Entries) (fees : List (List ℕ)) → Owes near w fees → Reaches has near (owed_at w fees) Any
unfolding owed_at
owed_reach has near w fees h = owed_from_reach has near w 0 fees h

owing_reach : (has : Part) (near : Key → Type 0) (w : Entries) (agreed : Bool) (member : Member) (article : Article) → Owes near w member.patron.fees
    → Reaches has near (owing_tests w agreed member article) Any
unfolding owing_tests
owing_reach has near w agreed member article h =
    reach_then has near (owed_at w member.patron.fees) (λ owes. Give (owing_verdict owes agreed member article)) Any Any (owed_reach has near w member.patron.fees h)
    (λ owes u. reach_any has near (owing_verdict owes agreed member article))

-- CHECKOUT AND RENEWAL

decided_reach : (has : Part) (near : Key → Type 0) (verdict : Option Verdict) (after : Asks Verdict) → Reaches has near after Any → Reaches has near (decided_or verdict after) Any
decided_reach has near (Some verdict) after h = reach_any has near verdict
decided_reach has near None after h = h

lending_tests_reach : (has : Part) (near : Key → Type 0) (a : LoanRequest) (member : Member) (article : Article) → Lists near member.patron
    → Reaches has near (lending_tests a member article) Any
unfolding lending_tests
lending_tests_reach has near a member article h =
    decided_reach has near (first_of (early_lending a member article)) (owing_tests [] a.agreed member article) (owing_reach has near [] a.agreed member article (λ id c u. h.fees id c))

other_reach : (has : Part) (near : Key → Type 0) → IsClosed has near → (p : Terms) (patron : List ℕ) (loan : Option Loan) → Lent near loan
    → Reaches has near (other_at p patron loan) (ListsAll near)
other_reach has near closed p patron None h = reach_give has near None (ListsAll near) tt
other_reach has near closed p patron (Some loan) h =
    reach_if has near (same loan.patron patron) (Give None) (patron_at p loan.patron) (ListsAll near) (λ e. reach_give has near None (ListsAll near) tt)
    (λ e. patron_reach has near closed p loan.patron (h (keys.Patron loan.patron) refl))

lending_of_reach : (has : Part) (near : Key → Type 0) → IsClosed has near → (p : Terms) (n : ℕ) (a : LoanRequest) (date : List ℕ) (member : Member) (article : Article) → Lent near article.item.loan
    → Reaches has near (lending_of p n a date member article) Any
unfolding lending_of
lending_of_reach has near closed p n a date member article h =
    reach_then has near (other_at p a.patron article.item.loan) (λ other. Give (lending_made p n a date member article other)) (ListsAll near) Any
    (other_reach has near closed p a.patron article.item.loan h)
    (λ other u. reach_any has near (lending_made p n a date member article other))

lending_by_reach : (has : Part) (near : Key → Type 0) → IsClosed has near → (p : Terms) (n : ℕ) (a : LoanRequest) (date : List ℕ) (member : Member) (article : Article) (v : Verdict) → Lent near article.item.loan
    → Reaches has near (lending_rule_by p n a date member article v) Any
lending_by_reach has near closed p n a date member article (verdicts.Refused why) h = reach_any has near (refused p a date (Some article) why)
lending_by_reach has near closed p n a date member article verdicts.Made h = lending_of_reach has near closed p n a date member article h

lending_reach : (has : Part) (near : Key → Type 0) → IsClosed has near → (p : Terms) (n : ℕ) (a : LoanRequest) (date : List ℕ) (member : Member) (article : Article) → Lists near member.patron → Lent near article.item.loan
    → Reaches has near (lending_rule p n a date member article) Any
unfolding lending_rule
lending_reach has near closed p n a date member article h l =
    reach_then has near (lending_tests a member article) (λ v. lending_rule_by p n a date member article v) Any Any (lending_tests_reach has near a member article h)
    (λ v u. lending_by_reach has near closed p n a date member article v l)

-- after the writes so far
renewal_tests_reach : (has : Part) (near : Key → Type 0) (w : Entries) (a : LoanRequest) (member : Member) (article : Article) → Owes near w member.patron.fees
    → Reaches has near (renewal_tests w a member article) Any
unfolding renewal_tests
renewal_tests_reach has near w a member article h =
    decided_reach has near (first_of (early_renewal a member article)) (owing_tests w a.agreed member article) (owing_reach has near w a.agreed member article h)

renewal_reach : (has : Part) (near : Key → Type 0) (p : Terms) (n : ℕ) (a : LoanRequest) (date : List ℕ) (member : Member) (article : Article) → Lists near member.patron
    → Reaches has near (renewal_rule p n a date member article) Any
unfolding renewal_rule
renewal_reach has near p n a date member article h =
    reach_then has near (renewal_tests [] a member article) (λ v. Give (renewal_by p n a date member article v)) Any Any
    (renewal_tests_reach has near [] a member article (λ id c u. h.fees id c))
    (λ v u. reach_any has near (renewal_by p n a date member article v))

renew_known_reach : (has : Part) (near : Key → Type 0) (p : Terms) (n : ℕ) (a : LoanRequest) (date : List ℕ) (member : Option Member) (article : Option Article) → ListsAll near member
    → Reaches has near (renew_rule_known p n a date member article) Any
renew_known_reach has near p n a date None article h = reach_any has near (refused p a date article reasons.UnknownPatron)
renew_known_reach has near p n a date (Some member) None h = reach_any has near (refused p a date None reasons.UnknownItem)
renew_known_reach has near p n a date (Some member) (Some article) h = renewal_reach has near p n a date member article h

pub renew_reach : (has : Part) (near : Key → Type 0) → IsClosed has near → (p : Terms) (n : ℕ) (q : Renew) (date : List ℕ) → near (keys.Patron q.patron) → near (keys.Item q.item)
    → Reaches has near (renew_rule p n q date) Any
unfolding renew_rule
renew_reach has near closed p n q date a b =
    reach_then has near (patron_at p q.patron) (λ patron. item_at p q.item >>= λ item. renew_rule_known p n (by_renew q) date patron item) (ListsAll near) Any (patron_reach has near closed p q.patron a)
    (λ patron h. reach_then has near (item_at p q.item) (λ item. renew_rule_known p n (by_renew q) date patron item) (LentAll near) Any (item_reach has near closed p q.item b)
    (λ item u. renew_known_reach has near p n (by_renew q) date patron item h))

checkout_known_reach : (has : Part) (near : Key → Type 0) → IsClosed has near → (p : Terms) (n : ℕ) (renewal : Bool) (a : LoanRequest) (date : List ℕ) (member : Option Member) (article : Option Article) → ListsAll near member → LentAll near article
    → Reaches has near (checkout_rule_known p n renewal a date member article) Any
checkout_known_reach has near closed p n renewal a date None article h l = reach_any has near (refused p a date article reasons.UnknownPatron)
checkout_known_reach has near closed p n renewal a date (Some member) None h l = reach_any has near (refused p a date None reasons.UnknownItem)
checkout_known_reach has near closed p n renewal a date (Some member) (Some article) h l =
    reach_if has near (renewal && may_renew a article.item.loan) (renewal_rule p n a date member article) (lending_rule p n a date member article) Any
    (λ e. renewal_reach has near p n a date member article h)
    (λ e. lending_reach has near closed p n a date member article h l)

pub checkout_reach : (has : Part) (near : Key → Type 0) → IsClosed has near → (p : Terms) (n : ℕ) (renewal : Bool) (a : LoanRequest) (date : List ℕ) → near (keys.Patron a.patron) → near (keys.Item a.item)
    → Reaches has near (checkout_rule_for p n renewal a date) Any
unfolding checkout_rule_for
checkout_reach has near closed p n renewal a date i j =
    reach_then has near (patron_at p a.patron) (λ patron. item_at p a.item >>= λ item. checkout_rule_known p n renewal a date patron item) (ListsAll near) Any (patron_reach has near closed p a.patron i)
    (λ patron h. reach_then has near (item_at p a.item) (λ item. checkout_rule_known p n renewal a date patron item) (LentAll near) Any (item_reach has near closed p a.item j)
    (λ item l. checkout_known_reach has near closed p n renewal a date patron item h l))

-- RENEWAL OF ALL ITEMS

-- the patron's fees so far are near, or were made by the line
abbrev Held : (Key → Type 0) → Renewals → Type 0
Held near done = Owes near done.writes done.member.patron.fees

own_fee : (near : Key → Type 0) (w : Entries) (id j : List ℕ) (fee : Record) → id ≡ j → record_at (written w ((keys.Fee id, fee) ∷ [])) (keys.Fee j) ≡ None → near (keys.Fee j)
own_fee near w id j fee e u =
    let there : record_at (written w ((keys.Fee id, fee) ∷ [])) (keys.Fee id) ≡ Some fee = put-there w (keys.Fee id) fee in
    let none : record_at (written w ((keys.Fee id, fee) ∷ [])) (keys.Fee id) ≡ None = ap (λ i. record_at (written w ((keys.Fee id, fee) ∷ [])) (keys.Fee i)) e ∙ u in
    let clash : Some fee ≡ None = sym there ∙ none in
    cc

-- one more item, and the fee that is made
made_by : (near : Key → Type 0) (b : Bool) (w : Entries) (item : Key × Record) (id : List ℕ) (fee : Record) (fees : List (List ℕ)) → Owes near w fees
    → Owes near (written (written w (item ∷ [])) (cond b ((keys.Fee id, fee) ∷ []) [])) (cond b (fees ++ id ∷ []) fees)
made_by near false w item id fee fees h j c u = h j c (written-lacks w (item ∷ []) (keys.Fee j) u)
made_by near true w item id fee fees h j c u =
    elim (Contains-push_cases fees id j c) [
      | inl a ↦ h j a (written-lacks w (item ∷ []) (keys.Fee j) (written-lacks (written w (item ∷ [])) ((keys.Fee id, fee) ∷ []) (keys.Fee j) u))
      | inr e ↦ own_fee near (written w (item ∷ [])) id j fee e u
    ]

held_by : (near : Key → Type 0) (p : Terms) (n : ℕ) (a : LoanRequest) (date : List ℕ) (article : Article) (done : Renewals) (v : Verdict) → Held near done → Held near (turn_by p n a date article done v)
unfolding turn_by
held_by near p n a date article done (verdicts.Refused why) h = h
held_by near p n a date article done verdicts.Made h =
    made_by near (nat_lt 0 (charge_for a article.media)) done.writes (keys.Item a.item, records.Item (renewed (due_for p a date article.media) article.item)) (fee_id n done.made)
    (records.Fee (record { patron = a.patron; kind = fee_types.Rental; amount = charge_for a article.media; paid = 0 })) done.member.patron.fees h

turn_known_reach : (has : Part) (near : Key → Type 0) (p : Terms) (n : ℕ) (a : LoanRequest) (date : List ℕ) (done : Renewals) (article : Option Article) → Held near done
    → Reaches has near (turn_rule_known p n a date done article) (Held near)
turn_known_reach has near p n a date done None h = reach_give has near (one_left a.item reasons.UnknownItem done) (Held near) h
turn_known_reach has near p n a date done (Some article) h =
    reach_then has near (renewal_tests done.writes a done.member article) (λ v. Give (turn_by p n a date article done v)) Any (Held near)
    (renewal_tests_reach has near done.writes a done.member article h)
    (λ v u. reach_give has near (turn_by p n a date article done v) (Held near) (held_by near p n a date article done v h))

turn_reach : (has : Part) (near : Key → Type 0) (p : Terms) (n : ℕ) (a : LoanRequest) (date : List ℕ) (done : Renewals) → near (keys.Item a.item) → Held near done
    → Reaches has near (turn_rule p n a date done) (Held near)
unfolding turn_rule
turn_reach has near p n a date done i h =
    reach_then has near (ask_after done.writes (keys.Item a.item)) (λ found. turn_rule_known p n a date done (as_article p found)) Any (Held near)
    (ask_reach has near done.writes (keys.Item a.item) (λ u. i))
    (λ found u. turn_known_reach has near p n a date done (as_article p found) h)

turns_reach : (has : Part) (near : Key → Type 0) (p : Terms) (n : ℕ) (forced : Bool) (q : RenewAll) (date : List ℕ) (items : List (List ℕ)) (done : Renewals) → ((id : List ℕ) → Contains items id → near (keys.Item id)) → Held near done
    → Reaches has near (turns_rule p n forced q date items done) (Held near)
turns_reach has near p n forced q date [] done i h = reach_give has near done (Held near) h
turns_reach has near p n forced q date (id ∷ more) done i h =
    reach_then has near (turn_rule p n (by_renew_all forced q id) date done) (λ next. turns_rule p n forced q date more next) (Held near) (Held near)
    (turn_reach has near p n (by_renew_all forced q id) date done (i id (first-of id more)) h)
    (λ next k. turns_reach has near p n forced q date more next (λ j c. i j (Contains-append_right (id ∷ []) more j c)) k)

-- whose turn comes is in the list
turn_there : (test : List ℕ → Bool) (ids : List (List ℕ)) (id : List ℕ) → Contains (filter test ids) id → Contains ids id
turn_there test [] id c = c
turn_there test (x ∷ more) id c = by (test x) (turn_there test more id) c
  where
    by : (b : Bool) → (Contains (filter test more) id → Contains more id) → Contains (cond b (x ∷ filter test more) (filter test more)) id → Contains (x ∷ more) id
    by false ih d = Contains-append_right (x ∷ []) more id (ih d)
    by true ih d = elim (Contains-append_cases (x ∷ []) (filter test more) id d) [
      | inl here ↦ subst (λ (y : List ℕ). Contains (y ∷ more) id) (sym (alone x id here)) (first-of id more)
      | inr later ↦ Contains-append_right (x ∷ []) more id (ih later)
    ]

turns_there : (named : Option (List (List ℕ))) (ids : List (List ℕ)) (id : List ℕ) → Contains (turns_of named ids) id → Contains ids id
turns_there None ids id c = c
turns_there (Some texts) ids id c = turn_there (names_item texts) ids id c

renew_all_known_reach : (has : Part) (near : Key → Type 0) (p : Terms) (n : ℕ) (named : Option (List (List ℕ))) (q : RenewAll) (date : List ℕ) (member : Option Member) → ListsAll near member
    → Reaches has near (renew_all_rule_known p n named q date member) Any
renew_all_known_reach has near p n named q date None h = reach_any has near _
renew_all_known_reach has near p n named q date (Some member) h =
    let turns : List (List ℕ) = turns_of named member.patron.loans in
    reach_then has near (turns_rule p n (is_some named) q date turns (none_renewed member)) (λ done. Give (all_renewed p q date done)) (Held near) Any
    (turns_reach has near p n (is_some named) q date turns (none_renewed member) (λ id c. h.loans id (turns_there named member.patron.loans id c)) (λ id c u. h.fees id c))
    (λ done k. reach_any has near (all_renewed p q date done))

pub renew_all_reach : (has : Part) (near : Key → Type 0) → IsClosed has near → (p : Terms) (n : ℕ) (named : Option (List (List ℕ))) (q : RenewAll) (date : List ℕ) → near (keys.Patron q.patron)
    → Reaches has near (renew_all_rule p n named q date) Any
unfolding renew_all_rule
renew_all_reach has near closed p n named q date a =
    reach_then has near (patron_at p q.patron) (λ patron. renew_all_rule_known p n named q date patron) (ListsAll near) Any (patron_reach has near closed p q.patron a)
    (λ patron h. renew_all_known_reach has near p n named q date patron h)
