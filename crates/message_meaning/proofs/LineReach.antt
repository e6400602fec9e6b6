-- Which keys a line wants.
use Rattle.std.proofs.Common.{◌≡◌, ◌⊎◌, inl, inr, ℕ, Bool, true, false, not, List, [], ◌∷◌, Option, Some, None, refl, sym, subst, Result, Ok, Err}
use Rattle.std.specs.Prelude.{◌==◌, ◌||◌, Contains, IfErr}
use Rattle.std.specs.Ordering.{nat_cmp, is_eq}
use Rattle.std.specs.Cmp.Lexicographic.{slice_cmp}
use Rattle.std.specs.FinMap.{nat_cmp-IsAntisymmetric, slice_cmp-IsAntisymmetric}
use Rattle.std.specs.declared.cmp.Ordering.{Ordering}
use Rattle.std.specs.declared.cmp.Ordering.TheVariants.{Less, Equal, Greater}
use Rattle.std.proofs.lemmas.List.Elements.{Contains-append_right}
use Rattle.circ_policy.specs.Terms.{Terms}
use Rattle.circ_records.specs.declared.key.Key.{Key}
use Rattle.circ_records.specs.declared.key.Key.TheVariants as keys
use Rattle.circ_records.specs.declared.record.Fee.{Fee}
use Rattle.circ_records.specs.declared.record.Patron.{Patron}
use Rattle.sip_answer.specs.declared.answer.Answer.TheVariants as answers
use Rattle.sip_answer.specs.declared.deed.Deed.{Deed}
use Rattle.sip_answer.specs.declared.deed.Deed.TheVariants as deeds
use Rattle.sip_answer.specs.declared.deed.ToldLoan.{ToldLoan}
use Rattle.sip_reader.specs.declared.request.Act.{Act}
use Rattle.sip_reader.specs.declared.request.Act.TheVariants as acts
use Rattle.sip_reader.specs.declared.request.FeePaid.{FeePaid}
use Rattle.sip_reader.specs.declared.request.HoldRequest.{HoldRequest}
use Rattle.sip_reader.specs.declared.request.ItemStatus.{ItemStatus}
use Rattle.sip_reader.specs.declared.request.Reading.{Reading}
use Rattle.sip_reader.specs.declared.request.Reading.TheVariants as readings
use Rattle.read_set.specs.Lookups.{patron_at, item_at, fee_at, ask_after}
use Rattle.read_set.specs.Owing.{owed_at}
use Rattle.read_set.specs.Blocks.{block_rule, block_rule_known, blocked_by}
use Rattle.read_set.specs.Payments.{pay_rule_each, named, meant_at, payment_rule, fee_paid_rule_known, fee_paid_rule, pay_one, only_known, all_paid}
use Rattle.read_set.specs.Holds.{hold_rule, held}
use Rattle.read_set.specs.ItemStatuses.{item_status_rule, updated}
use Rattle.message_meaning.specs.Rules.{rule_by, rule_at}
use Rattle.read_set.specs.Asks.{Give, ◌>>=◌, Wants, follow}
use Rattle.read_set.specs.Effects.{unwritten}
use Rattle.read_set.specs.Ids.{same, has_id}
use Rattle.read_set.specs.Known.{as_fee}
use Rattle.read_set.specs.Maps.{Part}
use Rattle.read_set.specs.AsRecorded.{agrees_with, answering, as_told, carried, done_told, followed, loan_told, renewals_told}
use Rattle.read_set.specs.Loans.{by_checkout, by_renew}
use Rattle.read_set.specs.Meaning.{rule_of, rule_with, rule}
use Rattle.read_set.specs.Plans.{Planned, deed_at, reading_at}
use Rattle.read_set.specs.Stops.{Follows}
use Rattle.read_set.specs.Wanted.{IsOfAct, IsOfReading, IsOfLine, IsNamed, Wanted, WantsAt}
use Rattle.read_set.specs.declared.effect.Effect.{Effect}
use Rattle.read_set.specs.declared.known.Member.{Member}
use Rattle.read_set.specs.declared.progress.Payments.{Payments}
use Rattle.read_set.specs.declared.source.Stop.{Stop}
use Rattle.read_set.specs.declared.source.Stop.TheVariants.{Unnoted, Memory}
use Rattle.read_set.proofs.Following.{wants_lacks}
use Rattle.message_meaning.proofs.LoanReach.{owed_reach, checkin_reach, checkout_reach, renew_reach, renew_all_reach}
use Rattle.message_meaning.proofs.Reach.{Reaches, reach_give, reach_any, reach_then, reach_if}
use Rattle.message_meaning.proofs.Wanting.{IsClosed, ListsAll, LentAll, patron_reach, item_reach, fee_reach, ask_reach, first-of, alone}

-- anything may be given
abbrev Any : {A : Type 0} → A → Type 0
Any x = Unit {0}

status_reach : (has : Part) (near : Key → Type 0) → IsClosed has near → (p : Terms) (q : ItemStatus) (date : List ℕ) → near (keys.Item q.item) → Reaches has near (item_status_rule p q date) Any
unfolding item_status_rule
status_reach has near closed p q date i =
    reach_then has near (item_at p q.item) (λ item. Give (updated q date item)) (LentAll near) Any (item_reach has near closed p q.item i)
    (λ item h. reach_any has near (updated q date item))

hold_reach : (has : Part) (near : Key → Type 0) → IsClosed has near → (p : Terms) (forced : Bool) (q : HoldRequest) (date : List ℕ) → near (keys.Patron q.patron) → near (keys.Item q.item)
    → Reaches has near (hold_rule p forced q date) Any
unfolding hold_rule
hold_reach has near closed p forced q date a b =
    reach_then has near (patron_at p q.patron) (λ patron. item_at p q.item >>= λ item. Give (held p forced q date patron item)) (ListsAll near) Any (patron_reach has near closed p q.patron a)
    (λ patron h. reach_then has near (item_at p q.item) (λ item. Give (held p forced q date patron item)) (LentAll near) Any (item_reach has near closed p q.item b)
    (λ item l. reach_any has near (held p forced q date patron item)))

block_known_reach : (has : Part) (near : Key → Type 0) (p : Terms) (blocks : Bool) (id : List ℕ) (date : List ℕ) (member : Option Member) → ListsAll near member
    → Reaches has near (block_rule_known p blocks id date member) Any
block_known_reach has near p blocks id date None h = reach_any has near _
block_known_reach has near p blocks id date (Some member) h =
    reach_then has near (owed_at [] member.patron.fees) (λ owes. Give (blocked_by p blocks id date member owes)) Any Any
    (owed_reach has near [] member.patron.fees (λ j c u. h.fees j c))
    (λ owes u. reach_any has near (blocked_by p blocks id date member owes))

block_reach : (has : Part) (near : Key → Type 0) → IsClosed has near → (p : Terms) (blocks : Bool) (id : List ℕ) (date : List ℕ) → near (keys.Patron id) → Reaches has near (block_rule p blocks id date) Any
unfolding block_rule
block_reach has near closed p blocks id date a =
    reach_then has near (patron_at p id) (λ patron. block_rule_known p blocks id date patron) (ListsAll near) Any (patron_reach has near closed p id a)
    (λ patron h. block_known_reach has near p blocks id date patron h)

-- FEE PAID

abbrev Near : (Key → Type 0) → List (List ℕ) → Type 0
Near near fees = (id : List ℕ) → Contains fees id → near (keys.Fee id)

pays_reach : (has : Part) (near : Key → Type 0) (ids : List (List ℕ)) (done : Payments) → Near near ids → Reaches has near (pay_rule_each ids done) Any
pays_reach has near [] done h = reach_any has near done
pays_reach has near (id ∷ more) done h =
    reach_if has near (done.left == 0) (Give done) (ask_after done.writes (keys.Fee id) >>= λ found. pay_rule_each more (pay_one id done (as_fee found))) Any (λ e. reach_any has near done)
    (λ e. reach_then has near (ask_after done.writes (keys.Fee id)) (λ found. pay_rule_each more (pay_one id done (as_fee found))) Any Any
    (ask_reach has near done.writes (keys.Fee id) (λ u. h id (first-of id more)))
    (λ found u. pays_reach has near more (pay_one id done (as_fee found)) (λ j c. h j (Contains-append_right (id ∷ []) more j c))))

tie : (o : Ordering) → is_eq o ≡ true → o ≡ Equal
tie Less e = cc
tie Equal e = refl
tie Greater e = cc

-- texts that are one
same_text : (a b : List ℕ) → same a b ≡ true → a ≡ b
same_text a b e = slice_cmp-IsAntisymmetric nat_cmp-IsAntisymmetric a b (tie (slice_cmp nat_cmp a b) e)

-- an id that is found in a list is there
stands_by : (b : Bool) (id x : List ℕ) (more : List (List ℕ)) → (b ≡ true → x ≡ id) → (has_id id more ≡ true → Contains more id) → (b || has_id id more) ≡ true → Contains (x ∷ more) id
stands_by true id x more s ih e = subst (λ (y : List ℕ). Contains (y ∷ more) id) (sym (s refl)) (first-of id more)
stands_by false id x more s ih e = Contains-append_right (x ∷ []) more id (ih e)

stands : (id : List ℕ) (ids : List (List ℕ)) → has_id id ids ≡ true → Contains ids id
stands id [] e = cc
stands id (x ∷ more) e = stands_by (same x id) id x more (same_text x id) (stands id more) e

only_near : (near : Key → Type 0) (id : List ℕ) (fees : List (List ℕ)) (fee : Option Fee) → near (keys.Fee id) → Near near fees → Near near (only_known id fees fee)
only_near near id fees None n h = h
only_near near id fees (Some fee) n h = λ j c. subst (λ (i : List ℕ). near (keys.Fee i)) (alone id j c) n

named_reach : (has : Part) (near : Key → Type 0) (b : Bool) (id : List ℕ) (fees : List (List ℕ)) → (b ≡ true → near (keys.Fee id)) → Near near fees → Reaches has near (named b id fees) (Near near)
named_reach has near false id fees n h = reach_give has near fees (Near near) h
named_reach has near true id fees n h =
    reach_then has near (fee_at id) (λ fee. Give (only_known id fees fee)) Any (Near near) (fee_reach has near id (n refl))
    (λ fee u. reach_give has near (only_known id fees fee) (Near near) (only_near near id fees fee (n refl) h))

meant_reach : (has : Part) (near : Key → Type 0) (fee : Option (List ℕ)) (fees : List (List ℕ)) → Near near fees → Reaches has near (meant_at fee fees) (Near near)
unfolding meant_at
meant_reach has near None fees h = reach_give has near fees (Near near) h
meant_reach has near (Some id) fees h = named_reach has near (has_id id fees) id fees (λ e. h id (stands id fees e)) h

payment_reach : (has : Part) (near : Key → Type 0) (p : Terms) (q : FeePaid) (date : List ℕ) (patron : Patron) → Near near patron.fees → Reaches has near (payment_rule p q date patron) Any
unfolding payment_rule
payment_reach has near p q date patron h =
    reach_then has near (meant_at q.fee patron.fees) (λ ids. pay_rule_each ids (record { left = q.amount; writes = []; closed = [] }) >>= λ done. Give (all_paid p q date patron done)) (Near near) Any
    (meant_reach has near q.fee patron.fees h)
    (λ ids n. reach_then has near (pay_rule_each ids (record { left = q.amount; writes = []; closed = [] })) (λ done. Give (all_paid p q date patron done)) Any Any (pays_reach has near ids (record { left = q.amount; writes = []; closed = [] }) n)
    (λ done u. reach_any has near (all_paid p q date patron done)))

paid_known_reach : (has : Part) (near : Key → Type 0) (p : Terms) (q : FeePaid) (date : List ℕ) (member : Option Member) → ListsAll near member → Reaches has near (fee_paid_rule_known p q date member) Any
paid_known_reach has near p q date None h = reach_any has near _
paid_known_reach has near p q date (Some member) h =
    reach_if has near (not (same q.currency p.currency)) (Give _) _ Any (λ e. reach_any has near _)
    (λ e. reach_if has near (q.amount == 0) (Give _) (payment_rule p q date member.patron) Any (λ e. reach_any has near _)
    (λ e. payment_reach has near p q date member.patron h.fees))

fee_paid_reach : (has : Part) (near : Key → Type 0) → IsClosed has near → (p : Terms) (q : FeePaid) (date : List ℕ) → near (keys.Patron q.patron) → Reaches has near (fee_paid_rule p q date) Any
unfolding fee_paid_rule
fee_paid_reach has near closed p q date a =
    reach_then has near (patron_at p q.patron) (λ patron. fee_paid_rule_known p q date patron) (ListsAll near) Any (patron_reach has near closed p q.patron a)
    (λ patron h. paid_known_reach has near p q date patron h)

-- EACH LINE

act_reach : (has : Part) (near : Key → Type 0) → IsClosed has near → (p : Terms) (n : ℕ) (date : List ℕ) (act : Act) → ((k : Key) → IsOfAct act k → near k) → Reaches has near (rule_of p n date act) Any
unfolding rule_of
act_reach has near closed p n date (acts.BlockPatron q) h = block_reach has near closed p true q.patron date (h (keys.Patron q.patron) refl)
act_reach has near closed p n date (acts.Checkin q) h = checkin_reach has near closed p n q date (h (keys.Item q.item) refl)
act_reach has near closed p n date (acts.Checkout q) h = checkout_reach has near closed p n q.renewal (by_checkout q) date (h (keys.Patron q.patron) (inl refl)) (h (keys.Item q.item) (inr refl))
act_reach has near closed p n date (acts.Hold q) h = hold_reach has near closed p false q date (h (keys.Patron q.patron) (inl refl)) (h (keys.Item q.item) (inr refl))
act_reach has near closed p n date (acts.ItemStatus q) h = status_reach has near closed p q date (h (keys.Item q.item) refl)
act_reach has near closed p n date (acts.PatronEnable q) h = block_reach has near closed p false q.patron date (h (keys.Patron q.patron) refl)
act_reach has near closed p n date (acts.Renew q) h = renew_reach has near closed p n q date (h (keys.Patron q.patron) (inl refl)) (h (keys.Item q.item) (inr refl))
act_reach has near closed p n date (acts.FeePaid q) h = fee_paid_reach has near closed p q date (h (keys.Patron q.patron) refl)
act_reach has near closed p n date (acts.RenewAll q) h = renew_all_reach has near closed p n None q date (h (keys.Patron q.patron) refl)

-- as recorded

loan_told_reach : (has : Part) (near : Key → Type 0) → IsClosed has near → (p : Terms) (n : ℕ) (date : List ℕ) (act : Act) (t : ToldLoan) → ((k : Key) → IsOfAct act k → near k) → Reaches has near (loan_told p n date act t) Any
unfolding loan_told
loan_told_reach has near closed p n date (acts.Checkout q) t h = checkout_reach has near closed p n t.renewal (as_told (by_checkout q) t) date (h (keys.Patron q.patron) (inl refl)) (h (keys.Item q.item) (inr refl))
loan_told_reach has near closed p n date (acts.Renew q) t h = checkout_reach has near closed p n true (as_told (by_renew q) t) date (h (keys.Patron q.patron) (inl refl)) (h (keys.Item q.item) (inr refl))
loan_told_reach has near closed p n date (acts.BlockPatron q) t h = reach_any has near (unwritten None)
loan_told_reach has near closed p n date (acts.Checkin q) t h = reach_any has near (unwritten None)
loan_told_reach has near closed p n date (acts.Hold q) t h = reach_any has near (unwritten None)
loan_told_reach has near closed p n date (acts.ItemStatus q) t h = reach_any has near (unwritten None)
loan_told_reach has near closed p n date (acts.PatronEnable q) t h = reach_any has near (unwritten None)
loan_told_reach has near closed p n date (acts.FeePaid q) t h = reach_any has near (unwritten None)
loan_told_reach has near closed p n date (acts.RenewAll q) t h = reach_any has near (unwritten None)

done_told_reach : (has : Part) (near : Key → Type 0) → IsClosed has near → (p : Terms) (date : List ℕ) (act : Act) → ((k : Key) → IsOfAct act k → near k) → Reaches has near (done_told p date act) Any
unfolding done_told
done_told_reach has near closed p date (acts.Hold q) h = hold_reach has near closed p true q date (h (keys.Patron q.patron) (inl refl)) (h (keys.Item q.item) (inr refl))
done_told_reach has near closed p date (acts.BlockPatron q) h = reach_any has near (unwritten None)
done_told_reach has near closed p date (acts.Checkin q) h = reach_any has near (unwritten None)
done_told_reach has near closed p date (acts.Checkout q) h = reach_any has near (unwritten None)
done_told_reach has near closed p date (acts.ItemStatus q) h = reach_any has near (unwritten None)
done_told_reach has near closed p date (acts.PatronEnable q) h = reach_any has near (unwritten None)
done_told_reach has near closed p date (acts.Renew q) h = reach_any has near (unwritten None)
done_told_reach has near closed p date (acts.FeePaid q) h = reach_any has near (unwritten None)
done_told_reach has near closed p date (acts.RenewAll q) h = reach_any has near (unwritten None)

renewals_told_reach : (has : Part) (near : Key → Type 0) → IsClosed has near → (p : Terms) (n : ℕ) (date : List ℕ) (act : Act) (named : List (List ℕ)) → ((k : Key) → IsOfAct act k → near k) → Reaches has near (renewals_told p n date act named) Any
unfolding renewals_told
renewals_told_reach has near closed p n date (acts.RenewAll q) named h = renew_all_reach has near closed p n (Some named) q date (h (keys.Patron q.patron) refl)
renewals_told_reach has near closed p n date (acts.BlockPatron q) named h = reach_any has near (unwritten None)
renewals_told_reach has near closed p n date (acts.Checkin q) named h = reach_any has near (unwritten None)
renewals_told_reach has near closed p n date (acts.Checkout q) named h = reach_any has near (unwritten None)
renewals_told_reach has near closed p n date (acts.Hold q) named h = reach_any has near (unwritten None)
renewals_told_reach has near closed p n date (acts.ItemStatus q) named h = reach_any has near (unwritten None)
renewals_told_reach has near closed p n date (acts.PatronEnable q) named h = reach_any has near (unwritten None)
renewals_told_reach has near closed p n date (acts.Renew q) named h = reach_any has near (unwritten None)
renewals_told_reach has near closed p n date (acts.FeePaid q) named h = reach_any has near (unwritten None)

carried_reach : (has : Part) (near : Key → Type 0) → IsClosed has near → (p : Terms) (n : ℕ) (date : List ℕ) (act : Act) (o : Deed) → ((k : Key) → IsOfAct act k → near k) → Reaches has near (carried p n date act o) Any
unfolding carried
carried_reach has near closed p n date act deeds.NotTaken h = reach_any has near (unwritten None)
carried_reach has near closed p n date act (deeds.Said true) h = done_told_reach has near closed p date act h
carried_reach has near closed p n date act (deeds.Said false) h = reach_any has near (unwritten None)
carried_reach has near closed p n date act deeds.Refused h = reach_any has near (unwritten None)
carried_reach has near closed p n date act (deeds.Lent t) h = loan_told_reach has near closed p n date act t h
carried_reach has near closed p n date act (deeds.Renewed named) h = renewals_told_reach has near closed p n date act named h

followed_reach : (has : Part) (near : Key → Type 0) → IsClosed has near → (p : Terms) (n : ℕ) (date : List ℕ) (act : Act) (o : Deed) (ruled : Effect) → ((k : Key) → IsOfAct act k → near k)
    → Reaches has near (followed p n date act o ruled) Any
unfolding followed
followed_reach has near closed p n date act o ruled h =
    reach_if has near (agrees_with ruled.answer o) (Give ruled) (carried p n date act o >>= λ done. Give (answering ruled.answer done)) Any (λ e. reach_any has near ruled)
    (λ e. reach_then has near (carried p n date act o) (λ done. Give (answering ruled.answer done)) Any Any (carried_reach has near closed p n date act o h)
    (λ done u. reach_any has near (answering ruled.answer done)))

with_reach : (has : Part) (near : Key → Type 0) → IsClosed has near → (p : Terms) (n : ℕ) (date : List ℕ) (act : Act) (o : Option Deed) → ((k : Key) → IsOfAct act k → near k) → Reaches has near (rule_with p n date act o) Any
unfolding rule_with
with_reach has near closed p n date act None h = act_reach has near closed p n date act h
with_reach has near closed p n date act (Some o) h =
    reach_then has near (rule_of p n date act) (followed p n date act o) Any Any (act_reach has near closed p n date act h)
    (λ ruled u. followed_reach has near closed p n date act o ruled h)

reading_reach : (has : Part) (near : Key → Type 0) → IsClosed has near → (p : Terms) (n : ℕ) (r : Reading) (o : Option Deed) → ((k : Key) → IsOfReading r k → near k) → Reaches has near (rule p n r o) Any
unfolding rule
reading_reach has near closed p n (readings.Asked q) o h = with_reach has near closed p n q.date q.act o h
reading_reach has near closed p n readings.BadSum o h = reach_any has near (unwritten (Some answers.Resend))
reading_reach has near closed p n (readings.Passed why) o h = reach_any has near (unwritten None)
reading_reach has near closed p n (readings.Unread why) o h = reach_any has near (unwritten None)

line_reach : (has : Part) (near : Key → Type 0) → IsClosed has near → (plan : Planned) (line : ℕ) (r : Option Reading) → ((k : Key) → IsOfLine r k → near k) → Reaches has near (rule_by plan line r) Any
line_reach has near closed plan line None h = reach_any has near (unwritten None)
line_reach has near closed plan line (Some r) h = reading_reach has near closed plan.policy line r (deed_at plan line) h

-- the key at which a line stops is wanted
pub wanted : (has : Part) (plan : Planned) (line : ℕ) (k : Key) → follow has (rule_at plan line) ≡ Wants k → Wanted plan line has k
unfolding rule_at
wanted has plan line k e = (
  wants_lacks has (rule_by plan line (reading_at plan line)) k e,
  (line_reach has (λ j. IsOfLine (reading_at plan line) j ⊎ IsNamed has j) (λ j r i h m. inr (j, r, h, m)) plan line (reading_at plan line) (λ j h. inl h)).wants k e,
)

pub wanted_all : (has : Part) (plan : Planned) (line : ℕ) (r : Result Effect Stop) → Follows r (follow has (rule_at plan line)) → IfErr r (WantsAt plan line has)
wanted_all has plan line (Ok e) h = tt
wanted_all has plan line (Err (Unnoted k)) h = wanted has plan line k h
wanted_all has plan line (Err Memory) h = tt
