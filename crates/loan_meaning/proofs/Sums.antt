-- The running sum of what is owed is what asking fee by fee gives.
use Rattle.std.proofs.Common.{◌≡◌, inl, inr, ℕ, ◌+◌, ◌-◌, ◌<◌, ◌≤◌, ◌^◌, Bool, true, false, cond, List, [], ◌∷◌, ◌++◌, length, take, Option, Some, None, refl, ap, sym, ◌∙◌, subst, arith}
use Rattle.std.specs.Prelude.{◌⊎◌, ◌==◌, not, nat_eq, nat_lt, Contains, codes, decimal, if◌then◌else◌}
use Rattle.std.specs.Cmp.Lexicographic.{nat_list_eq_equiv, pointwise}
use Rattle.std.proofs.Math.ListN.{length-append}
use Rattle.std.proofs.Math.Seq.{take-append_seam}
use Rattle.std.specs.BTreeMap.{is_at}
use Rattle.std.specs.Option.{option_map_or}
use Rattle.std.specs.Ordering.{is_eq}
use Rattle.std.specs.declared.cmp.Ordering.{Ordering}
use Rattle.std.specs.declared.cmp.Ordering.TheVariants.{Less, Equal, Greater}
use Rattle.std.proofs.lemmas.Fmt.{decimal_digit, decimal_injective}
use Rattle.std.proofs.lemmas.Bool.Decides.{nat_tests}
use Rattle.std.proofs.lemmas.List.{append_cancel_left}
use Rattle.std.proofs.lemmas.List.Elements.{Contains-append_right, Contains-push_cases}
use Rattle.std.proofs.lemmas.List.Folds.{list_all_at}
use Rattle.circ_policy.specs.Terms.{Terms}
use Rattle.circ_records.specs.Keys.{key_cmp, key_cmp-IsAntisymmetric}
use Rattle.circ_records.specs.Records.{Entries, record_at}
use Rattle.circ_records.specs.declared.key.Key.{Key}
use Rattle.circ_records.specs.declared.key.Key.TheVariants as keys
use Rattle.circ_records.specs.declared.record.Fee.{Fee}
use Rattle.circ_records.specs.declared.record.FeeType.TheVariants as fee_types
use Rattle.circ_records.specs.declared.record.Record.{Record}
use Rattle.circ_records.specs.declared.record.Record.TheVariants as records
use Rattle.sip_reader.specs.Texts.{fee_id}
use Rattle.sip_answer.specs.declared.reason.Reason.{Reason}
use Rattle.read_set.specs.Lookups.{ask_after}
use Rattle.read_set.specs.Owing.{owed_from, owed_at}
use Rattle.loan_meaning.specs.Devices.Sums.{IsKnown, AreNew, Runs, fee_front, begins_as_made, none_begins_as_made, with_room, sum_with, charged_by}
use Rattle.read_set.specs.Asks.{Asks, Give, Ask, ◌>>=◌, Reached, Done, Wants, follow}
use Rattle.read_set.specs.Effects.{written}
use Rattle.read_set.specs.Fees.{rest_of}
use Rattle.read_set.specs.Known.{as_fee}
use Rattle.read_set.specs.Loans.{charge_for, due_for}
use Rattle.read_set.specs.Renewals.{renewed}
use Rattle.read_set.specs.Maps.{Part, Grows}
use Rattle.read_set.specs.RenewAlls.{one_left, turn_by, none_renewed}
use Rattle.read_set.specs.declared.known.Article.{Article}
use Rattle.read_set.specs.declared.known.Member.{Member}
use Rattle.read_set.specs.declared.progress.Renewals.{Renewals}
use Rattle.read_set.specs.declared.verdict.LoanRequest.{LoanRequest}
use Rattle.read_set.specs.declared.verdict.Verdict.{Verdict}
use Rattle.read_set.specs.declared.verdict.Verdict.TheVariants as verdicts
use Rattle.read_set.proofs.Following.{follow_done, follow_more, follow_wants}
use Rattle.read_set.proofs.Putting.{put-at, put-there}

-- programs that go on alike come as far
alike_met : {A B : Type 0} (has : Part) (o : Option (Option Record)) (k : Key) (rule : Option Record → Asks A) (f g : A → Asks B)
    → ((r : Option Record) → follow has (rule r >>= f) ≡ follow has (rule r >>= g))
    → option_map_or (λ r. follow has (rule r >>= f)) o (Wants k) ≡ option_map_or (λ r. follow has (rule r >>= g)) o (Wants k)
alike_met has None k rule f g h = refl
alike_met has (Some r) k rule f g h = h r

alike : {A B : Type 0} (has : Part) (m : Asks A) (f g : A → Asks B) → ((x : A) → follow has (f x) ≡ follow has (g x)) → follow has (m >>= f) ≡ follow has (m >>= g)
alike has (Give x) f g h = h x
alike has (Ask k rule) f g h = alike_met has (has k) k rule f g (λ r. alike has (rule r) f g h)

-- what is owed after writes that have the same fees
same_owed : (has : Part) (w v : Entries) (sum : ℕ) (fees : List (List ℕ)) → ((id : List ℕ) → Contains fees id → record_at v (keys.Fee id) ≡ record_at w (keys.Fee id))
    → follow has (owed_from v sum fees) ≡ follow has (owed_from w sum fees)
unfolding ask_after
same_owed has w v sum [] h = refl
same_owed has w v sum (id ∷ more) h =
    ap (λ o. follow has (option_map_or (λ r. Give (Some r)) o (Ask (keys.Fee id) Give) >>= λ found. owed_from v (sum + rest_of (as_fee found)) more)) (h id (0, omega arith, refl))
    ∙ alike has (ask_after w (keys.Fee id)) (λ found. owed_from v (sum + rest_of (as_fee found)) more) (λ found. owed_from w (sum + rest_of (as_fee found)) more)
    (λ found. same_owed has w v (sum + rest_of (as_fee found)) more (λ j c. h j (Contains-append_right (id ∷ []) more j c)))

-- a program that ends has ended its first part
parts_by : {A B : Type 0} (has : Part) (m : Asks A) (f : A → Asks B) (y : B) (reached : Reached A) → follow has m ≡ reached → follow has (m >>= f) ≡ Done y → (x : A) × (follow has m ≡ Done x) × (follow has (f x) ≡ Done y)
parts_by has m f y (Done x) s e = (x, s, sym (follow_done has m f x s) ∙ e)
parts_by has m f y (Wants k) s e = let w : Wants k ≡ Done y = sym (follow_wants has m f k s) ∙ e in cc

-- one more fee, which is among the writes
more_owed : (has : Part) (w : Entries) (sum total : ℕ) (fees : List (List ℕ)) (id : List ℕ) (fee : Fee) → record_at w (keys.Fee id) ≡ Some (records.Fee fee)
    → follow has (owed_from w sum fees) ≡ Done total → follow has (owed_from w sum (fees ++ id ∷ [])) ≡ Done (total + rest_of (Some fee))
unfolding ask_after as_fee
more_owed has w sum total [] id fee there e =
    let same : sum ≡ total = cc in
    ap (λ o. follow has (option_map_or (λ r. Give (Some r)) o (Ask (keys.Fee id) Give) >>= λ found. Give (sum + rest_of (as_fee found)))) there
    ∙ ap (λ s. Done (s + rest_of (Some fee))) same
more_owed has w sum total (j ∷ more) id fee there e =
    let p = parts_by has (ask_after w (keys.Fee j)) (λ found. owed_from w (sum + rest_of (as_fee found)) more) total (follow has (ask_after w (keys.Fee j))) refl e in
    follow_done has (ask_after w (keys.Fee j)) (λ found. owed_from w (sum + rest_of (as_fee found)) (more ++ id ∷ [])) p.0 p.1
    ∙ more_owed has w (sum + rest_of (as_fee p.0)) total more id fee there p.2

-- an item's record is no fee's
item_apart : (w : Entries) (item id : List ℕ) (r : Record) → record_at (written w ((keys.Item item, r) ∷ [])) (keys.Fee id) ≡ record_at w (keys.Fee id)
item_apart w item id r = put-at w (keys.Item item) r (keys.Fee id)

other : (b : Bool) (r : Record) (o : Option Record) → b ≡ false → cond b (Some r) o ≡ o
other b r o e = ap (λ c. cond c (Some r) o) e

tie : (o : Ordering) → is_eq o ≡ true → o ≡ Equal
tie Less e = cc
tie Equal e = refl
tie Greater e = cc

unequal : (b : Bool) → (b ≡ true → ⊥) → b ≡ false
unequal true h = absurd (h refl)
unequal false h = refl

fee_of : Key → List ℕ
fee_of (keys.Patron id) = []
fee_of (keys.Item id) = []
fee_of (keys.Fee id) = id

-- a fee's record is no other fee's
fee_apart : (w : Entries) (f id : List ℕ) (r : Record) → (id ≡ f → ⊥) → record_at (written w ((keys.Fee f, r) ∷ [])) (keys.Fee id) ≡ record_at w (keys.Fee id)
unfolding fee_of
fee_apart w f id r h =
    put-at w (keys.Fee f) r (keys.Fee id)
    ∙ other (is_at (key_cmp (keys.Fee id)) (keys.Fee f)) r (record_at w (keys.Fee id))
    (unequal (is_at (key_cmp (keys.Fee id)) (keys.Fee f)) (λ e. h (ap fee_of (key_cmp-IsAntisymmetric (keys.Fee id) (keys.Fee f) (tie (key_cmp (keys.Fee id) (keys.Fee f)) e)))))

none-above : (a : ℕ) → nat_lt 0 a ≡ false → a ≡ 0
none-above a e = grind (arith, nat_tests)

some-above : (a : ℕ) → nat_lt 0 a ≡ true → a ≡ 0 → ⊥
some-above a e z = absurd (grind (arith, nat_tests))

-- A SUM WITH AN AMOUNT MORE

-- what of it the rule needs: a sum that is known is the sum before and the amount, which is 0 where the fees of the line aren't new
abbrev IsMore : Bool → ℕ → Option ℕ → Option ℕ → Type 0
IsMore fresh amount sum None = Unit {0}
IsMore fresh amount None (Some more) = ⊥
IsMore fresh amount (Some sum) (Some more) = (more ≡ sum + amount) × ((amount ≡ 0) ⊎ (fresh ≡ true))

more_room : (room : Bool) (amount sum : ℕ) → IsMore true amount (Some sum) (if room then Some (sum + amount) else None)
more_room true amount sum = (refl, inr refl)
more_room false amount sum = tt

more_by : (zero fresh : Bool) (amount sum : ℕ) → (zero ≡ true → amount ≡ 0) → IsMore fresh amount (Some sum) (if zero then Some sum else if fresh then with_room (sum + amount) else None)
more_by true fresh amount sum h = let none : amount ≡ 0 = h refl in (omega arith, inl none)
more_by false true amount sum h = more_room (nat_lt (sum + amount) (2 ^ 128)) amount sum
more_by false false amount sum h = tt

is-more : (fresh : Bool) (amount : ℕ) (sum : Option ℕ) → IsMore fresh amount sum (sum_with fresh amount sum)
is-more fresh amount None = tt
is-more fresh amount (Some sum) = more_by (amount == 0) fresh amount sum (λ e. grind (arith, nat_tests))

-- WHAT IS OWED AFTER A TURN

unchanged : (has : Part) (w v : Entries) (fees : List (List ℕ)) (sum : ℕ) → ((id : List ℕ) → Contains fees id → record_at v (keys.Fee id) ≡ record_at w (keys.Fee id))
    → follow has (owed_at w fees) ≡ Done sum → follow has (owed_at v fees) ≡ Done sum
unfolding owed_at
unchanged has w v fees sum h e = same_owed has w v 0 fees h ∙ e

one_more : (has : Part) (w : Entries) (fees : List (List ℕ)) (sum : ℕ) (id : List ℕ) (fee : Fee) → record_at w (keys.Fee id) ≡ Some (records.Fee fee)
    → follow has (owed_at w fees) ≡ Done sum → follow has (owed_at w (fees ++ id ∷ [])) ≡ Done (sum + rest_of (Some fee))
unfolding owed_at
one_more has w fees sum id fee there e = more_owed has w 0 sum fees id fee there e

-- where the fee that is made is new
new_owed : (has : Part) (w : Entries) (item : List ℕ) (r : Record) (f : List ℕ) (fee : Fee) (fees : List (List ℕ)) (sum amount : ℕ) → rest_of (Some fee) ≡ amount
    → (Contains fees f → ⊥) → follow has (owed_at w fees) ≡ Done sum
    → follow has (owed_at (written (written w ((keys.Item item, r) ∷ [])) ((keys.Fee f, records.Fee fee) ∷ [])) (fees ++ f ∷ [])) ≡ Done (sum + amount)
new_owed has w item r f fee fees sum amount rest new e =
    one_more has (written (written w ((keys.Item item, r) ∷ [])) ((keys.Fee f, records.Fee fee) ∷ [])) fees sum f fee
    (put-there (written w ((keys.Item item, r) ∷ [])) (keys.Fee f) (records.Fee fee))
    (unchanged has w (written (written w ((keys.Item item, r) ∷ [])) ((keys.Fee f, records.Fee fee) ∷ [])) fees sum
    (λ id c. fee_apart (written w ((keys.Item item, r) ∷ [])) f id (records.Fee fee) (λ same. new (subst (Contains fees) same c)) ∙ item_apart w item id r) e)
    ∙ ap (λ a. Done (sum + a)) rest

made_known : (has : Part) (b fresh : Bool) (w : Entries) (item : List ℕ) (r : Record) (f : List ℕ) (fee : Fee) (fees : List (List ℕ)) (sum more : Option ℕ) (amount : ℕ) → nat_lt 0 amount ≡ b
    → rest_of (Some fee) ≡ amount → (fresh ≡ true → Contains fees f → ⊥) → IsMore fresh amount sum more → IsKnown has w fees sum
    → IsKnown has (written (written w ((keys.Item item, r) ∷ [])) (cond b ((keys.Fee f, records.Fee fee) ∷ []) [])) (cond b (fees ++ f ∷ []) fees) more
made_known has b fresh w item r f fee fees sum None amount above rest new m e = tt
made_known has b fresh w item r f fee fees None (Some more) amount above rest new m e = absurd m
made_known has false fresh w item r f fee fees (Some sum) (Some more) amount above rest new m e =
    let none : amount ≡ 0 = none-above amount above in
    let same : more ≡ sum = let a = m.0 in omega arith in
    unchanged has w (written w ((keys.Item item, r) ∷ [])) fees sum (λ id c. item_apart w item id r) e ∙ ap Done (sym same)
made_known has true fresh w item r f fee fees (Some sum) (Some more) amount above rest new m e =
    elim m.1 [
      | inl z ↦ absurd (some-above amount above z)
      | inr is ↦ new_owed has w item r f fee fees sum amount rest (new is) e ∙ ap Done (sym m.0)
    ]

less_known : (has : Part) (fresh : Bool) (w : Entries) (fees : List (List ℕ)) (sum more : Option ℕ) → IsMore fresh 0 sum more → IsKnown has w fees sum → IsKnown has w fees more
less_known has fresh w fees sum None m e = tt
less_known has fresh w fees None (Some more) m e = absurd m
less_known has fresh w fees (Some sum) (Some more) m e = e ∙ ap Done (let same : more ≡ sum = let a = m.0 in omega arith in sym same)

-- THE FEES THAT A LINE MAKES

one_fee : (n j k : ℕ) → j < 2 ^ 64 → k < 2 ^ 64 → fee_id n j ≡ fee_id n k → j ≡ k
unfolding fee_id
one_fee n j k a b e = decimal_injective j k a b (append_cancel_left (codes "R" ++ decimal n ++ codes "-") (decimal j) (decimal k) e)

new_after : (b : Bool) (n made : ℕ) (fees : List (List ℕ)) → AreNew n made fees → AreNew n (cond b (made + 1) made) (cond b (fees ++ fee_id n made ∷ []) fees)
new_after false n made fees h k l s c = h k l s c
new_after true n made fees h k l s c =
    elim (Contains-push_cases fees (fee_id n made) (fee_id n k) c) [
      | inl a ↦ h k (omega arith) s a
      | inr e ↦ let same : made ≡ k = one_fee n made k (omega arith) s e in absurd (omega arith)
    ]

turn_runs : (has : Part) (p : Terms) (n : ℕ) (a : LoanRequest) (date : List ℕ) (article : Article) (done : Renewals) (v : Verdict) (fresh : Bool) (sum more : Option ℕ) → done.made < 2 ^ 64
    → Runs has n fresh done sum → IsMore fresh (charged_by v (charge_for a article.media)) sum more → Runs has n fresh (turn_by p n a date article done v) more
unfolding turn_by rest_of
turn_runs has p n a date article done (verdicts.Refused why) fresh sum more s h m = record { known = less_known has fresh done.writes done.member.patron.fees sum more m h.known; new = h.new }
turn_runs has p n a date article done verdicts.Made fresh sum more s h m = record {
  known = made_known has (nat_lt 0 (charge_for a article.media)) fresh done.writes a.item (records.Item (renewed (due_for p a date article.media) article.item)) (fee_id n done.made)
      (record { patron = a.patron; kind = fee_types.Rental; amount = (charge_for a article.media); paid = 0 }) done.member.patron.fees sum more (charge_for a article.media) refl (omega arith)
      (λ is c. h.new is done.made (omega arith) s c) m h.known;
  new = λ is. new_after (nat_lt 0 (charge_for a article.media)) n done.made done.member.patron.fees (h.new is);
}

-- a turn, and the sum after it
pub run_turn : (has : Part) (p : Terms) (n : ℕ) (a : LoanRequest) (date : List ℕ) (article : Article) (done : Renewals) (v : Verdict) (fresh : Bool) (sum more : Option ℕ) → done.made < 2 ^ 64
    → Runs has n fresh done sum → more ≡ sum_with fresh (charged_by v (charge_for a article.media)) sum → Runs has n fresh (turn_by p n a date article done v) more
run_turn has p n a date article done v fresh sum more s h e =
    turn_runs has p n a date article done v fresh sum more s h
    (subst (IsMore fresh (charged_by v (charge_for a article.media)) sum) (sym e) (is-more fresh (charged_by v (charge_for a article.media)) sum))

-- HOW THE IDS OF A LINE'S FEES BEGIN

fee-front : (n k : ℕ) → fee_id n k ≡ fee_front n ++ decimal k
unfolding fee_id
fee-front n k = refl

first-fee : (n : ℕ) → fee_id n 0 ≡ fee_front n ++ 48 ∷ []
first-fee n = fee-front n 0 ∙ ap (λ d. fee_front n ++ d) (decimal_digit 0 (omega arith))

first-length : (n : ℕ) → length (fee_id n 0) ≡ length (fee_front n) + 1
first-length n = ap length (first-fee n) ∙ length-append (fee_front n) (48 ∷ [])

pub first-some : (n : ℕ) → 1 ≤ length (fee_id n 0)
first-some n = let len = first-length n in omega arith

-- without its last digit the first of them is how each begins
pub cut-front : (n : ℕ) → take (length (fee_id n 0) - 1) (fee_id n 0) ≡ fee_front n
cut-front n =
    let len = first-length n in
    let upto : length (fee_id n 0) - 1 ≡ length (fee_front n) = omega arith in
    ap (λ m. take m (fee_id n 0)) upto ∙ ap (λ ids. take (length (fee_front n)) ids) (first-fee n) ∙ take-append_seam (fee_front n) (48 ∷ [])

each-begins : (n k : ℕ) → begins_as_made n (fee_id n k) ≡ true
each-begins n k =
    ap (λ i. pointwise nat_eq (fee_front n) (take (length (fee_front n)) i)) (fee-front n k)
    ∙ ap (pointwise nat_eq (fee_front n)) (take-append_seam (fee_front n) (decimal k))
    ∙ nat_list_eq_equiv.refl (fee_front n)

-- where no id begins so, none is a fee of the line
new_where : (n : ℕ) (fees : List (List ℕ)) → none_begins_as_made n fees ≡ true → AreNew n 0 fees
new_where n fees e k l s c =
    let not_all : none_begins_as_made n fees ≡ false = list_all_at (λ id. not (begins_as_made n id)) fees c.0 (fee_id n k) c.1 (ap (λ id. not (begins_as_made n id)) c.2 ∙ ap not (each-begins n k)) in
    let clash : false ≡ true = sym not_all ∙ e in cc

-- before the first turn
pub run_none : (has : Part) (n : ℕ) (member : Member) (fresh : Bool) → fresh ≡ none_begins_as_made n member.patron.fees → Runs has n fresh (none_renewed member) None
run_none has n member fresh h = record { known = tt; new = λ t. new_where n member.patron.fees (sym h ∙ t) }

-- an item that is left
pub run_left : (has : Part) (n : ℕ) (item : List ℕ) (why : Reason) (done : Renewals) (fresh : Bool) (sum : Option ℕ) → Runs has n fresh done sum → Runs has n fresh (one_left item why done) sum
run_left has n item why done fresh sum h = record { known = h.known; new = h.new }

-- what is known of a sum stays known where more is had
known_more : (old new : Part) (w : Entries) (fees : List (List ℕ)) (sum : Option ℕ) → Grows old new → IsKnown old w fees sum → IsKnown new w fees sum
known_more old new w fees None grows h = tt
known_more old new w fees (Some sum) grows h = follow_more old new (owed_at w fees) sum grows h

pub run_more : (old new : Part) (n : ℕ) (fresh : Bool) (done : Renewals) (sum : Option ℕ) → Grows old new → Runs old n fresh done sum → Runs new n fresh done sum
run_more old new n fresh done sum grows h = record { known = known_more old new done.writes done.member.patron.fees sum grows h.known; new = h.new }
