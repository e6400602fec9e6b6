-- What a payment pays: fee after fee, what is spent is paid on a list of fees and no longer owed there.
use Rattle.std.proofs.Common.{◌≡◌, ◌≤◌, ◌<◌, ◌+◌, ◌-◌, ◌⊎◌, inl, inr, ⊎_elim, ℕ, suc, zero, List, [], ◌∷◌, ◌++◌, Bool, true, false, cond, not, eqb, take, drop, map, sum, Option, Some, None, refl, subst, sym, ap, ◌∙◌, arith}
use Rattle.std.specs.Prelude.{◌&&◌, ◌||◌, ◌==◌, min}
use Rattle.std.proofs.lemmas.Bool.{and_parts, eqb-false, eqb-true, or_left, or_parts, or_right}
use Rattle.std.proofs.lemmas.List.{take-append-drop}
use Rattle.std.proofs.lemmas.List.Sums.{sum_by-cons}
use Rattle.circ_policy.specs.Terms.{Terms}
use Rattle.circ_records.proofs.SameTexts.{same-text, same-itself}
use Rattle.circ_records.specs.Coherent.{IsCoherentMap, are_distinct, has_id}
use Rattle.circ_records.specs.Coherent as coherent
use Rattle.circ_records.specs.Texts.{is_same}
use Rattle.circ_records.specs.declared.key.Key.TheVariants as keys
use Rattle.circ_records.specs.declared.record.Fee.{Fee}
use Rattle.circ_records.specs.declared.record.Patron.{Patron}
use Rattle.circ_records.specs.declared.record.Record.{Record}
use Rattle.circ_records.specs.declared.record.Record.TheVariants as records
use Rattle.sip_reader.specs.declared.request.FeePaid.{FeePaid}
use Rattle.message_meaning.specs.WhatIsPaid.{IsPayment, PaymentsPayWhatIsMeant, fees_in, owed_by, paid, paid_of}
use Rattle.read_set.specs.Asks.{Give, over}
use Rattle.read_set.specs.Effects.{unwritten, written}
use Rattle.read_set.specs.Fees.{owed, rest_of}
use Rattle.read_set.specs.Ids.{is_any, without_all, same}
use Rattle.read_set.specs.Ids as ids
use Rattle.read_set.specs.Known.{as_fee, fee_in, patron_in}
use Rattle.read_set.specs.Lookups.{patron_at}
use Rattle.read_set.specs.Maps.{Map, put}
use Rattle.sip_answer.specs.declared.reason.Reason.{Reason}
use Rattle.sip_answer.specs.declared.reason.Reason.TheVariants as reasons
use Rattle.read_set.specs.Payments.{all_paid, fee_paid_rule, fee_paid_rule_known, meant, only_known, part_of, pay_one, payment_answer, payment_rule}
use Rattle.read_set.specs.declared.effect.Effect.{Effect}
use Rattle.read_set.specs.declared.known.Member.{Member}
use Rattle.read_set.specs.declared.progress.Payments.{Payments}
use Rattle.read_set.proofs.IdLists.{has-is, has-more, same-turned, without-none}
use Rattle.read_set.proofs.KnownParts.{fee-there, member-there}
use Rattle.read_set.proofs.MapParts.{at-fee, at-patron, put-written, put_one}
use Rattle.read_set.proofs.Overs.{paid-over, pay_each}
use Rattle.read_set.proofs.WholeMaps.{asking-gives}

-- SUMS OVER A LIST OF IDS

-- the first place apart
first : (f : List ℕ → ℕ) (y : List ℕ) (list : List (List ℕ)) → sum (map f (y ∷ list)) ≡ f y + sum (map f list)
first f y list = sum_by-cons (λ n. n) (f y) (map f list)

-- an id of a list isn't one that the list lacks
apart : (list : List (List ℕ)) (z w : List ℕ) → has_id z list ≡ true → has_id w list ≡ false → is_same z w ≡ false
apart list z w h n = by (is_same z w) refl
  where
    by : (b : Bool) → is_same z w ≡ b → b ≡ false
    by true e = let t : has_id w list ≡ true = ap (λ (i : List ℕ). has_id i list) (sym (same-text z w e)) ∙ h in cc
    by false e = refl

-- all places the same
all-same : (f g : List ℕ → ℕ) (list : List (List ℕ)) → ((y : List ℕ) → has_id y list ≡ true → g y ≡ f y) → sum (map g list) ≡ sum (map f list)
all-same f g [] h = refl
all-same f g (y ∷ list) h =
    let here : g y ≡ f y = h y (or_left (is_same y y) (has_id y list) (same-itself y)) in
    let rest : sum (map g list) ≡ sum (map f list) = all-same f g list (λ z m. h z (or_right (is_same z y) (has_id z list) m)) in
    let old : sum (map f (y ∷ list)) ≡ f y + sum (map f list) = first f y list in
    let new : sum (map g (y ∷ list)) ≡ g y + sum (map g list) = first g y list in
    new ∙ omega arith ∙ sym old

-- one place changes
one-changes : (f g : List ℕ → ℕ) (x : List ℕ) → ((y : List ℕ) → is_same y x ≡ false → g y ≡ f y) → (list : List (List ℕ)) → are_distinct list ≡ true → has_id x list ≡ true
    → sum (map g list) + f x ≡ sum (map f list) + g x
one-changes f g x other [] d h = cc h
one-changes f g x other (y ∷ list) d h =
    let p = and_parts (not (has_id y list)) (are_distinct list) d in
    by (is_same x y) refl (has_id y list) refl p.0 h (λ m. one-changes f g x other list p.1 m)
  where
    old : sum (map f (y ∷ list)) ≡ f y + sum (map f list)
    old = first f y list

    new : sum (map g (y ∷ list)) ≡ g y + sum (map g list)
    new = first g y list

    by : (b : Bool) → is_same x y ≡ b → (c : Bool) → has_id y list ≡ c → not c ≡ true → (b || has_id x list) ≡ true
        → (has_id x list ≡ true → sum (map g list) + f x ≡ sum (map f list) + g x) → sum (map g (y ∷ list)) + f x ≡ sum (map f (y ∷ list)) + g x
    by b e true k n h rest = cc n
    by true e false k n h rest =
        let at : x ≡ y = same-text x y e in
        let was : f x ≡ f y = ap f at in
        let is : g x ≡ g y = ap g at in
        let others : sum (map g list) ≡ sum (map f list) = all-same f g list (λ z m. other z (ap (is_same z) at ∙ apart list z y m k)) in
        ap (λ s. s + f x) new ∙ omega arith ∙ ap (λ s. s + g x) (sym old)
    by false e false k n h rest =
        let here : g y ≡ f y = other y (same-turned y x ∙ e) in
        let more : sum (map g list) + f x ≡ sum (map f list) + g x = rest h in
        ap (λ s. s + f x) new ∙ omega arith ∙ ap (λ s. s + g x) (sym old)

-- ids at which there is nothing leave
less : (f : List ℕ → ℕ) (gone list : List (List ℕ)) → ((y : List ℕ) → has_id y gone ≡ true → f y ≡ 0) → sum (map f (without_all gone list)) ≡ sum (map f list)
less f gone [] h = refl
less f gone (y ∷ list) h = by (ids.has_id y gone) (has-is y gone) (less f gone list h) ∙ sym (first f y list)
  where
    by : (b : Bool) → b ≡ has_id y gone → sum (map f (without_all gone list)) ≡ sum (map f list)
        → sum (map f (cond (not b) (y ∷ without_all gone list) (without_all gone list))) ≡ f y + sum (map f list)
    by true e rest = let none : f y ≡ 0 = h y (sym e) in rest ∙ omega arith
    by false e rest = first f y (without_all gone list) ∙ ap (λ s. f y + s) rest

-- the front of a list whose ids are distinct, and what comes after it
in-back : (front back : List (List ℕ)) (y : List ℕ) → has_id y back ≡ true → has_id y (front ++ back) ≡ true
in-back [] back y h = h
in-back (z ∷ front) back y h = or_right (is_same y z) (has_id y (front ++ back)) (in-back front back y h)

in-front : (front back : List (List ℕ)) (y : List ℕ) → has_id y front ≡ true → has_id y (front ++ back) ≡ true
in-front [] back y h = cc h
in-front (z ∷ front) back y h = by (is_same y z) h (in-front front back y)
  where
    by : (b : Bool) → (b || has_id y front) ≡ true → (has_id y front ≡ true → has_id y (front ++ back) ≡ true) → (b || has_id y (front ++ back)) ≡ true
    by true g rest = refl
    by false g rest = rest g

distinct-front : (front back : List (List ℕ)) → are_distinct (front ++ back) ≡ true → are_distinct front ≡ true
distinct-front [] back d = refl
distinct-front (z ∷ front) back d =
    let p = and_parts (not (has_id z (front ++ back))) (are_distinct (front ++ back)) d in
    by (has_id z front) (in-front front back z) (has_id z (front ++ back)) refl p.0 (distinct-front front back p.1)
  where
    by : (b : Bool) → (b ≡ true → has_id z (front ++ back) ≡ true) → (c : Bool) → has_id z (front ++ back) ≡ c → not c ≡ true → are_distinct front ≡ true → (not b && are_distinct front) ≡ true
    by b f true e n rest = cc n
    by true f false e n rest = let t : has_id z (front ++ back) ≡ true = f refl in cc
    by false f false e n rest = rest

apart-back : (front back : List (List ℕ)) → are_distinct (front ++ back) ≡ true → (y : List ℕ) → has_id y front ≡ true → has_id y back ≡ false
apart-back [] back d y h = cc h
apart-back (z ∷ front) back d y h =
    let p = and_parts (not (has_id z (front ++ back))) (are_distinct (front ++ back)) d in
    by (is_same y z) refl (has_id y back) refl (has_id z (front ++ back)) refl p.0 h (λ g. apart-back front back p.1 y g)
  where
    by : (a : Bool) → is_same y z ≡ a → (b : Bool) → has_id y back ≡ b → (c : Bool) → has_id z (front ++ back) ≡ c → not c ≡ true → (a || has_id y front) ≡ true → (has_id y front ≡ true → has_id y back ≡ false) → b ≡ false
    by a e b g true k n h rest = cc n
    by a e false g false k n h rest = refl
    by true e true g false k n h rest = let t : has_id z (front ++ back) ≡ true = in-back front back z (ap (λ (i : List ℕ). has_id i back) (sym (same-text y z e)) ∙ g) in cc
    by false e true g false k n h rest = let t : has_id y back ≡ false = rest h in cc

-- WHAT IS SPENT

-- no fee is paid above its amount
abbrev pub AreWithin : Map → Type 0
AreWithin M = (id : List ℕ) (fee : Fee) → fee_in M id ≡ Some fee → fee.paid ≤ fee.amount

-- from these records with so much money to those with so much left: what was spent is paid on a list of fees, and no longer owed there
record Spent (list : List (List ℕ)) (had : ℕ) (N : Map) (left : ℕ) (E : Map) : Type 0 where
  money : left ≤ had
  rests : (y : List ℕ) → rest_of (fee_in E y) ≤ rest_of (fee_in N y)
  owes : owed E list + had ≡ owed N list + left
  pays : paid E list + left ≡ paid N list + had
  within : AreWithin N → AreWithin E
  patrons : (id : List ℕ) → E (keys.Patron id) ≡ N (keys.Patron id)

nothing-spent : (list : List (List ℕ)) (left : ℕ) (N : Map) → Spent list left N left N
nothing-spent list left N = record { money = omega arith; rests = λ y. omega arith; owes = refl; pays = refl; within = λ h. h; patrons = λ id. refl }

then-spent : (list : List (List ℕ)) (a : ℕ) (L : Map) (b : ℕ) (N : Map) (c : ℕ) (E : Map) → Spent list a L b N → Spent list b N c E → Spent list a L c E
then-spent list a L b N c E one two = record {
  money = let p = one.money in let q = two.money in omega arith;
  rests = λ y. let p = one.rests y in let q = two.rests y in omega arith;
  owes = let p = one.owes in let q = two.owes in omega arith;
  pays = let p = one.pays in let q = two.pays in omega arith;
  within = λ h. two.within (one.within h);
  patrons = λ id. two.patrons id ∙ one.patrons id;
}

-- the fee at an id after one was put
fee-after : (N : Map) (x : List ℕ) (g : Fee) (y : List ℕ) → fee_in (put_one (keys.Fee x) (records.Fee g) N) y ≡ cond (is_same y x) (Some g) (fee_in N y)
unfolding as_fee
fee-after N x g y = ap as_fee (at-fee x (records.Fee g) N y) ∙ by (is_same y x)
  where
    by : (b : Bool) → as_fee (cond b (Some (records.Fee g)) (N (keys.Fee y))) ≡ cond b (Some g) (as_fee (N (keys.Fee y)))
    by true = refl
    by false = refl

-- a part of a fee is paid
module _ (N : Map) (x : List ℕ) (f : Fee) (part : ℕ) (at : fee_in N x ≡ Some f) (some : 0 < part) (most : part ≤ f.amount - f.paid) where
  abbrev after : Map
  after = put_one (keys.Fee x) (records.Fee (record f { paid = f.paid + part })) N

  fee-here : fee_in after x ≡ Some (record f { paid = f.paid + part })
  fee-here = fee-after N x (record f { paid = f.paid + part }) x ∙ ap (λ b. cond b (Some (record f { paid = f.paid + part })) (fee_in N x)) (same-itself x)

  fee-other : (y : List ℕ) → is_same y x ≡ false → fee_in after y ≡ fee_in N y
  fee-other y e = fee-after N x (record f { paid = f.paid + part }) y ∙ ap (λ b. cond b (Some (record f { paid = f.paid + part })) (fee_in N y)) e

  rest-was : rest_of (fee_in N x) ≡ f.amount - f.paid
  unfolding rest_of
  rest-was = ap rest_of at

  rest-is : rest_of (fee_in after x) ≡ f.amount - (f.paid + part)
  unfolding rest_of
  rest-is = ap rest_of fee-here

  paid-was : paid_of (fee_in N x) ≡ f.paid
  unfolding paid_of
  paid-was = ap paid_of at

  paid-is : paid_of (fee_in after x) ≡ f.paid + part
  unfolding paid_of
  paid-is = ap paid_of fee-here

  rests-fall : (y : List ℕ) → rest_of (fee_in after y) ≤ rest_of (fee_in N y)
  rests-fall y = by (is_same y x) refl
    where
      by : (b : Bool) → is_same y x ≡ b → rest_of (fee_in after y) ≤ rest_of (fee_in N y)
      by true e =
          subst (λ (i : List ℕ). rest_of (fee_in after i) ≤ rest_of (fee_in N i)) (sym (same-text y x e))
          (let p = rest-was in let q = rest-is in omega arith)
      by false e = let p : rest_of (fee_in after y) ≡ rest_of (fee_in N y) = ap rest_of (fee-other y e) in omega arith

  stays-within : AreWithin N → AreWithin after
  stays-within h y k e = by (is_same y x) refl
    where
      by : (b : Bool) → is_same y x ≡ b → k.paid ≤ k.amount
      by true s =
          let is : fee_in after y ≡ Some (record f { paid = f.paid + part }) = ap (fee_in after) (same-text y x s) ∙ fee-here in
          let one : record f { paid = f.paid + part } ≡ k = cc (sym is ∙ e) in
          subst (λ (m : Fee). m.paid ≤ m.amount) one (omega arith)
      by false s = h y k (sym (fee-other y s) ∙ e)

  part-spent : (list : List (List ℕ)) (left : ℕ) → are_distinct list ≡ true → has_id x list ≡ true → part ≤ left → Spent list left N (left - part) after
  unfolding put_one
  part-spent list left d h few = record {
    money = omega arith;
    rests = rests-fall;
    owes =
        let sums : owed after list + rest_of (fee_in N x) ≡ owed N list + rest_of (fee_in after x) = one-changes (λ y. rest_of (fee_in N y)) (λ y. rest_of (fee_in after y)) x (λ y e. ap rest_of (fee-other y e)) list d h in
        let p = rest-was in let q = rest-is in omega arith;
    pays =
        let sums : paid after list + paid_of (fee_in N x) ≡ paid N list + paid_of (fee_in after x) = one-changes (λ y. paid_of (fee_in N y)) (λ y. paid_of (fee_in after y)) x (λ y e. ap paid_of (fee-other y e)) list d h in
        let p = paid-was in let q = paid-is in omega arith;
    within = stays-within;
    patrons = λ id. refl;
  }

-- ONE FEE'S TURN

-- a fee that was closed has nothing left to pay
abbrev pub AreClosed : Map → Payments → Type 0
AreClosed M done = (y : List ℕ) → has_id y done.closed ≡ true → rest_of (fee_in (put done.writes M) y) ≡ 0

record Turn (M : Map) (list : List (List ℕ)) (x : List ℕ) (done next : Payments) : Type 0 where
  spent : Spent list done.left (put done.writes M) next.left (put next.writes M)
  ends : (next.left ≡ 0) ⊎ (rest_of (fee_in (put next.writes M) x) ≡ 0)
  others : (y : List ℕ) → is_same y x ≡ false → fee_in (put next.writes M) y ≡ fee_in (put done.writes M) y
  closed : AreClosed M done → AreClosed M next

no-turn : (M : Map) (list : List (List ℕ)) (x : List ℕ) (done : Payments) → (done.left ≡ 0) ⊎ (rest_of (fee_in (put done.writes M) x) ≡ 0) → Turn M list x done done
no-turn M list x done e = record { spent = nothing-spent list done.left (put done.writes M); ends = e; others = λ y n. refl; closed = λ h. h }

-- where nothing of a fee is paid, nothing is left of the money or of the fee
none-left : (a b : ℕ) → min a b ≡ 0 → (a ≡ 0) ⊎ (b ≡ 0)
none-left zero b e = inl refl
none-left (suc a) zero e = inr refl
none-left (suc a) (suc b) e = absurd (omega arith)

one-ends : (left rest part : ℕ) → part ≡ min left rest → (left - part ≡ 0) ⊎ (rest - part ≡ 0)
one-ends left rest part e = by (eqb (left - part) 0) refl
  where
    by : (b : Bool) → eqb (left - part) 0 ≡ b → (left - part ≡ 0) ⊎ (rest - part ≡ 0)
    by true f = inl (eqb-true (left - part) 0 f)
    by false f = let n = eqb-false (left - part) 0 f in inr (omega arith)

module _ (M : Map) (list : List (List ℕ)) (distinct : are_distinct list ≡ true) where
  part-turn : (x : List ℕ) (f : Fee) (done : Payments) (part : ℕ) → fee_in (put done.writes M) x ≡ Some f → has_id x list ≡ true → 0 < part → part ≡ min done.left (f.amount - f.paid)
      → (b : Bool) → eqb part (f.amount - f.paid) ≡ b
      → Turn M list x done (record { left = done.left - part; writes = written done.writes ((keys.Fee x, records.Fee (record f { paid = f.paid + part })) ∷ []); closed = cond b (done.closed ++ x ∷ []) done.closed })
  part-turn x f done part at listed some is b e = record {
    spent = subst (λ (K : Map). Spent list done.left N (done.left - part) K) (sym whole) (part-spent N x f part at some most list done.left distinct listed few);
    ends = ⊎_elim (λ z. inl z) (λ z. inr (subst (λ (K : Map). rest_of (fee_in K x) ≡ 0) (sym whole) (let p = rest-is N x f part at some most in omega arith))) (one-ends done.left (f.amount - f.paid) part is);
    others = λ y n. ap (λ (K : Map). fee_in K y) whole ∙ fee-other N x f part at some most y n;
    closed = λ h. closes b e h;
  }
    where
      N : Map
      N = put done.writes M

      most : part ≤ f.amount - f.paid
      most = omega arith

      few : part ≤ done.left
      few = omega arith

      whole : put (written done.writes ((keys.Fee x, records.Fee (record f { paid = f.paid + part })) ∷ [])) M ≡ after (put done.writes M) x f part at some most
      whole = put-written done.writes ((keys.Fee x, records.Fee (record f { paid = f.paid + part })) ∷ []) M

      still : (y : List ℕ) → rest_of (fee_in (put done.writes M) y) ≡ 0 → rest_of (fee_in (put (written done.writes ((keys.Fee x, records.Fee (record f { paid = f.paid + part })) ∷ [])) M) y) ≡ 0
      still y z = subst (λ (K : Map). rest_of (fee_in K y) ≡ 0) (sym whole) (let p = rests-fall (put done.writes M) x f part at some most y in omega arith)

      here : part ≡ f.amount - f.paid → rest_of (fee_in (put (written done.writes ((keys.Fee x, records.Fee (record f { paid = f.paid + part })) ∷ [])) M) x) ≡ 0
      here full = subst (λ (K : Map). rest_of (fee_in K x) ≡ 0) (sym whole) (let p = rest-is (put done.writes M) x f part at some most in omega arith)

      closes : (c : Bool) → eqb part (f.amount - f.paid) ≡ c → AreClosed M done
          → AreClosed M (record { left = done.left - part; writes = written done.writes ((keys.Fee x, records.Fee (record f { paid = f.paid + part })) ∷ []); closed = cond c (done.closed ++ x ∷ []) done.closed })
      closes false g h y m = still y (h y m)
      closes true g h y m = by (has_id y done.closed) refl (is_same y x) refl (sym (has-more y x done.closed) ∙ m)
        where
          by : (c : Bool) → has_id y done.closed ≡ c → (d : Bool) → is_same y x ≡ d → (c || d) ≡ true
              → rest_of (fee_in (put (written done.writes ((keys.Fee x, records.Fee (record f { paid = f.paid + part })) ∷ [])) M) y) ≡ 0
          by true k d s o = still y (h y k)
          by false k true s o =
              subst (λ (i : List ℕ). rest_of (fee_in (put (written done.writes ((keys.Fee x, records.Fee (record f { paid = f.paid + part })) ∷ [])) M) i) ≡ 0) (sym (same-text y x s))
              (here (eqb-true part (f.amount - f.paid) g))
          by false k false s o = cc o

  turn : (x : List ℕ) (done : Payments) → has_id x list ≡ true → Turn M list x done (pay_one x done (fee_in (put done.writes M) x))
  unfolding pay_one rest_of
  turn x done listed = by (fee_in (put done.writes M) x) refl
    where
      some-part : (f : Fee) (part : ℕ) → fee_in (put done.writes M) x ≡ Some f → part ≡ min done.left (f.amount - f.paid) → (b : Bool) → eqb part 0 ≡ b
          → Turn M list x done (cond b done (record { left = done.left - part; writes = written done.writes ((keys.Fee x, records.Fee (record f { paid = f.paid + part })) ∷ []); closed = cond (eqb part (f.amount - f.paid)) (done.closed ++ x ∷ []) done.closed }))
      some-part f part at is true e =
          no-turn M list x done (⊎_elim (λ z. inl z) (λ z. inr (ap rest_of at ∙ z)) (none-left done.left (f.amount - f.paid) (sym is ∙ eqb-true part 0 e)))
      some-part f part at is false e =
          let ne = eqb-false part 0 e in
          part-turn x f done part at listed (omega arith) is (eqb part (f.amount - f.paid)) refl

      by : (o : Option Fee) → fee_in (put done.writes M) x ≡ o → Turn M list x done (pay_one x done o)
      by None e = no-turn M list x done (inr (ap rest_of e))
      by (Some f) e = some-part f (part_of done.left f) e refl (eqb (part_of done.left f) 0) refl

  -- ALL FEES

  at-first : (x : List ℕ) (more : List (List ℕ)) → has_id x (x ∷ more) ≡ true
  at-first x more = or_left (is_same x x) (has_id x more) (same-itself x)

  walk : (fees : List (List ℕ)) (done : Payments) → ((x : List ℕ) → has_id x fees ≡ true → has_id x list ≡ true)
      → Spent list done.left (put done.writes M) (pay_each M fees done).left (put (pay_each M fees done).writes M)
  walk [] done within = nothing-spent list done.left (put done.writes M)
  walk (x ∷ more) done within =
      let one : Payments = pay_one x done (fee_in (put done.writes M) x) in
      then-spent list done.left (put done.writes M) one.left (put one.writes M) (pay_each M more one).left (put (pay_each M more one).writes M) (turn x done (within x (at-first x more))).spent
      (walk more one (λ y h. within y (or_right (is_same y x) (has_id y more) h)))

  walk-ends : (fees : List (List ℕ)) (done : Payments) → ((x : List ℕ) → has_id x fees ≡ true → has_id x list ≡ true)
      → ((pay_each M fees done).left ≡ 0) ⊎ (owed (put (pay_each M fees done).writes M) fees ≡ 0)
  walk-ends [] done within = inr refl
  walk-ends (x ∷ more) done within = by (turn x done (within x (at-first x more))).ends (walk-ends more one later)
    where
      one : Payments
      one = pay_one x done (fee_in (put done.writes M) x)

      later : (y : List ℕ) → has_id y more ≡ true → has_id y list ≡ true
      later y h = within y (or_right (is_same y x) (has_id y more) h)

      E : Map
      E = put (pay_each M more (pay_one x done (fee_in (put done.writes M) x))).writes M

      by : ((pay_one x done (fee_in (put done.writes M) x)).left ≡ 0) ⊎ (rest_of (fee_in (put (pay_one x done (fee_in (put done.writes M) x)).writes M) x) ≡ 0)
          → ((pay_each M more (pay_one x done (fee_in (put done.writes M) x))).left ≡ 0) ⊎ (owed (put (pay_each M more (pay_one x done (fee_in (put done.writes M) x))).writes M) more ≡ 0)
          → ((pay_each M more (pay_one x done (fee_in (put done.writes M) x))).left ≡ 0) ⊎ (owed (put (pay_each M more (pay_one x done (fee_in (put done.writes M) x))).writes M) (x ∷ more) ≡ 0)
      by a (inl z) = inl z
      by (inl z) (inr w) = let p = (walk more (pay_one x done (fee_in (put done.writes M) x)) later).money in inl (omega arith)
      by (inr z) (inr w) =
          let p = (walk more (pay_one x done (fee_in (put done.writes M) x)) later).rests x in
          let q = first (λ y. rest_of (fee_in (put (pay_each M more (pay_one x done (fee_in (put done.writes M) x))).writes M) y)) x more in
          inr (q ∙ omega arith)

  walk-closed : (fees : List (List ℕ)) (done : Payments) → ((x : List ℕ) → has_id x fees ≡ true → has_id x list ≡ true) → AreClosed M done → AreClosed M (pay_each M fees done)
  walk-closed [] done within h = h
  walk-closed (x ∷ more) done within h =
      walk-closed more (pay_one x done (fee_in (put done.writes M) x)) (λ y g. within y (or_right (is_same y x) (has_id y more) g)) ((turn x done (within x (at-first x more))).closed h)

  walk-others : (fees : List (List ℕ)) (done : Payments) → ((x : List ℕ) → has_id x fees ≡ true → has_id x list ≡ true)
      → (y : List ℕ) → has_id y fees ≡ false → fee_in (put (pay_each M fees done).writes M) y ≡ fee_in (put done.writes M) y
  walk-others [] done within y n = refl
  walk-others (x ∷ more) done within y n =
      let p = or_parts (is_same y x) (has_id y more) n in
      walk-others more (pay_one x done (fee_in (put done.writes M) x)) (λ z g. within z (or_right (is_same z x) (has_id z more) g)) y p.1
      ∙ (turn x done (within x (at-first x more))).others y p.0

-- what is spent is the lesser of the money and what was owed
lesser : (amount left was is : ℕ) → left ≤ amount → is + amount ≡ was + left → (left ≡ 0) ⊎ (is ≡ 0) → amount - left ≡ min amount was
lesser amount left was is few e (inl z) = omega arith
lesser amount left was is few e (inr z) = omega arith

-- PAYING A LIST, AND ITS FRONT

pay-append : (M : Map) (front back : List (List ℕ)) (done : Payments) → pay_each M (front ++ back) done ≡ pay_each M back (pay_each M front done)
pay-append M [] back done = refl
pay-append M (x ∷ front) back done = pay-append M front back (pay_one x done (fee_in (put done.writes M) x))

module _ (M : Map) (amount : ℕ) where
  abbrev begun : Payments
  begun = record { left = amount; writes = []; closed = [] }

  list-paid : (fees : List (List ℕ)) → are_distinct fees ≡ true → paid (put (pay_each M fees begun).writes M) fees ≡ paid M fees + min amount (owed M fees)
  list-paid fees d =
      let s = walk M fees d fees begun (λ x h. h) in
      let money = s.money in
      let pays = s.pays in
      let l = lesser amount (pay_each M fees begun).left (owed M fees) (owed (put (pay_each M fees begun).writes M) fees) s.money s.owes (walk-ends M fees d fees begun (λ x h. h)) in
      omega arith

  front-paid : (front back : List (List ℕ)) → are_distinct (front ++ back) ≡ true → paid (put (pay_each M (front ++ back) begun).writes M) front ≡ paid M front + min amount (owed M front)
  front-paid front back d =
      ap (λ (e : Payments). paid (put e.writes M) front) (pay-append M front back begun)
      ∙ all-same (λ y. paid_of (fee_in (put (pay_each M front begun).writes M) y)) (λ y. paid_of (fee_in (put (pay_each M back (pay_each M front begun)).writes M) y)) front
      (λ y h. ap paid_of (walk-others M (front ++ back) d back (pay_each M front begun) (λ z g. in-back front back z g) y (apart-back front back d y h)))
      ∙ list-paid front (distinct-front front back d)

  first-paid : (k : ℕ) (fees : List (List ℕ)) → are_distinct fees ≡ true → paid (put (pay_each M fees begun).writes M) (take k fees) ≡ paid M (take k fees) + min amount (owed M (take k fees))
  first-paid k fees d =
      let whole : take k fees ++ drop k fees ≡ fees = take-append-drop k fees in
      subst (λ (l : List (List ℕ)). paid (put (pay_each M l begun).writes M) (take k fees) ≡ paid M (take k fees) + min amount (owed M (take k fees))) whole
      (front-paid (take k fees) (drop k fees) (subst (λ (l : List (List ℕ)). are_distinct l ≡ true) (sym whole) d))

-- THE FEES THAT ARE MEANT

meant-own : (M : Map) (o : Option (List ℕ)) (fees : List (List ℕ)) (x : List ℕ) → has_id x (meant M o fees) ≡ true → has_id x fees ≡ true
meant-own M None fees x h = h
meant-own M (Some k) fees x h = by (ids.has_id k fees) (has-is k fees) (fee_in M k) h
  where
    one : (b : Bool) → is_same x k ≡ b → (b || false) ≡ true → has_id k fees ≡ true → has_id x fees ≡ true
    one true e g own = ap (λ z. has_id z fees) (same-text x k e) ∙ own
    one false e g own = cc g

    by : (b : Bool) → b ≡ has_id k fees → (f : Option Fee) → has_id x (cond b (only_known k fees f) fees) ≡ true → has_id x fees ≡ true
    by true e None g = g
    by true e (Some f) g = one (is_same x k) refl g (sym e)
    by false e f g = g

meant-distinct : (M : Map) (o : Option (List ℕ)) (fees : List (List ℕ)) → are_distinct fees ≡ true → are_distinct (meant M o fees) ≡ true
meant-distinct M None fees d = d
meant-distinct M (Some k) fees d = by (ids.has_id k fees) (fee_in M k)
  where
    by : (b : Bool) (f : Option Fee) → are_distinct (cond b (only_known k fees f) fees) ≡ true
    by true None = d
    by true (Some f) = refl
    by false f = d

-- THE PAYMENT

-- the records after the walk, and those after the patron's list
record IsEnd (E A : Map) (id : List ℕ) (fees : List (List ℕ)) : Type 0 where
  same_fees : (y : List ℕ) → fee_in A y ≡ fee_in E y
  list : fees_in (A (keys.Patron id)) ≡ fees

after-closing : (M : Map) (p : Terms) (q : FeePaid) (date : List ℕ) (patron : Patron) (done : Payments) → fees_in (put done.writes M (keys.Patron q.patron)) ≡ patron.fees
    → IsEnd (put done.writes M) (put (all_paid p q date patron done).writes M) q.patron (without_all done.closed patron.fees)
unfolding all_paid put_one
after-closing M p q date patron done there = by done.closed refl
  where
    by : (l : List (List ℕ)) → done.closed ≡ l
        → IsEnd (put done.writes M) (put (cond (is_any l) (written done.writes ((keys.Patron q.patron, records.Patron (record patron { fees = without_all done.closed patron.fees })) ∷ [])) done.writes) M) q.patron (without_all done.closed patron.fees)
    by [] e = record { same_fees = λ y. refl; list = there ∙ sym (ap (λ l. without_all l patron.fees) e ∙ without-none patron.fees) }
    by (x ∷ more) e =
        let r : Record = records.Patron (record patron { fees = without_all done.closed patron.fees }) in
        let whole : put (written done.writes ((keys.Patron q.patron, r) ∷ [])) M ≡ put_one (keys.Patron q.patron) r (put done.writes M) = put-written done.writes ((keys.Patron q.patron, r) ∷ []) M in
        record {
          same_fees = λ y. ap (λ (K : Map). fee_in K y) whole;
          list = ap (λ (K : Map). fees_in (K (keys.Patron q.patron))) whole
              ∙ ap fees_in (at-patron q.patron r (put done.writes M) q.patron ∙ ap (λ b. cond b (Some r) (put done.writes M (keys.Patron q.patron))) (same-itself q.patron));
        }

-- of records with the same fees
paid-alike : (E A : Map) → ((y : List ℕ) → fee_in A y ≡ fee_in E y) → (list : List (List ℕ)) → paid A list ≡ paid E list
paid-alike E A h list = all-same (λ y. paid_of (fee_in E y)) (λ y. paid_of (fee_in A y)) list (λ y m. ap paid_of (h y))

owed-alike : (E A : Map) → ((y : List ℕ) → fee_in A y ≡ fee_in E y) → (list : List (List ℕ)) → owed A list ≡ owed E list
owed-alike E A h list = all-same (λ y. rest_of (fee_in E y)) (λ y. rest_of (fee_in A y)) list (λ y m. ap rest_of (h y))

-- a payment over a list of the patron's fees
list-payment : (M : Map) (p : Terms) (q : FeePaid) (date : List ℕ) (patron : Patron) (fees : List (List ℕ)) → M (keys.Patron q.patron) ≡ Some (records.Patron patron)
    → are_distinct patron.fees ≡ true → are_distinct fees ≡ true → ((x : List ℕ) → has_id x fees ≡ true → has_id x patron.fees ≡ true) → AreWithin M
    → IsPayment q.amount q.patron fees M (put (all_paid p q date patron (pay_each M fees (record { left = q.amount; writes = []; closed = [] }))).writes M)
list-payment M p q date patron fees there d e own within = record {
  pays = paid-alike E A end.same_fees fees ∙ list-paid M q.amount fees e;
  oldest_first = λ k. paid-alike E A end.same_fees (take k fees) ∙ first-paid M q.amount k fees e;
  owes =
      let mine : owed_by A q.patron ≡ owed E patron.fees = ap (owed A) end.list ∙ owed-alike E A end.same_fees (without_all done.closed patron.fees) ∙ less (λ y. rest_of (fee_in E y)) done.closed patron.fees (walk-closed M patron.fees d fees begin own (λ y h. cc h)) in
      let was : owed_by M q.patron ≡ owed M patron.fees = ap (λ o. owed M (fees_in o)) there in
      let all : owed E patron.fees + q.amount ≡ owed M patron.fees + done.left = spent.owes in
      let meant_here = walk M fees e fees begin (λ x h. h) in
      let l : q.amount - done.left ≡ min q.amount (owed M fees) = lesser q.amount done.left (owed M fees) (owed E fees) spent.money meant_here.owes (walk-ends M fees e fees begin (λ x h. h)) in
      let money = spent.money in
      omega arith;
  within = λ y f h. spent.within within y f (sym (end.same_fees y) ∙ h);
}
  where
    begin : Payments
    begin = record { left = q.amount; writes = []; closed = [] }

    done : Payments
    done = pay_each M fees (record { left = q.amount; writes = []; closed = [] })

    E : Map
    E = put (pay_each M fees (record { left = q.amount; writes = []; closed = [] })).writes M

    A : Map
    A = put (all_paid p q date patron (pay_each M fees (record { left = q.amount; writes = []; closed = [] }))).writes M

    spent : Spent patron.fees q.amount M (pay_each M fees (record { left = q.amount; writes = []; closed = [] })).left (put (pay_each M fees (record { left = q.amount; writes = []; closed = [] })).writes M)
    spent = walk M patron.fees d fees (record { left = q.amount; writes = []; closed = [] }) own

    end : IsEnd (put (pay_each M fees (record { left = q.amount; writes = []; closed = [] })).writes M) (put (all_paid p q date patron (pay_each M fees (record { left = q.amount; writes = []; closed = [] }))).writes M) q.patron
        (without_all (pay_each M fees (record { left = q.amount; writes = []; closed = [] })).closed patron.fees)
    end = after-closing M p q date patron (pay_each M fees (record { left = q.amount; writes = []; closed = [] })) (ap fees_in (spent.patrons q.patron ∙ there))

-- where no money was sent
unpaid : (M : Map) (amount : ℕ) (id : List ℕ) (fees : List (List ℕ)) → amount ≡ 0 → AreWithin M → IsPayment amount id fees M (put [] M)
unpaid M amount id fees e within = record { pays = omega arith; oldest_first = λ k. omega arith; owes = omega arith; within = within }

-- what is coherent
within-at : (p : Terms) (n : ℕ) (M : Map) → IsCoherentMap p n M → AreWithin M
unfolding as_fee
within-at p n M h id fee e = (h.fees id fee (ap coherent.as_fee (fee-there M id fee e))).paid

abbrev Pays : Map → FeePaid → Member → Effect → Type 0
Pays M q member x = IsPayment q.amount q.patron (meant M q.fee member.patron.fees) M (put x.writes M)

-- what is asked for a payment
asking-pays : (p : Terms) (n : ℕ) (q : FeePaid) (date : List ℕ) (M : Map) (member : Member)
    → IsCoherentMap p n M → patron_in p M q.patron ≡ Some member → same q.currency p.currency ≡ true → Pays M q member (over M (fee_paid_rule p q date))
unfolding fee_paid_rule patron_at
asking-pays p n q date M member h e c =
    subst (λ (o : Option Member). Pays M q member (over M (fee_paid_rule_known p q date o))) (sym e)
    (subst (λ (b : Bool). Pays M q member (over M (cond (not b) (Give (no reasons.Currency)) (cond (q.amount == 0) (Give (no reasons.NoAmount)) (payment_rule p q date member.patron))))) (sym c)
    (by (q.amount == 0) refl))
  where
    no : Reason → Effect
    no why = unwritten (Some (payment_answer p q date why))

    there : M (keys.Patron q.patron) ≡ Some (records.Patron member.patron)
    there = member-there p M q.patron member e

    once : are_distinct member.patron.fees ≡ true
    once = (h.patrons q.patron member.patron (ap coherent.as_patron there)).fees_once

    by : (b : Bool) → (q.amount == 0) ≡ b → Pays M q member (over M (cond b (Give (no reasons.NoAmount)) (payment_rule p q date member.patron)))
    by true z = unpaid M q.amount q.patron (meant M q.fee member.patron.fees) (eqb-true q.amount 0 z) (within-at p n M h)
    by false z =
        subst (Pays M q member) (sym (paid-over M p q date member.patron))
        (list-payment M p q date member.patron (meant M q.fee member.patron.fees) there once (meant-distinct M q.fee member.patron.fees once) (meant-own M q.fee member.patron.fees) (within-at p n M h))

pub payments-pay : PaymentsPayWhatIsMeant
payments-pay p n q date M member h e c = subst (Pays M q member) (asking-gives.payments p q date M) (asking-pays p n q date M member h e c)
