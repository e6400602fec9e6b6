-- Fee Paid keeps records coherent: fee after fee is paid, and those that are closed leave the patron's list in the end.
use Rattle.std.proofs.Common.{◌≡◌, ◌≤◌, ◌<◌, ◌+◌, ◌-◌, ℕ, List, [], ◌∷◌, ◌++◌, Bool, true, false, cond, not, eqb, Option, Some, None, refl, subst, sym, ap, ◌∙◌, arith}
use Rattle.std.specs.Prelude.{◌&&◌, ◌||◌, ◌==◌}
use Rattle.std.proofs.Math.Path.{fun_ext}
use Rattle.std.proofs.lemmas.Bool.{eqb-false, eqb-true, le-ltb, lt-ltb}
use Rattle.circ_policy.specs.Terms.{Terms}
use Rattle.circ_records.proofs.SameTexts.{same-text, same-itself}
use Rattle.circ_records.specs.Coherent.{IsCoherentFee, as_fee, has_id}
use Rattle.circ_records.specs.Texts.{is_same}
use Rattle.circ_records.specs.declared.key.Key.TheVariants as keys
use Rattle.circ_records.specs.declared.record.Fee.{Fee}
use Rattle.circ_records.specs.declared.record.Patron.{Patron}
use Rattle.circ_records.specs.declared.record.Record.TheVariants as records
use Rattle.sip_answer.specs.Reasons.{grants}
use Rattle.sip_answer.specs.declared.reason.Reason.TheVariants as reasons
use Rattle.sip_reader.specs.declared.request.FeePaid.{FeePaid}
use Rattle.read_set.specs.Asks.{over}
use Rattle.read_set.specs.Effects.{written}
use Rattle.read_set.specs.Ids.{is_any, without_all}
use Rattle.read_set.specs.Ids as ids
use Rattle.read_set.specs.Known.{fee_in, patron_in}
use Rattle.read_set.specs.Lookups.{patron_at}
use Rattle.read_set.specs.Maps.{Map, put}
use Rattle.read_set.specs.Payments.{all_paid, fee_paid_rule, fee_paid_rule_known, meant, only_known, part_of, pay_one, payment_rule}
use Rattle.read_set.specs.declared.effect.Effect.{Effect}
use Rattle.read_set.specs.declared.known.Member.{Member}
use Rattle.read_set.specs.declared.progress.Payments.{Payments}
use Rattle.read_set.proofs.Following.{over_either}
use Rattle.read_set.proofs.IdLists.{distinct-without-all, has-is, has-more, has-without-all}
use Rattle.read_set.proofs.KnownParts.{fee-there, member-there}
use Rattle.read_set.proofs.Line.{Line}
use Rattle.read_set.proofs.Listing.{IsListed, listed-changed, owned_by, set-same, set_at}
use Rattle.read_set.proofs.MapParts.{debtor, fees_of, lent_by, loans_of, owed_by, owed_fee, put-none, put-written, put_one}
use Rattle.read_set.proofs.OneRecord.{same-loans, same-patron}
use Rattle.read_set.proofs.Overs.{paid-over, pay_each}
use Rattle.read_set.proofs.SimpleKinds.{nothing}
use Rattle.read_set.proofs.States.{Parts, State, ends, fees-at, put-fee, put-patron, start}

-- a payment is accepted whatever is owed
pub paid-grants : (b : Bool) → grants (cond b reasons.NothingOwed reasons.Paid) ≡ true
paid-grants true = refl
paid-grants false = refl

-- how far it came: only closed fees have nobody who owes them, and they were the patron's
record Paying (p : Terms) (n : ℕ) (M : Map) (id : List ℕ) (done : Payments) : Type 0 where
  owners : List ℕ → Option (List ℕ)
  state : State p (n + 1) M (put done.writes M) (loans_of M) (lent_by M) (fees_of M) owners
  whose : (x : List ℕ) → owners x ≡ cond (has_id x done.closed) None (owed_by M x)
  own : (x : List ℕ) → has_id x done.closed ≡ true → owned_by id (owed_by M x) ≡ true

owed-at : (M : Map) (id : List ℕ) (f : Fee) → M (keys.Fee id) ≡ Some (records.Fee f) → owed_by M id ≡ debtor f
unfolding owed_by
owed-at M id f e = ap (λ o. owed_fee (as_fee o)) e

debtor-owing : (f : Fee) → f.paid < f.amount → debtor f ≡ Some f.patron
debtor-owing f h = ap (λ b. cond b (Some f.patron) None) (lt-ltb f.paid f.amount h)

debtor-closed : (f : Fee) → f.amount ≤ f.paid → debtor f ≡ None
debtor-closed f h = ap (λ b. cond b (Some f.patron) None) (le-ltb f.paid f.amount h)

either-id : (a b : Bool) → (a || b) ≡ true → (a ≡ false → b ≡ true)
either-id true b e f = cc
either-id false b e f = e

-- one fee
paid-fee : (n : ℕ) (M : Map) (x : List ℕ) (f : Fee) (part : ℕ) → IsCoherentFee n M x f → f.paid + part ≤ f.amount → IsCoherentFee n M x (record f { paid = f.paid + part })
paid-fee n M x f part h few = record { id_text = h.id_text; patron = h.patron; paid = few; amount = h.amount; number = h.number }

module _ (p : Terms) (n : ℕ) (M : Map) (line : Line p n M) (id : List ℕ) (patron : Patron) (there : M (keys.Patron id) ≡ Some (records.Patron patron)) where
  owned : (x : List ℕ) → has_id x patron.fees ≡ owned_by id (owed_by M x)
  owned x = line.parts.fees.each id patron.fees (fees-at M id patron there) x

  paid-part : (x : List ℕ) (f : Fee) (done : Payments) (part : ℕ) → Paying p n M id done → has_id x patron.fees ≡ true → put done.writes M (keys.Fee x) ≡ Some (records.Fee f)
      → 0 < part → part ≤ f.amount - f.paid → (b : Bool) → eqb part (f.amount - f.paid) ≡ b
      → Paying p n M id (record { left = done.left - part; writes = written done.writes ((keys.Fee x, records.Fee (record f { paid = f.paid + part })) ∷ []); closed = cond b (done.closed ++ x ∷ []) done.closed })
  unfolding set_at
  paid-part x f done part t listed at more most b e =
      let N : Map = put done.writes M in
      let g : Fee = record f { paid = f.paid + part } in
      let owing : t.owners x ≡ Some f.patron = ap (λ (D : List ℕ → Option (List ℕ)). D x) (sym t.state.owed) ∙ owed-at N x f at ∙ debtor-owing f (omega arith) in
      let one = put-fee t.state x g (paid-fee (n + 1) N x f part (t.state.sound.at (keys.Fee x) (records.Fee f) at) (omega arith)) in
      let whole : put (written done.writes ((keys.Fee x, records.Fee g) ∷ [])) M ≡ put_one (keys.Fee x) (records.Fee g) N = put-written done.writes ((keys.Fee x, records.Fee g) ∷ []) M in
      let two : State p (n + 1) M (put (written done.writes ((keys.Fee x, records.Fee g) ∷ [])) M) (loans_of M) (lent_by M) (fees_of M) (set_at x (debtor g) t.owners) =
      subst (λ (K : Map). State p (n + 1) M K (loans_of M) (lent_by M) (fees_of M) (set_at x (debtor g) t.owners)) (sym whole) one in
      by b e owing two
    where
      K : Map
      K = put (written done.writes ((keys.Fee x, records.Fee (record f { paid = f.paid + part })) ∷ [])) M

      closes : (y : List ℕ) → set_at x None t.owners y ≡ cond (has_id y (done.closed ++ x ∷ [])) None (owed_by M y)
      closes y = by-id (is_same y x) (has_id y done.closed) (t.whose y) ∙ ap (λ c. cond c None (owed_by M y)) (sym (has-more y x done.closed))
        where
          by-id : (a c : Bool) → t.owners y ≡ cond c None (owed_by M y) → cond a None (t.owners y) ≡ cond (c || a) None (owed_by M y)
          by-id true true h = refl
          by-id true false h = refl
          by-id false true h = h
          by-id false false h = h

      owns : (y : List ℕ) → has_id y (done.closed ++ x ∷ []) ≡ true → owned_by id (owed_by M y) ≡ true
      owns y h = by-id (has_id y done.closed) refl (sym (has-more y x done.closed) ∙ h)
        where
          by-id : (c : Bool) → has_id y done.closed ≡ c → (has_id y done.closed || is_same y x) ≡ true → owned_by id (owed_by M y) ≡ true
          by-id true c k = t.own y c
          by-id false c k =
              let same : y ≡ x = same-text y x (either-id (has_id y done.closed) (is_same y x) k c) in
              ap (λ z. owned_by id (owed_by M z)) same ∙ sym (owned x) ∙ listed

      by : (b : Bool) → eqb part (f.amount - f.paid) ≡ b → t.owners x ≡ Some f.patron
          → State p (n + 1) M (put (written done.writes ((keys.Fee x, records.Fee (record f { paid = f.paid + part })) ∷ [])) M) (loans_of M) (lent_by M) (fees_of M) (set_at x (debtor (record f { paid = f.paid + part })) t.owners)
          → Paying p n M id (record { left = done.left - part; writes = written done.writes ((keys.Fee x, records.Fee (record f { paid = f.paid + part })) ∷ []); closed = cond b (done.closed ++ x ∷ []) done.closed })
      by true e owing two =
          let full : part ≡ f.amount - f.paid = eqb-true part (f.amount - f.paid) e in
          let none : debtor (record f { paid = f.paid + part }) ≡ None = debtor-closed (record f { paid = f.paid + part }) (omega arith) in
          record {
            owners = set_at x None t.owners;
            state = subst (λ (o : Option (List ℕ)). State p (n + 1) M (put (written done.writes ((keys.Fee x, records.Fee (record f { paid = f.paid + part })) ∷ [])) M) (loans_of M) (lent_by M) (fees_of M) (set_at x o t.owners)) none two;
            whose = closes;
            own = owns;
          }
      by false e owing two =
          let less = eqb-false part (f.amount - f.paid) e in
          let some : debtor (record f { paid = f.paid + part }) ≡ Some f.patron = debtor-owing (record f { paid = f.paid + part }) (omega arith) in
          record {
            owners = t.owners;
            state = subst (λ (D : List ℕ → Option (List ℕ)). State p (n + 1) M (put (written done.writes ((keys.Fee x, records.Fee (record f { paid = f.paid + part })) ∷ [])) M) (loans_of M) (lent_by M) (fees_of M) D)
                (set-same x (debtor (record f { paid = f.paid + part })) t.owners (owing ∙ sym some)) two;
            whose = t.whose;
            own = t.own;
          }

  paid-one : (x : List ℕ) (done : Payments) → Paying p n M id done → has_id x patron.fees ≡ true → Paying p n M id (pay_one x done (fee_in (put done.writes M) x))
  unfolding pay_one
  paid-one x done t listed = by (fee_in (put done.writes M) x) refl
    where
      some-part : (f : Fee) (part : ℕ) → put done.writes M (keys.Fee x) ≡ Some (records.Fee f) → part ≤ f.amount - f.paid → (b : Bool) → eqb part 0 ≡ b
          → Paying p n M id (cond b done (record { left = done.left - part; writes = written done.writes ((keys.Fee x, records.Fee (record f { paid = f.paid + part })) ∷ []); closed = cond (eqb part (f.amount - f.paid)) (done.closed ++ x ∷ []) done.closed }))
      some-part f part at most true e = t
      some-part f part at most false e =
          let ne = eqb-false part 0 e in
          paid-part x f done part t listed at (omega arith) most (eqb part (f.amount - f.paid)) refl

      by : (o : Option Fee) → fee_in (put done.writes M) x ≡ o → Paying p n M id (pay_one x done o)
      by None e = t
      by (Some f) e = some-part f (part_of done.left f) (fee-there (put done.writes M) x f e) (omega arith) (eqb (part_of done.left f) 0) refl

  paid-each : (list : List (List ℕ)) (done : Payments) → Paying p n M id done → ((x : List ℕ) → has_id x list ≡ true → has_id x patron.fees ≡ true) → Paying p n M id (pay_each M list done)
  paid-each [] done t within = t
  paid-each (x ∷ more) done t within =
      paid-each more (pay_one x done (fee_in (put done.writes M) x)) (paid-one x done t (within x (ap (λ b. b || has_id x more) (same-itself x)))) (λ y h. within y (ap (λ b. is_same y x || b) h ∙ either (is_same y x)))
    where
      either : (b : Bool) → (b || true) ≡ true
      either true = refl
      either false = refl

  -- the fees that are meant are the patron's
  meant-own : (o : Option (List ℕ)) (x : List ℕ) → has_id x (meant M o patron.fees) ≡ true → has_id x patron.fees ≡ true
  meant-own None x h = h
  meant-own (Some k) x h = by (ids.has_id k patron.fees) (has-is k patron.fees) (fee_in M k) h
    where
      one : (b : Bool) → is_same x k ≡ b → (b || false) ≡ true → has_id k patron.fees ≡ true → has_id x patron.fees ≡ true
      one true e g own = ap (λ z. has_id z patron.fees) (same-text x k e) ∙ own
      one false e g own = cc g

      by : (b : Bool) → b ≡ has_id k patron.fees → (f : Option Fee) → has_id x (cond b (only_known k patron.fees f) patron.fees) ≡ true → has_id x patron.fees ≡ true
      by true e None g = g
      by true e (Some f) g = one (is_same x k) refl g (sym e)
      by false e f g = g

  begins : (left : ℕ) → Paying p n M id (record { left = left; writes = []; closed = [] })
  begins left = record {
    owners = owed_by M;
    state = subst (λ (x : Map). State p (n + 1) M x (loans_of M) (lent_by M) (fees_of M) (owed_by M)) (sym (put-none M)) (start p (n + 1) M line.parts.sound);
    whose = λ x. refl;
    own = λ x e. cc e;
  }

  -- the patron's list without the closed fees
  less-listed : (done : Payments) (t : Paying p n M id done) → IsListed (set_at id (Some (without_all done.closed patron.fees)) (fees_of M)) t.owners
  less-listed done t =
      listed-changed (fees_of M) (owed_by M) t.owners id (without_all done.closed patron.fees) line.parts.fees mine (distinct-without-all done.closed patron.fees (line.parts.fees.once id patron.fees (fees-at M id patron there))) other
    where
      mine : (x : List ℕ) → has_id x (without_all done.closed patron.fees) ≡ owned_by id (t.owners x)
      mine x = has-without-all x done.closed patron.fees ∙ by (has_id x done.closed) (owned x) ∙ ap (owned_by id) (sym (t.whose x))
        where
          by : (b : Bool) → has_id x patron.fees ≡ owned_by id (owed_by M x) → (not b && has_id x patron.fees) ≡ owned_by id (cond b None (owed_by M x))
          by true e = refl
          by false e = e

      nobody : (q : List ℕ) (o : Option (List ℕ)) → is_same q id ≡ false → owned_by id o ≡ true → false ≡ owned_by q o
      nobody q None apart e = refl
      nobody q (Some k) apart e = sym (ap (is_same q) (sym (same-text id k e)) ∙ apart)

      other : (q x : List ℕ) → is_same q id ≡ false → owned_by q (t.owners x) ≡ owned_by q (owed_by M x)
      other q x apart = ap (owned_by q) (t.whose x) ∙ by (has_id x done.closed) refl
        where
          by : (b : Bool) → has_id x done.closed ≡ b → owned_by q (cond b None (owed_by M x)) ≡ owned_by q (owed_by M x)
          by true e = nobody q (owed_by M x) apart (t.own x e)
          by false e = refl

  ends-paid : (q : FeePaid) (date : List ℕ) → q.patron ≡ id → (done : Payments) → Paying p n M id done → Parts p (n + 1) M (put (all_paid p q date patron done).writes M)
  unfolding all_paid
  ends-paid q date own done t = by done.closed refl
    where
      after : Patron
      after = record patron { fees = without_all done.closed patron.fees }

      none-closed : done.closed ≡ [] → t.owners ≡ owed_by M
      none-closed e = fun_ext (λ x. t.whose x ∙ ap (λ (l : List (List ℕ)). cond (has_id x l) None (owed_by M x)) e)

      by : (l : List (List ℕ)) → done.closed ≡ l
          → Parts p (n + 1) M (put (cond (is_any l) (written done.writes ((keys.Patron q.patron, records.Patron (record patron { fees = without_all done.closed patron.fees })) ∷ [])) done.writes) M)
      by [] e = ends t.state line.parts.few line.parts.loans (subst (λ (D : List ℕ → Option (List ℕ)). IsListed (fees_of M) D) (sym (none-closed e)) line.parts.fees)
      by (x ∷ more) e =
          subst (λ (k : List ℕ). Parts p (n + 1) M (put (written done.writes ((keys.Patron k, records.Patron (record patron { fees = without_all done.closed patron.fees })) ∷ [])) M)) (sym own)
          (subst (λ (K : Map). Parts p (n + 1) M K) (sym (put-written done.writes ((keys.Patron id, records.Patron (record patron { fees = without_all done.closed patron.fees })) ∷ []) M))
          (ends (put-patron t.state id (record patron { fees = without_all done.closed patron.fees }) (same-patron p (n + 1) M id patron (record patron { fees = without_all done.closed patron.fees }) line.parts.sound there refl refl)) line.parts.few
          (subst (λ (L : List ℕ → Option (List (List ℕ))). IsListed L (lent_by M)) (sym (same-loans M id patron there)) line.parts.loans)
          (less-listed done t)))

pub payment-keeps : (p : Terms) (n : ℕ) (M : Map) → Line p n M → (q : FeePaid) (date : List ℕ) → Parts p (n + 1) M (put (over M (fee_paid_rule p q date)).writes M)
unfolding fee_paid_rule patron_at payment_rule
payment-keeps p n M line q date = by (patron_in p M q.patron) refl
  where
    by : (o : Option Member) → patron_in p M q.patron ≡ o → Parts p (n + 1) M (put (over M (fee_paid_rule_known p q date o)).writes M)
    by None e = nothing p (n + 1) M line.parts
    by (Some member) e =
        let there = member-there p M q.patron member e in
        let after : Effect → Type 0 = λ x. Parts p (n + 1) M (put x.writes M) in
        let begun : Payments = record { left = q.amount; writes = []; closed = [] } in
        over_either M (not (ids.same q.currency p.currency)) _ _ after (λ t. nothing p (n + 1) M line.parts)
        (λ t. over_either M (q.amount == 0) _ (payment_rule p q date member.patron) after (λ s. nothing p (n + 1) M line.parts)
        (λ s. subst after (sym (paid-over M p q date member.patron))
        (ends-paid p n M line q.patron member.patron there q date refl (pay_each M (meant M q.fee member.patron.fees) begun)
        (paid-each p n M line q.patron member.patron there (meant M q.fee member.patron.fees) begun (begins p n M line q.patron member.patron there q.amount)
        (meant-own p n M line q.patron member.patron there q.fee)))))
