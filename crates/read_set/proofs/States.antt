-- Coherent records by their parts, and how the parts change as one record after the other is put over a map.
use Rattle.std.proofs.Common.{◌≡◌, ◌+◌, ℕ, List, Bool, true, false, cond, Option, Some, None, refl, subst, sym, ap, ◌∙◌}
use Rattle.std.specs.Prelude.{◌&&◌, is_some, nat_lt, option_map}
use Rattle.circ_policy.specs.Terms.{Terms}
use Rattle.circ_records.proofs.SameTexts.{same-text}
use Rattle.circ_records.specs.Coherent.{AreOfKind, IsCoherentFee, IsCoherentMap, IsCoherentPatron, are_distinct, as_fee, as_item, as_patron, has_id, is_lent_to, is_loan_of, is_owed_by}
use Rattle.circ_records.specs.Texts.{is_same}
use Rattle.circ_records.specs.declared.key.Key.{Key}
use Rattle.circ_records.specs.declared.key.Key.TheVariants as keys
use Rattle.circ_records.specs.declared.record.Fee.{Fee}
use Rattle.circ_records.specs.declared.record.Item.{Item}
use Rattle.circ_records.specs.declared.record.Loan.{Loan}
use Rattle.circ_records.specs.declared.record.Patron.{Patron}
use Rattle.circ_records.specs.declared.record.Record.{Record}
use Rattle.circ_records.specs.declared.record.Record.TheVariants as records
use Rattle.read_set.specs.Coherence.{HasFewItems}
use Rattle.read_set.specs.Maps.{Map}
use Rattle.read_set.proofs.FeeNumbers.{not-later}
use Rattle.read_set.proofs.Listing.{IsListed, owned_by, set_at}
use Rattle.read_set.proofs.MapParts.{AreKnown, IsSound, IsSoundPatron, IsSoundRecord, at-item, debtor, fees-fee, fees-item, fees-patron, fees_of, kinds-put, known-itself, known-put, lent-fee, lent-item, lent-patron, lent_by, lent_item, loans-fee, loans-item, loans-patron, loans_of, borrower_of, owed-fee, owed-item, owed-patron, owed_by, owed_fee, put_one, sound-put}

-- A map that others were put over: what it has alone, and who has what in it.
pub record State (policy : Terms) (n : ℕ) (M N : Map) (L : List ℕ → Option (List (List ℕ))) (O : List ℕ → Option (List ℕ)) (F : List ℕ → Option (List (List ℕ))) (D : List ℕ → Option (List ℕ)) : Type 0 where
  pub sound : IsSound policy n N
  pub kinds : AreOfKind M → AreOfKind N
  pub known : AreKnown M N
  pub items : (id : List ℕ) → is_some (as_item (N (keys.Item id))) ≡ true → is_some (as_item (M (keys.Item id))) ≡ true
  pub loans : loans_of N ≡ L
  pub lent : lent_by N ≡ O
  pub fees : fees_of N ≡ F
  pub owed : owed_by N ≡ D

pub start : (policy : Terms) (n : ℕ) (M : Map) → IsSound policy n M → State policy n M M (loans_of M) (lent_by M) (fees_of M) (owed_by M)
start policy n M h = record { sound = h; kinds = λ k. k; known = known-itself M; items = λ id e. e; loans = refl; lent = refl; fees = refl; owed = refl }

-- a patron is put
pub put-patron : {policy : Terms} {n : ℕ} {M N : Map} {L : List ℕ → Option (List (List ℕ))} {O : List ℕ → Option (List ℕ)} {F : List ℕ → Option (List (List ℕ))} {D : List ℕ → Option (List ℕ)}
    → State policy n M N L O F D → (id : List ℕ) (p : Patron) → IsSoundPatron policy id p
    → State policy n M (put_one (keys.Patron id) (records.Patron p) N) (set_at id (Some p.loans) L) O (set_at id (Some p.fees) F) D
unfolding put_one
put-patron {policy} {n} {M} {N} s id p right = record {
  sound = sound-put policy n N (keys.Patron id) (records.Patron p) s.sound refl right;
  kinds = λ h. kinds-put N (keys.Patron id) (records.Patron p) refl (s.kinds h);
  known = record { at = λ q e. (known-put N (keys.Patron id) (records.Patron p) refl).at q (s.known.at q e) };
  items = λ q e. s.items q e;
  loans = loans-patron id p N ∙ ap (set_at id (Some p.loans)) s.loans;
  lent = lent-patron id (records.Patron p) N ∙ s.lent;
  fees = fees-patron id p N ∙ ap (set_at id (Some p.fees)) s.fees;
  owed = owed-patron id (records.Patron p) N ∙ s.owed;
}

item-there : (b : Bool) (r : Record) (o : Option Record) (M : Map) (q id : List ℕ) → (b ≡ true → is_some (as_item (M (keys.Item q))) ≡ true) → (is_some (as_item o) ≡ true → is_some (as_item (M (keys.Item q))) ≡ true)
    → is_some (as_item (cond b (Some r) o)) ≡ true → is_some (as_item (M (keys.Item q))) ≡ true
item-there true r o M q id h g e = h refl
item-there false r o M q id h g e = g e

-- an item that there was is put
pub put-item : {policy : Terms} {n : ℕ} {M N : Map} {L : List ℕ → Option (List (List ℕ))} {O : List ℕ → Option (List ℕ)} {F : List ℕ → Option (List (List ℕ))} {D : List ℕ → Option (List ℕ)}
    → State policy n M N L O F D → (id : List ℕ) (i : Item) → IsSoundRecord policy n N (keys.Item id) (records.Item i) → is_some (as_item (M (keys.Item id))) ≡ true
    → State policy n M (put_one (keys.Item id) (records.Item i) N) L (set_at id (borrower_of i.loan) O) F D
put-item {policy} {n} {M} {N} s id i right there = record {
  sound = sound-put policy n N (keys.Item id) (records.Item i) s.sound refl right;
  kinds = λ h. kinds-put N (keys.Item id) (records.Item i) refl (s.kinds h);
  known = record { at = λ q e. (known-put N (keys.Item id) (records.Item i) refl).at q (s.known.at q e) };
  items = λ q e. old q (subst (λ (o : Option Record). is_some (as_item o) ≡ true) (at-item id (records.Item i) N q) e);
  loans = loans-item id (records.Item i) N ∙ s.loans;
  lent = lent-item id i N ∙ ap (set_at id (borrower_of i.loan)) s.lent;
  fees = fees-item id (records.Item i) N ∙ s.fees;
  owed = owed-item id (records.Item i) N ∙ s.owed;
}
  where
    old : (q : List ℕ) → is_some (as_item (cond (is_same q id) (Some (records.Item i)) (N (keys.Item q)))) ≡ true → is_some (as_item (M (keys.Item q))) ≡ true
    old q e = item-there (is_same q id) (records.Item i) (N (keys.Item q)) M q id (λ t. ap (λ x. is_some (as_item (M (keys.Item x)))) (same-text q id t) ∙ there) (s.items q) e

-- a fee is put
pub put-fee : {policy : Terms} {n : ℕ} {M N : Map} {L : List ℕ → Option (List (List ℕ))} {O : List ℕ → Option (List ℕ)} {F : List ℕ → Option (List (List ℕ))} {D : List ℕ → Option (List ℕ)}
    → State policy n M N L O F D → (id : List ℕ) (f : Fee) → IsSoundRecord policy n N (keys.Fee id) (records.Fee f)
    → State policy n M (put_one (keys.Fee id) (records.Fee f) N) L O F (set_at id (debtor f) D)
unfolding put_one
put-fee {policy} {n} {M} {N} s id f right = record {
  sound = sound-put policy n N (keys.Fee id) (records.Fee f) s.sound refl right;
  kinds = λ h. kinds-put N (keys.Fee id) (records.Fee f) refl (s.kinds h);
  known = record { at = λ q e. (known-put N (keys.Fee id) (records.Fee f) refl).at q (s.known.at q e) };
  items = λ q e. s.items q e;
  loans = loans-fee id (records.Fee f) N ∙ s.loans;
  lent = lent-fee id (records.Fee f) N ∙ s.lent;
  fees = fees-fee id (records.Fee f) N ∙ s.fees;
  owed = owed-fee id f N ∙ ap (set_at id (debtor f)) s.owed;
}

-- COHERENT RECORDS

-- what was put over M left N so
pub record Parts (policy : Terms) (n : ℕ) (M N : Map) : Type 0 where
  pub sound : IsSound policy n N
  pub kinds : AreOfKind M → AreOfKind N
  pub few : HasFewItems N
  pub loans : IsListed (loans_of N) (lent_by N)
  pub fees : IsListed (fees_of N) (owed_by N)

-- what is put over records leaves them coherent where the lists agree in the end
pub ends : {policy : Terms} {n : ℕ} {M N : Map} {L : List ℕ → Option (List (List ℕ))} {O : List ℕ → Option (List ℕ)} {F : List ℕ → Option (List (List ℕ))} {D : List ℕ → Option (List ℕ)}
    → State policy n M N L O F D → HasFewItems M → IsListed L O → IsListed F D → Parts policy n M N
ends {N = N} {L = L} {O = O} {F = F} {D = D} s few loans fees = record {
  sound = s.sound;
  kinds = s.kinds;
  few = (few.0, few.1, λ id e. few.2 id (s.items id e));
  loans = subst (λ (x : List ℕ → Option (List ℕ)). IsListed (loans_of N) x) (sym s.lent) (subst (λ (x : List ℕ → Option (List (List ℕ))). IsListed x O) (sym s.loans) loans);
  fees = subst (λ (x : List ℕ → Option (List ℕ)). IsListed (fees_of N) x) (sym s.owed) (subst (λ (x : List ℕ → Option (List (List ℕ))). IsListed x D) (sym s.fees) fees);
}

pub patron-is : (o : Option Record) (p : Patron) → as_patron o ≡ Some p → o ≡ Some (records.Patron p)
patron-is None p e = cc e
patron-is (Some (records.Patron q)) p e = let same : q ≡ p = cc e in ap (λ x. Some (records.Patron x)) same
patron-is (Some (records.Item i)) p e = cc e
patron-is (Some (records.Fee f)) p e = cc e

pub item-is : (o : Option Record) (i : Item) → as_item o ≡ Some i → o ≡ Some (records.Item i)
item-is None i e = cc e
item-is (Some (records.Item j)) i e = let same : j ≡ i = cc e in ap (λ x. Some (records.Item x)) same
item-is (Some (records.Patron p)) i e = cc e
item-is (Some (records.Fee f)) i e = cc e

pub fee-is : (o : Option Record) (f : Fee) → as_fee o ≡ Some f → o ≡ Some (records.Fee f)
fee-is None f e = cc e
fee-is (Some (records.Fee g)) f e = let same : g ≡ f = cc e in ap (λ x. Some (records.Fee x)) same
fee-is (Some (records.Patron p)) f e = cc e
fee-is (Some (records.Item i)) f e = cc e

-- an item's borrower, and who owes a fee
loaned : (id : List ℕ) (o : Option Item) → owned_by id (lent_item o) ≡ is_lent_to id o
loaned id None = refl
loaned id (Some i) = by i.loan
  where
    by : (l : Option Loan) → owned_by id (borrower_of l) ≡ is_loan_of id l
    by None = refl
    by (Some l) = refl

owing : (id : List ℕ) (o : Option Fee) → owned_by id (owed_fee o) ≡ is_owed_by id o
owing id None = refl
owing id (Some f) = by (nat_lt f.paid f.amount) (is_same id f.patron) refl
  where
    by : (b c : Bool) → is_same id f.patron ≡ c → owned_by id (cond b (Some f.patron) None) ≡ (c && b)
    by true true e = e
    by true false e = e
    by false true e = refl
    by false false e = refl

pub loans-at : (M : Map) (id : List ℕ) (p : Patron) → M (keys.Patron id) ≡ Some (records.Patron p) → loans_of M id ≡ Some p.loans
unfolding loans_of
loans-at M id p e = ap (λ o. option_map (λ (q : Patron). q.loans) (as_patron o)) e

pub fees-at : (M : Map) (id : List ℕ) (p : Patron) → M (keys.Patron id) ≡ Some (records.Patron p) → fees_of M id ≡ Some p.fees
unfolding fees_of
fees-at M id p e = ap (λ o. option_map (λ (q : Patron). q.fees) (as_patron o)) e

pub lent-is : (M : Map) (id item : List ℕ) → owned_by id (lent_by M item) ≡ is_lent_to id (as_item (M (keys.Item item)))
unfolding lent_by
lent-is M id item = loaned id (as_item (M (keys.Item item)))

pub owed-is : (M : Map) (id fee : List ℕ) → owned_by id (owed_by M fee) ≡ is_owed_by id (as_fee (M (keys.Fee fee)))
unfolding owed_by
owed-is M id fee = owing id (as_fee (M (keys.Fee fee)))

-- records whose parts are right are coherent
pub coherent-parts : (policy : Terms) (n : ℕ) (N M : Map) → Parts policy n N M → IsCoherentMap policy n M
coherent-parts policy n N M h = record {
  patrons = λ id p e. patron id p (patron-is (M (keys.Patron id)) p e);
  items = λ id i e. h.sound.at (keys.Item id) (records.Item i) (item-is (M (keys.Item id)) i e);
  fees = λ id f e. h.sound.at (keys.Fee id) (records.Fee f) (fee-is (M (keys.Fee id)) f e);
}
  where
    patron : (id : List ℕ) (p : Patron) → M (keys.Patron id) ≡ Some (records.Patron p) → IsCoherentPatron policy M id p
    patron id p e =
        let right : IsSoundPatron policy id p = h.sound.at (keys.Patron id) (records.Patron p) e in
        record {
          id_text = right.id_text;
          name = right.name;
          class = right.class;
          loans = λ item. h.loans.each id p.loans (loans-at M id p e) item ∙ lent-is M id item;
          loans_once = h.loans.once id p.loans (loans-at M id p e);
          fees = λ fee. h.fees.each id p.fees (fees-at M id p e) fee ∙ owed-is M id fee;
          fees_once = h.fees.once id p.fees (fees-at M id p e);
        }

-- and the other way round, also before a later line
later-fee : (n : ℕ) (M : Map) (id : List ℕ) (f : Fee) → IsCoherentFee n M id f → IsCoherentFee (n + 1) M id f
later-fee n M id f h = record { id_text = h.id_text; patron = h.patron; paid = h.paid; amount = h.amount; number = not-later n id h.number }

sound-map : (policy : Terms) (n : ℕ) (M : Map) → IsCoherentMap policy n M → (k : Key) (r : Record) → M k ≡ Some r → IsSoundRecord policy (n + 1) M k r
sound-map policy n M h (keys.Patron id) (records.Patron p) e = let c : IsCoherentPatron policy M id p = h.patrons id p (ap as_patron e) in record { id_text = c.id_text; name = c.name; class = c.class }
sound-map policy n M h (keys.Item id) (records.Item i) e = h.items id i (ap as_item e)
sound-map policy n M h (keys.Fee id) (records.Fee f) e = later-fee n M id f (h.fees id f (ap as_fee e))
sound-map policy n M h (keys.Patron id) (records.Item i) e = tt
sound-map policy n M h (keys.Patron id) (records.Fee f) e = tt
sound-map policy n M h (keys.Item id) (records.Patron p) e = tt
sound-map policy n M h (keys.Item id) (records.Fee f) e = tt
sound-map policy n M h (keys.Fee id) (records.Patron p) e = tt
sound-map policy n M h (keys.Fee id) (records.Item i) e = tt

of-patron : {A : Type 0} (f : Patron → A) (o : Option Record) (x : A) → option_map f (as_patron o) ≡ Some x → (p : Patron) × (as_patron o ≡ Some p) × (f p ≡ x)
of-patron f None x e = cc e
of-patron f (Some (records.Patron p)) x e = (p, refl, cc e)
of-patron f (Some (records.Item i)) x e = cc e
of-patron f (Some (records.Fee g)) x e = cc e

loans-listed : (policy : Terms) (n : ℕ) (M : Map) → IsCoherentMap policy n M → IsListed (loans_of M) (lent_by M)
unfolding loans_of
loans-listed policy n M h = record {
  each = λ id list e item.
      let f = of-patron (λ (q : Patron). q.loans) (M (keys.Patron id)) list e in
      ap (has_id item) (sym f.2) ∙ (h.patrons id f.0 f.1).loans item ∙ sym (lent-is M id item);
  once = λ id list e. let f = of-patron (λ (q : Patron). q.loans) (M (keys.Patron id)) list e in ap are_distinct (sym f.2) ∙ (h.patrons id f.0 f.1).loans_once;
}

fees-listed : (policy : Terms) (n : ℕ) (M : Map) → IsCoherentMap policy n M → IsListed (fees_of M) (owed_by M)
unfolding fees_of
fees-listed policy n M h = record {
  each = λ id list e fee.
      let f = of-patron (λ (q : Patron). q.fees) (M (keys.Patron id)) list e in
      ap (has_id fee) (sym f.2) ∙ (h.patrons id f.0 f.1).fees fee ∙ sym (owed-is M id fee);
  once = λ id list e. let f = of-patron (λ (q : Patron). q.fees) (M (keys.Patron id)) list e in ap are_distinct (sym f.2) ∙ (h.patrons id f.0 f.1).fees_once;
}

pub parts-later : (policy : Terms) (n : ℕ) (M : Map) → IsCoherentMap policy n M → HasFewItems M → Parts policy (n + 1) M M
parts-later policy n M h few = record {
  sound = record { at = λ k r e. sound-map policy n M h k r e };
  kinds = λ kinds. kinds;
  few = few;
  loans = loans-listed policy n M h;
  fees = fees-listed policy n M h;
}
