-- Lines that put one record: a patron that keeps its lists, an item that keeps its borrower; and the fee that a line makes.
use Rattle.std.proofs.Common.{◌≡◌, ◌≤◌, ◌<◌, ◌^◌, ◌+◌, ℕ, List, [], ◌∷◌, ◌++◌, Bool, true, false, cond, Option, Some, None, refl, subst, sym, ap, ◌∙◌, arith}
use Rattle.std.specs.Prelude.{nat_lt}
use Rattle.circ_policy.specs.Terms.{Terms}
use Rattle.circ_records.specs.Coherent.{IsCoherentFee, IsCoherentItem, as_fee, as_item, is_known, IsCoherentMap}
use Rattle.circ_records.specs.declared.key.Key.TheVariants as keys
use Rattle.circ_records.specs.declared.record.Fee.{Fee}
use Rattle.circ_records.specs.declared.record.FeeType.{FeeType}
use Rattle.circ_records.specs.declared.record.Item.{Item}
use Rattle.circ_records.specs.declared.record.Patron.{Patron}
use Rattle.circ_records.specs.declared.record.Record.TheVariants as records
use Rattle.sip_reader.proofs.FeeIds.{is_id-fee}
use Rattle.sip_reader.specs.Texts.{fee_id, is_text}
use Rattle.circ_records.specs.Classes.{has_class}
use Rattle.circ_records.specs.MadeFees.{may_be_made}
use Rattle.read_set.specs.Fees.{fee_made, with_fee}
use Rattle.read_set.specs.Maps.{Map}
use Rattle.read_set.proofs.FeeNumbers.{made-later, made-now}
use Rattle.read_set.proofs.KnownParts.{article-known}
use Rattle.read_set.proofs.Listing.{IsListed, listed-more, set-same, set_at}
use Rattle.read_set.proofs.MapParts.{IsSound, IsSoundPatron, borrower_of, fees_of, lent_by, loans_of, owed_by, owed_fee, put_one, puts}
use Rattle.read_set.proofs.States.{Parts, State, ends, fees-at, loans-at, put-fee, put-item, put-patron, start}

-- a patron's record with its own name and class
pub same-patron : (policy : Terms) (n : ℕ) (M : Map) (id : List ℕ) (p q : Patron) → IsSound policy n M → M (keys.Patron id) ≡ Some (records.Patron p) → q.name ≡ p.name → q.class ≡ p.class → IsSoundPatron policy id q
same-patron policy n M id p q h e name class =
    let right : IsSoundPatron policy id p = h.at (keys.Patron id) (records.Patron p) e in
    record {
      id_text = right.id_text;
      name = subst (λ (t : List ℕ). is_text t ≡ true) (sym name) right.name;
      class = subst (λ (t : List ℕ). has_class policy t ≡ true) (sym class) right.class;
    }

pub same-loans : (M : Map) (id : List ℕ) (p : Patron) → M (keys.Patron id) ≡ Some (records.Patron p) → set_at id (Some p.loans) (loans_of M) ≡ loans_of M
same-loans M id p e = set-same id (Some p.loans) (loans_of M) (loans-at M id p e)

pub same-fees : (M : Map) (id : List ℕ) (p : Patron) → M (keys.Patron id) ≡ Some (records.Patron p) → set_at id (Some p.fees) (fees_of M) ≡ fees_of M
same-fees M id p e = set-same id (Some p.fees) (fees_of M) (fees-at M id p e)

pub lent-at : (M : Map) (id : List ℕ) (i : Item) → M (keys.Item id) ≡ Some (records.Item i) → lent_by M id ≡ borrower_of i.loan
unfolding lent_by
lent-at M id i e = ap (λ o. by (as_item o)) e
  where
    by : Option Item → Option (List ℕ)
    by None = None
    by (Some x) = borrower_of x.loan

pub same-borrower : (M : Map) (id : List ℕ) (i : Item) → M (keys.Item id) ≡ Some (records.Item i) → set_at id (borrower_of i.loan) (lent_by M) ≡ lent_by M
same-borrower M id i e = set-same id (borrower_of i.loan) (lent_by M) (lent-at M id i e)

-- a patron that keeps its lists is put
pub keeps-lists : (policy : Terms) (n : ℕ) (M : Map) → Parts policy n M M → (id : List ℕ) (p q : Patron) → M (keys.Patron id) ≡ Some (records.Patron p)
    → q.name ≡ p.name → q.class ≡ p.class → q.loans ≡ p.loans → q.fees ≡ p.fees → Parts policy n M (put_one (keys.Patron id) (records.Patron q) M)
keeps-lists policy n M h id p q e name class loans fees =
    ends (put-patron (start policy n M h.sound) id q (same-patron policy n M id p q h.sound e name class)) h.few
    (subst (λ (x : List ℕ → Option (List (List ℕ))). IsListed x (lent_by M)) (sym (ap (λ l. set_at id (Some l) (loans_of M)) loans ∙ same-loans M id p e)) h.loans)
    (subst (λ (x : List ℕ → Option (List (List ℕ))). IsListed x (owed_by M)) (sym (ap (λ l. set_at id (Some l) (fees_of M)) fees ∙ same-fees M id p e)) h.fees)

-- an item that keeps its borrower is put
pub keeps-borrower : (policy : Terms) (n : ℕ) (M : Map) → Parts policy n M M → (id : List ℕ) (i j : Item) → M (keys.Item id) ≡ Some (records.Item i)
    → IsCoherentItem policy M id j → borrower_of j.loan ≡ borrower_of i.loan → Parts policy n M (put_one (keys.Item id) (records.Item j) M)
keeps-borrower policy n M h id i j e right same =
    ends (put-item (start policy n M h.sound) id j right (article-known M id i e)) h.few
    (subst (λ (x : List ℕ → Option (List ℕ)). IsListed (loans_of M) x) (sym (ap (λ b. set_at id b (lent_by M)) same ∙ same-borrower M id i e)) h.loans)
    h.fees

-- THE FEE THAT A LINE MAKES

-- whose each fee is, after the fee that a line makes of an amount
unfoldable pub owed_after : ℕ → ℕ → List ℕ → ℕ → (List ℕ → Option (List ℕ)) → List ℕ → Option (List ℕ)
owed_after n k patron amount D = cond (nat_lt 0 amount) (set_at (fee_id n k) (Some patron) D) D

right-fee : (n k : ℕ) (M : Map) (f : Fee) → n ≤ 9999999999 → k < 2 ^ 64 → is_known M f.patron ≡ true → f.paid ≡ 0 → f.amount ≤ 99999999999 → IsCoherentFee (n + 1) M (fee_id n k) f
right-fee n k M f low small known none most = record {
  id_text = is_id-fee n k (omega arith) small;
  patron = known;
  paid = omega arith;
  amount = most;
  number = made-later n k low small;
}

-- it is put
pub put-made : {policy : Terms} {M N : Map} {L : List ℕ → Option (List (List ℕ))} {O : List ℕ → Option (List ℕ)} {F : List ℕ → Option (List (List ℕ))} {D : List ℕ → Option (List ℕ)}
    (n k : ℕ) (patron : List ℕ) (kind : FeeType) (amount : ℕ) → n ≤ 9999999999 → k < 2 ^ 64 → amount ≤ 99999999999 → State policy (n + 1) M N L O F D → is_known N patron ≡ true
    → State policy (n + 1) M (puts (fee_made n k patron kind amount) N) L O F (owed_after n k patron amount D)
unfolding owed_after
put-made {policy} {M} {N} {L} {O} {F} {D} n k patron kind amount low small most s known = by (nat_lt 0 amount) refl
  where
    f : Fee
    f = record { patron = patron; kind = kind; amount = amount; paid = 0 }

    by : (b : Bool) → nat_lt 0 amount ≡ b → State policy (n + 1) M (puts (cond b ((keys.Fee (fee_id n k), records.Fee (record { patron = patron; kind = kind; amount = amount; paid = 0 })) ∷ []) []) N) L O F (cond b (set_at (fee_id n k) (Some patron) D) D)
    by true e =
        subst (λ (o : Option (List ℕ)). State policy (n + 1) M (put_one (keys.Fee (fee_id n k)) (records.Fee (record { patron = patron; kind = kind; amount = amount; paid = 0 })) N) L O F (set_at (fee_id n k) o D))
        (ap (λ b. cond b (Some patron) None) e)
        (put-fee s (fee_id n k) (record { patron = patron; kind = kind; amount = amount; paid = 0 }) (right-fee n k N (record { patron = patron; kind = kind; amount = amount; paid = 0 }) low small known refl most))
    by false e = s

-- and it is in its patron's list
pub listed-made : (n k : ℕ) (patron : List ℕ) (amount : ℕ) (F : List ℕ → Option (List (List ℕ))) (D : List ℕ → Option (List ℕ)) (fees : List (List ℕ)) → IsListed F D → F patron ≡ Some fees → D (fee_id n k) ≡ None
    → IsListed (set_at patron (Some (with_fee n k amount fees)) F) (owed_after n k patron amount D)
unfolding owed_after
listed-made n k patron amount F D fees h e none = by (nat_lt 0 amount)
  where
    by : (b : Bool) → IsListed (set_at patron (Some (cond b (fees ++ fee_id n k ∷ []) fees)) F) (cond b (set_at (fee_id n k) (Some patron) D) D)
    by true = listed-more F D patron (fee_id n k) fees h e none
    by false = subst (λ (x : List ℕ → Option (List (List ℕ))). IsListed x D) (sym (set-same patron (Some fees) F e)) h

-- no fee has an id that the line may make
pub free : (policy : Terms) (n : ℕ) (M : Map) → IsCoherentMap policy n M → n ≤ 9999999999 → (k : ℕ) → k < 2 ^ 64 → owed_by M (fee_id n k) ≡ None
unfolding owed_by
free policy n M h low k small = by (as_fee (M (keys.Fee (fee_id n k)))) refl
  where
    by : (o : Option Fee) → as_fee (M (keys.Fee (fee_id n k))) ≡ o → owed_fee o ≡ None
    by None e = refl
    by (Some f) e =
        let right : IsCoherentFee n M (fee_id n k) f = h.fees (fee_id n k) f e in
        let never : may_be_made n (fee_id n k) ≡ false = right.number in
        let may : may_be_made n (fee_id n k) ≡ true = made-now n k low small in
        cc
