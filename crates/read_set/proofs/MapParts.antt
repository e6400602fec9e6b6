-- A map of records by its parts: each record alone, and who has what in its lists. One record after the other is put.
use Rattle.std.proofs.Common.{◌≡◌, ℕ, List, [], ◌∷◌, Bool, true, false, cond, Option, Some, None, refl, subst, sym, ap, ◌∙◌}
use Rattle.std.specs.Prelude.{is_some, nat_lt, option_map}
use Rattle.std.specs.BTreeMap.{insert_entry}
use Rattle.std.specs.List.{list_all}
use Rattle.std.specs.Option.{option_or}
use Rattle.std.specs.Ordering.{is_eq}
use Rattle.std.proofs.Math.Path.{fun_ext}
use Rattle.std.proofs.lemmas.Bool.{and_from, and_parts}
use Rattle.circ_policy.specs.Terms.{Terms}
use Rattle.circ_records.specs.Coherent.{AreOfKind, IsCoherentFee, IsCoherentItem, IsCoherentLoan, as_fee, as_item, as_patron, is_hold, is_known, is_of_kind}
use Rattle.circ_records.specs.Keys.{key_cmp}
use Rattle.circ_records.specs.Records.{Entries, record_at}
use Rattle.circ_records.specs.Classes.{has_class}
use Rattle.circ_records.specs.Texts.{is_same}
use Rattle.circ_records.specs.declared.holds.Hold.{Hold}
use Rattle.circ_records.specs.declared.key.Key.{Key}
use Rattle.circ_records.specs.declared.key.Key.TheVariants as keys
use Rattle.circ_records.specs.declared.record.Fee.{Fee}
use Rattle.circ_records.specs.declared.record.Item.{Item}
use Rattle.circ_records.specs.declared.record.Loan.{Loan}
use Rattle.circ_records.specs.declared.record.Patron.{Patron}
use Rattle.circ_records.specs.declared.record.Record.{Record}
use Rattle.circ_records.specs.declared.record.Record.TheVariants as records
use Rattle.sip_reader.specs.Texts.{is_id, is_text}
use Rattle.read_set.specs.Effects.{written}
use Rattle.read_set.specs.Maps.{Map, put}
use Rattle.read_set.proofs.IdLists.{same-is}
use Rattle.read_set.proofs.Keeping.{one-key}
use Rattle.read_set.proofs.Listing.{set_at}
use Rattle.read_set.proofs.Putting.{put-at}

-- PUTTING

-- a map with one record put over it
unfoldable pub put_one : Key → Record → Map → Map
put_one k r M x = cond (is_eq (key_cmp x k)) (Some r) (M x)

-- and with several, one after the other
abbrev pub puts : Entries → Map → Map
puts [] M = M
puts (e ∷ more) M = puts more (put_one e.0 e.1 M)

either_put : (b : Bool) (r : Record) (o p : Option Record) → option_or (cond b (Some r) o) p ≡ cond b (Some r) (option_or o p)
either_put true r o p = refl
either_put false r o p = refl

pub put-none : (M : Map) → put [] M ≡ M
put-none M = fun_ext (λ x. refl)

pub put-inserted : (w : Entries) (k : Key) (r : Record) (M : Map) → put (insert_entry key_cmp w k r) M ≡ put_one k r (put w M)
unfolding put_one
put-inserted w k r M = fun_ext (λ x. ap (λ o. option_or o (M x)) (put-at w k r x) ∙ either_put (is_eq (key_cmp x k)) r (record_at w x) (M x))

pub put-written : (w es : Entries) (M : Map) → put (written w es) M ≡ puts es (put w M)
put-written w [] M = refl
put-written w (e ∷ more) M = put-written (insert_entry key_cmp w e.0 e.1) more M ∙ ap (puts more) (put-inserted w e.0 e.1 M)

pub put-single : (k : Key) (r : Record) (M : Map) → put ((k, r) ∷ []) M ≡ put_one k r M
unfolding put_one
put-single k r M = fun_ext (λ x. either_put (is_eq (key_cmp x k)) r None (M x))

-- what is at a key after a record was put
pub at-patron : (a : List ℕ) (r : Record) (M : Map) (x : List ℕ) → put_one (keys.Patron a) r M (keys.Patron x) ≡ cond (is_same x a) (Some r) (M (keys.Patron x))
unfolding put_one
at-patron a r M x = ap (λ b. cond b (Some r) (M (keys.Patron x))) (same-is x a)

pub at-item : (a : List ℕ) (r : Record) (M : Map) (x : List ℕ) → put_one (keys.Item a) r M (keys.Item x) ≡ cond (is_same x a) (Some r) (M (keys.Item x))
unfolding put_one
at-item a r M x = ap (λ b. cond b (Some r) (M (keys.Item x))) (same-is x a)

pub at-fee : (a : List ℕ) (r : Record) (M : Map) (x : List ℕ) → put_one (keys.Fee a) r M (keys.Fee x) ≡ cond (is_same x a) (Some r) (M (keys.Fee x))
unfolding put_one
at-fee a r M x = ap (λ b. cond b (Some r) (M (keys.Fee x))) (same-is x a)

-- WHO HAS WHAT

abbrev pub loans_in : Option Record → Option (List (List ℕ))
loans_in o = option_map (λ p. p.loans) (as_patron o)

abbrev pub fees_in : Option Record → Option (List (List ℕ))
fees_in o = option_map (λ p. p.fees) (as_patron o)

abbrev pub borrower_of : Option Loan → Option (List ℕ)
borrower_of loan = option_map (λ (l : Loan). l.patron) loan

abbrev pub lent_item : Option Item → Option (List ℕ)
lent_item None = None
lent_item (Some i) = borrower_of i.loan

-- who still owes something of a fee
abbrev pub debtor : Fee → Option (List ℕ)
debtor f = cond (nat_lt f.paid f.amount) (Some f.patron) None

abbrev pub owed_fee : Option Fee → Option (List ℕ)
owed_fee None = None
owed_fee (Some f) = debtor f

-- a map's lists of loans and of open fees, and whose each item and each fee is
unfoldable pub loans_of : Map → List ℕ → Option (List (List ℕ))
loans_of M id = loans_in (M (keys.Patron id))

unfoldable pub fees_of : Map → List ℕ → Option (List (List ℕ))
fees_of M id = fees_in (M (keys.Patron id))

unfoldable pub lent_by : Map → List ℕ → Option (List ℕ)
lent_by M id = lent_item (as_item (M (keys.Item id)))

unfoldable pub owed_by : Map → List ℕ → Option (List ℕ)
owed_by M id = owed_fee (as_fee (M (keys.Fee id)))

-- as a patron is put
pub loans-patron : (a : List ℕ) (p : Patron) (M : Map) → loans_of (put_one (keys.Patron a) (records.Patron p) M) ≡ set_at a (Some p.loans) (loans_of M)
unfolding loans_of set_at
loans-patron a p M = fun_ext (λ x. ap loans_in (at-patron a (records.Patron p) M x) ∙ by (is_same x a) (M (keys.Patron x)))
  where
    by : (b : Bool) (o : Option Record) → loans_in (cond b (Some (records.Patron p)) o) ≡ cond b (Some p.loans) (loans_in o)
    by true o = refl
    by false o = refl

pub fees-patron : (a : List ℕ) (p : Patron) (M : Map) → fees_of (put_one (keys.Patron a) (records.Patron p) M) ≡ set_at a (Some p.fees) (fees_of M)
unfolding fees_of set_at
fees-patron a p M = fun_ext (λ x. ap fees_in (at-patron a (records.Patron p) M x) ∙ by (is_same x a) (M (keys.Patron x)))
  where
    by : (b : Bool) (o : Option Record) → fees_in (cond b (Some (records.Patron p)) o) ≡ cond b (Some p.fees) (fees_in o)
    by true o = refl
    by false o = refl

pub lent-patron : (a : List ℕ) (r : Record) (M : Map) → lent_by (put_one (keys.Patron a) r M) ≡ lent_by M
unfolding lent_by put_one
lent-patron a r M = fun_ext (λ x. refl)

pub owed-patron : (a : List ℕ) (r : Record) (M : Map) → owed_by (put_one (keys.Patron a) r M) ≡ owed_by M
unfolding owed_by put_one
owed-patron a r M = fun_ext (λ x. refl)

-- as an item is put
pub lent-item : (a : List ℕ) (i : Item) (M : Map) → lent_by (put_one (keys.Item a) (records.Item i) M) ≡ set_at a (borrower_of i.loan) (lent_by M)
unfolding lent_by set_at
lent-item a i M = fun_ext (λ x. ap (λ o. lent_item (as_item o)) (at-item a (records.Item i) M x) ∙ by (is_same x a) (M (keys.Item x)))
  where
    by : (b : Bool) (o : Option Record) → lent_item (as_item (cond b (Some (records.Item i)) o)) ≡ cond b (borrower_of i.loan) (lent_item (as_item o))
    by true o = refl
    by false o = refl

pub loans-item : (a : List ℕ) (r : Record) (M : Map) → loans_of (put_one (keys.Item a) r M) ≡ loans_of M
unfolding loans_of put_one
loans-item a r M = fun_ext (λ x. refl)

pub fees-item : (a : List ℕ) (r : Record) (M : Map) → fees_of (put_one (keys.Item a) r M) ≡ fees_of M
unfolding fees_of put_one
fees-item a r M = fun_ext (λ x. refl)

pub owed-item : (a : List ℕ) (r : Record) (M : Map) → owed_by (put_one (keys.Item a) r M) ≡ owed_by M
unfolding owed_by put_one
owed-item a r M = fun_ext (λ x. refl)

-- as a fee is put
pub owed-fee : (a : List ℕ) (f : Fee) (M : Map) → owed_by (put_one (keys.Fee a) (records.Fee f) M) ≡ set_at a (debtor f) (owed_by M)
unfolding owed_by set_at
owed-fee a f M = fun_ext (λ x. ap (λ o. owed_fee (as_fee o)) (at-fee a (records.Fee f) M x) ∙ by (is_same x a) (M (keys.Fee x)))
  where
    by : (b : Bool) (o : Option Record) → owed_fee (as_fee (cond b (Some (records.Fee f)) o)) ≡ cond b (debtor f) (owed_fee (as_fee o))
    by true o = refl
    by false o = refl

pub loans-fee : (a : List ℕ) (r : Record) (M : Map) → loans_of (put_one (keys.Fee a) r M) ≡ loans_of M
unfolding loans_of put_one
loans-fee a r M = fun_ext (λ x. refl)

pub fees-fee : (a : List ℕ) (r : Record) (M : Map) → fees_of (put_one (keys.Fee a) r M) ≡ fees_of M
unfolding fees_of put_one
fees-fee a r M = fun_ext (λ x. refl)

pub lent-fee : (a : List ℕ) (r : Record) (M : Map) → lent_by (put_one (keys.Fee a) r M) ≡ lent_by M
unfolding lent_by put_one
lent-fee a r M = fun_ext (λ x. refl)

-- EACH RECORD ALONE

pub record IsSoundPatron (policy : Terms) (id : List ℕ) (p : Patron) : Type 0 where
  pub id_text : is_id id ≡ true
  pub name : is_text p.name ≡ true
  pub class : has_class policy p.class ≡ true

-- what a record alone has is right; one of another kind than its key's counts as none
abbrev pub IsSoundRecord : Terms → ℕ → Map → Key → Record → Type 0
IsSoundRecord policy n M (keys.Patron id) (records.Patron p) = IsSoundPatron policy id p
IsSoundRecord policy n M (keys.Item id) (records.Item i) = IsCoherentItem policy M id i
IsSoundRecord policy n M (keys.Fee id) (records.Fee f) = IsCoherentFee n M id f
IsSoundRecord policy n M k r = Unit {0}

pub record IsSound (policy : Terms) (n : ℕ) (M : Map) : Type 0 where
  pub at : (k : Key) (r : Record) → M k ≡ Some r → IsSoundRecord policy n M k r

-- who is known stays known
pub record AreKnown (M N : Map) : Type 0 where
  pub at : (id : List ℕ) → is_known M id ≡ true → is_known N id ≡ true

pub known-itself : (M : Map) → AreKnown M M
known-itself M = record { at = λ id e. e }

holds-in : (M N : Map) → AreKnown M N → (holds : List Hold) → list_all (is_hold M) holds ≡ true → list_all (is_hold N) holds ≡ true
holds-in M N known [] e = refl
holds-in M N known (h ∷ more) e =
    let p = and_parts (is_hold M h) (list_all (is_hold M) more) e in
    let q = and_parts (is_known M h.patron) (is_text h.pickup) p.0 in
    and_from (is_hold N h) (list_all (is_hold N) more) (and_from (is_known N h.patron) (is_text h.pickup) (known.at h.patron q.0) q.1) (holds-in M N known more p.1)

loan-in : (M N : Map) → AreKnown M N → (holds : List Hold) (l : Loan) → IsCoherentLoan M holds l → IsCoherentLoan N holds l
loan-in M N known holds l h = record { patron = known.at l.patron h.patron; waits = h.waits; due = h.due; renewals = h.renewals }

-- a record stays right as more are known
pub sound-in : (policy : Terms) (n : ℕ) (M N : Map) → AreKnown M N → (k : Key) (r : Record) → IsSoundRecord policy n M k r → IsSoundRecord policy n N k r
sound-in policy n M N known (keys.Patron id) (records.Patron p) h = h
sound-in policy n M N known (keys.Item id) (records.Item i) h = record {
  id_text = h.id_text;
  title = h.title;
  location = h.location;
  properties = h.properties;
  media = h.media;
  loan = λ l e. loan-in M N known i.holds l (h.loan l e);
  holds = holds-in M N known i.holds h.holds;
  holds_once = h.holds_once;
  few = h.few;
}
sound-in policy n M N known (keys.Fee id) (records.Fee f) h = record { id_text = h.id_text; patron = known.at f.patron h.patron; paid = h.paid; amount = h.amount; number = h.number }
sound-in policy n M N known (keys.Patron id) (records.Item i) h = tt
sound-in policy n M N known (keys.Patron id) (records.Fee f) h = tt
sound-in policy n M N known (keys.Item id) (records.Patron p) h = tt
sound-in policy n M N known (keys.Item id) (records.Fee f) h = tt
sound-in policy n M N known (keys.Fee id) (records.Patron p) h = tt
sound-in policy n M N known (keys.Fee id) (records.Item i) h = tt

-- nobody is forgotten as a record of its key's kind is put
pub known-put : (N : Map) (k : Key) (r : Record) → is_of_kind k r ≡ true → AreKnown N (put_one k r N)
unfolding put_one
known-put N (keys.Patron a) (records.Patron p) h = record { at = λ id e. ap (λ o. is_some (as_patron o)) (at-patron a (records.Patron p) N id) ∙ by (is_same id a) (N (keys.Patron id)) e }
  where
    by : (b : Bool) (o : Option Record) → is_some (as_patron o) ≡ true → is_some (as_patron (cond b (Some (records.Patron p)) o)) ≡ true
    by true o e = refl
    by false o e = e
known-put N (keys.Item a) (records.Item i) h = record { at = λ id e. e }
known-put N (keys.Fee a) (records.Fee f) h = record { at = λ id e. e }
known-put N (keys.Patron id) (records.Item i) h = cc h
known-put N (keys.Patron id) (records.Fee f) h = cc h
known-put N (keys.Item id) (records.Patron p) h = cc h
known-put N (keys.Item id) (records.Fee f) h = cc h
known-put N (keys.Fee id) (records.Patron p) h = cc h
known-put N (keys.Fee id) (records.Item i) h = cc h

-- and then each record is of its key's kind, where each was
pub kinds-put : (M : Map) (k : Key) (r : Record) → is_of_kind k r ≡ true → AreOfKind M → AreOfKind (put_one k r M)
unfolding put_one
kinds-put M k r right h x q e = by (is_eq (key_cmp x k)) refl e
  where
    by : (b : Bool) → is_eq (key_cmp x k) ≡ b → cond b (Some r) (M x) ≡ Some q → is_of_kind x q ≡ true
    by true s e =
        let one : x ≡ k = one-key x k s in
        let same : r ≡ q = cc e in
        ap (λ y. is_of_kind y q) one ∙ ap (is_of_kind k) (sym same) ∙ right
    by false s e = h x q e

pub sound-put : (policy : Terms) (n : ℕ) (M : Map) (k : Key) (r : Record) → IsSound policy n M → is_of_kind k r ≡ true → IsSoundRecord policy n M k r → IsSound policy n (put_one k r M)
unfolding put_one
sound-put policy n M k r h kind right = record { at = λ x q e. by x q (is_eq (key_cmp x k)) refl e }
  where
    more : AreKnown M (put_one k r M)
    more = known-put M k r kind

    by : (x : Key) (q : Record) (b : Bool) → is_eq (key_cmp x k) ≡ b → cond b (Some r) (M x) ≡ Some q → IsSoundRecord policy n (put_one k r M) x q
    by x q true s e =
        let one : x ≡ k = one-key x k s in
        let same : r ≡ q = cc e in
        subst (λ (y : Key). IsSoundRecord policy n (put_one k r M) y q) (sym one) (subst (λ (z : Record). IsSoundRecord policy n (put_one k r M) k z) same (sound-in policy n M (put_one k r M) more k r right))
    by x q false s e = sound-in policy n M (put_one k r M) more x q (h.at x q e)
