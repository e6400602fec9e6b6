-- Which of the written rows have a text in a column.
use Rattle.std.proofs.Common.{◌≡◌, ◌∙◌, ℕ, List, [], ◌∷◌, Bool, true, false, cond, Option, Some, None, refl, sym, ap}
use Rattle.circ_records.proofs.SameTexts.{same-itself}
use Rattle.std.specs.List.{AllByRecursion, cons_option, flat_map}
use Rattle.std.specs.Ordering.{is_eq}
use Rattle.std.specs.Prelude.{is_some, option_map, ◌&&◌, unwrap_or}
use Rattle.circ_policy.specs.Terms.{Terms}
use Rattle.circ_records.specs.Coherent.{AreOfKind, Coherent, as_fee, as_item, as_patron, is_lent_to, is_loan_of, is_owed_by}
use Rattle.circ_records.specs.Keys.{key_cmp}
use Rattle.circ_records.specs.Records.{AreRising, Entries, record_at}
use Rattle.record_tables.specs.Tables.{Row, field}
use Rattle.record_tables.specs.Told.{rows_with}
use Rattle.circ_records.specs.Texts.{is_same}
use Rattle.record_tables.specs.Written.{closed_row, closed_rows, fee_row, fee_rows, hold_rows, is_open, item_rows, listed_fees, listed_loans, loan_at, loan_row, loan_rows, open_fee_at, patron_rows, queued}
use Rattle.circ_records.specs.declared.holds.Hold.{Hold}
use Rattle.circ_records.specs.declared.key.Key.{Key}
use Rattle.circ_records.specs.declared.key.Key.TheVariants as key
use Rattle.circ_records.specs.declared.record.Fee.{Fee}
use Rattle.circ_records.specs.declared.record.Item.{Item}
use Rattle.circ_records.specs.declared.record.Loan.{Loan}
use Rattle.circ_records.specs.declared.record.Record.{Record}
use Rattle.circ_records.specs.declared.record.Record.TheVariants as record_of
use Rattle.std.proofs.lemmas.Map.Text.{is_eq-slice_cmp}
use Rattle.record_tables.proofs.Entries.{by-fee, by-item, by-patron, given, gives-at, gives-nothing}
use Rattle.record_tables.proofs.Picked.{Carries, IsKind, once, picked, picked-each, same-back}

-- KEYS OF ONE KIND

pub patrons-kind : IsKind key.Patron
patrons-kind a b = sym (is_eq-slice_cmp a b)

pub items-kind : IsKind key.Item
items-kind a b = sym (is_eq-slice_cmp a b)

pub fees-kind : IsKind key.Fee
fees-kind a b = sym (is_eq-slice_cmp a b)

-- ROWS THAT HAVE THE ID OF THEIR ENTRY

patron_rows-carry : Carries key.Patron 0 patron_rows
patron_rows-carry =
    by-patron (λ x. AllByRecursion (λ row. key.Patron (field 0 row) ≡ x.0)) _ (λ x. tt) (λ id p. (refl, tt))

item_rows-carry : Carries key.Item 0 item_rows
item_rows-carry = by-item (λ x. AllByRecursion (λ row. key.Item (field 0 row) ≡ x.0)) _ (λ x. tt) (λ id i. (refl, tt))

closed-carry : (id : List ℕ) (f : Fee) (b : Bool)
    → AllByRecursion (λ row. key.Fee (field 0 row) ≡ key.Fee id) (cond b [] (closed_row id f ∷ []))
closed-carry id f true = tt
closed-carry id f false = (refl, tt)

closed_rows-carry : Carries key.Fee 0 closed_rows
closed_rows-carry = by-fee (λ x. AllByRecursion (λ row. key.Fee (field 0 row) ≡ x.0)) _ (λ x. tt) (λ id f. closed-carry id f (is_open f))

holds-carry : (id : List ℕ) (holds : List Hold)
    → AllByRecursion (λ row. key.Item (field 0 row) ≡ key.Item id) (queued id holds)
holds-carry id [] = tt
holds-carry id (h ∷ hs) = (refl, holds-carry id hs)

hold_rows-carry : Carries key.Item 0 hold_rows
hold_rows-carry =
    by-item (λ x. AllByRecursion (λ row. key.Item (field 0 row) ≡ x.0)) _ (λ x. tt) (λ id i. holds-carry id i.holds)

one-carries : {A : Type 0} (P : Row → Type 0) (f : A → Row) (o : Option A) (rest : List Row)
    → ((x : A) → P (f x)) → AllByRecursion P rest
    → AllByRecursion P (cons_option (option_map f o) rest)
one-carries P f None rest h all = all
one-carries P f (Some x) rest h all = (h x, all)

loans-carry : (es : Entries) (id : List ℕ) (ids : List (List ℕ))
    → AllByRecursion (λ row. key.Patron (field 0 row) ≡ key.Patron id) (listed_loans es id ids)
loans-carry es id [] = tt
loans-carry es id (x ∷ xs) = one-carries (λ row. key.Patron (field 0 row) ≡ key.Patron id) (loan_row id x) (loan_at es x) (listed_loans es id xs) (λ l. refl) (loans-carry es id xs)

loan_rows-carry : (es : Entries) → Carries key.Patron 0 (loan_rows es)
loan_rows-carry es = by-patron (λ x. AllByRecursion (λ row. key.Patron (field 0 row) ≡ x.0)) _ (λ x. tt) (λ id p. loans-carry es id p.loans)

fees-carry : (es : Entries) (id : List ℕ) (ids : List (List ℕ))
    → AllByRecursion (λ row. key.Patron (field 1 row) ≡ key.Patron id) (listed_fees es id ids)
fees-carry es id [] = tt
fees-carry es id (x ∷ xs) = one-carries (λ row. key.Patron (field 1 row) ≡ key.Patron id) (fee_row id x) (open_fee_at es x) (listed_fees es id xs) (λ f. refl) (fees-carry es id xs)

fee_rows-carry : (es : Entries) → Carries key.Patron 1 (fee_rows es)
fee_rows-carry es = by-patron (λ x. AllByRecursion (λ row. key.Patron (field 1 row) ≡ x.0)) _ (λ x. tt) (λ id p. fees-carry es id p.fees)

-- THE ROWS OF AN ID

pub patron-rows : (id : List ℕ) (es : Entries) → AreRising es
    → rows_with 0 id (flat_map patron_rows es)
    ≡ given patron_rows (key.Patron id) (record_at es (key.Patron id))
patron-rows = picked key.Patron patrons-kind 0 patron_rows patron_rows-carry

pub item-rows : (id : List ℕ) (es : Entries) → AreRising es
    → rows_with 0 id (flat_map item_rows es)
    ≡ given item_rows (key.Item id) (record_at es (key.Item id))
item-rows = picked key.Item items-kind 0 item_rows item_rows-carry

pub closed-rows : (id : List ℕ) (es : Entries) → AreRising es
    → rows_with 0 id (flat_map closed_rows es)
    ≡ given closed_rows (key.Fee id) (record_at es (key.Fee id))
closed-rows = picked key.Fee fees-kind 0 closed_rows closed_rows-carry

pub queue-rows : (id : List ℕ) (es : Entries) → AreRising es
    → rows_with 0 id (flat_map hold_rows es)
    ≡ given hold_rows (key.Item id) (record_at es (key.Item id))
queue-rows = picked key.Item items-kind 0 hold_rows hold_rows-carry

pub patrons-loans : (id : List ℕ) (es : Entries) → AreRising es
    → rows_with 0 id (flat_map (loan_rows es) es)
    ≡ given (loan_rows es) (key.Patron id) (record_at es (key.Patron id))
patrons-loans id es = picked key.Patron patrons-kind 0 (loan_rows es) (loan_rows-carry es) id es

pub patrons-fees : (id : List ℕ) (es : Entries) → AreRising es
    → rows_with 1 id (flat_map (fee_rows es) es)
    ≡ given (fee_rows es) (key.Patron id) (record_at es (key.Patron id))
patrons-fees id es = picked key.Patron patrons-kind 1 (fee_rows es) (fee_rows-carry es) id es

-- THE ROW OF WHAT A PATRON OWNS: lists name each thing once, in the list of its owner alone

-- whether a patron is the owner of something, where it has one
abbrev pub is_owner : List ℕ → Option (List ℕ) → Bool
is_owner q None = false
is_owner q (Some owner) = is_same q owner

abbrev pub owners : (List ℕ → List Row) → Option (List ℕ) → List Row
owners row_of None = []
owners row_of (Some owner) = row_of owner

-- what all patrons' lists give of one thing
owned : (es : Entries) (rows : Key × Record → List Row) (column : ℕ) (id : List ℕ)
    (row_of : List ℕ → List Row) (owner : Option (List ℕ)) → AreRising es
    → ((q : List ℕ) (r : Record) → record_at es (key.Patron q) ≡ Some r
    → rows_with column id (rows (key.Patron q, r)) ≡ cond (is_owner q owner) (row_of q) [])
    → ((q : List ℕ) (r : Record) → rows (key.Item q, r) ≡ []) → ((q : List ℕ) (r : Record) → rows (key.Fee q, r) ≡ [])
    → ((q : List ℕ) → owner ≡ Some q → (r : Record) × (record_at es (key.Patron q) ≡ Some r))
    → rows_with column id (flat_map rows es) ≡ owners row_of owner
owned es rows column id row_of None rising each items fees known =
    picked-each column rows id es ∙ gives-nothing (λ x. rows_with column id (rows x)) es rising none
  where
    none : (x : Key × Record) → record_at es x.0 ≡ Some x.1 → rows_with column id (rows x) ≡ []
    none (key.Patron q, r) at = each q r at
    none (key.Item q, r) at = ap (rows_with column id) (items q r)
    none (key.Fee q, r) at = ap (rows_with column id) (fees q r)
owned es rows column id row_of (Some owner) rising each items fees known =
    let (r, at) = known owner refl in
    picked-each column rows id es
    ∙ gives-at (λ x. rows_with column id (rows x)) (key.Patron owner) es rising others
    ∙ ap (given (λ x. rows_with column id (rows x)) (key.Patron owner)) at
    ∙ each owner r at
    ∙ ap (λ b. cond b (row_of owner) []) (same-itself owner)
  where
    others : (x : Key × Record) → record_at es x.0 ≡ Some x.1
        → is_eq (key_cmp (key.Patron owner) x.0) ≡ false → rows_with column id (rows x) ≡ []
    others (key.Patron q, r) at apart =
        each q r at ∙ ap (λ b. cond b (row_of q) []) (same-back q owner ∙ patrons-kind owner q ∙ apart)
    others (key.Item q, r) at apart = ap (rows_with column id) (items q r)
    others (key.Fee q, r) at apart = ap (rows_with column id) (fees q r)

-- a patron that is known has a record
pub known-record : (o : Option Record) → is_some (as_patron o) ≡ true → (r : Record) × (o ≡ Some r)
known-record None e = cc
known-record (Some r) e = (r, refl)

says-loan : (q x : List ℕ) (row : Row) (o : Option Loan) → option_map (loan_row q x) o ≡ Some row → field 1 row ≡ x
says-loan q x row None is = cc
says-loan q x row (Some l) is = ap (λ o. field 1 (unwrap_or o [])) (sym is)

says-fee : (q x : List ℕ) (row : Row) (o : Option Fee) → option_map (fee_row q x) o ≡ Some row → field 0 row ≡ x
says-fee q x row None is = cc
says-fee q x row (Some f) is = ap (λ o. field 0 (unwrap_or o [])) (sym is)

-- who has an item on loan, and who owes a fee
abbrev pub borrower_of : Option Item → Option (List ℕ)
borrower_of None = None
borrower_of (Some item) = option_map (λ l. l.patron) item.loan

abbrev pub debtor_of : Option Fee → Option (List ℕ)
debtor_of None = None
debtor_of (Some fee) = cond (is_open fee) (Some fee.patron) None

lent-by : (q : List ℕ) (o : Option Loan) → is_loan_of q o ≡ is_owner q (option_map (λ l. l.patron) o)
lent-by q None = refl
lent-by q (Some l) = refl

lent-to : (q : List ℕ) (o : Option Item) → is_lent_to q o ≡ is_owner q (borrower_of o)
lent-to q None = refl
lent-to q (Some item) = lent-by q item.loan

and-cond : (a b : Bool) (q owner : List ℕ) → is_same q owner ≡ a → (a && b) ≡ is_owner q (cond b (Some owner) None)
and-cond true true q owner e = sym e
and-cond true false q owner e = refl
and-cond false true q owner e = sym e
and-cond false false q owner e = refl

owed-by : (q : List ℕ) (o : Option Fee) → is_owed_by q o ≡ is_owner q (debtor_of o)
owed-by q None = refl
owed-by q (Some f) = and-cond (is_same q f.patron) (is_open f) q f.patron refl

module _ (policy : Terms) (n : ℕ) (es : Entries) (rising : AreRising es) (co : Coherent policy n es) (kinds : AreOfKind (record_at es)) where
  -- the row of an item's loan is in the list of who has it, and in no other
  pub loan-rows : (id : List ℕ) → rows_with 1 id (flat_map (loan_rows es) es)
      ≡ owners (λ q. cons_option (option_map (loan_row q id) (loan_at es id)) [])
      (borrower_of (as_item (record_at es (key.Item id))))
  loan-rows id =
      owned es (loan_rows es) 1 id (λ q. cons_option (option_map (loan_row q id) (loan_at es id)) []) (borrower_of (as_item (record_at es (key.Item id)))) rising each (λ q r. refl) (λ q r. refl)
      (λ q is. known q (as_item (record_at es (key.Item id))) refl is)
    where
      each : (q : List ℕ) (r : Record) → record_at es (key.Patron q) ≡ Some r
          → rows_with 1 id (loan_rows es (key.Patron q, r))
          ≡ cond (is_owner q (borrower_of (as_item (record_at es (key.Item id)))))
          (cons_option (option_map (loan_row q id) (loan_at es id)) []) []
      each q (record_of.Patron p) at =
          let patron = co.patrons q p (ap as_patron at) in
          once 1 (λ x. option_map (loan_row q x) (loan_at es x)) (λ x row is. says-loan q x row (loan_at es x) is) id p.loans patron.loans_once
          ∙ ap (λ b. cond b (cons_option (option_map (loan_row q id) (loan_at es id)) []) [])
          (patron.loans id ∙ lent-to q (as_item (record_at es (key.Item id))))
      each q (record_of.Item i) at = let no : false ≡ true = kinds (key.Patron q) (record_of.Item i) at in cc
      each q (record_of.Fee f) at = let no : false ≡ true = kinds (key.Patron q) (record_of.Fee f) at in cc

      loan-known : (q : List ℕ) (i : Item) (o : Option Loan)
          → as_item (record_at es (key.Item id)) ≡ Some i → i.loan ≡ o
          → option_map (λ l. l.patron) o ≡ Some q
          → (r : Record) × (record_at es (key.Patron q) ≡ Some r)
      loan-known q i None at is owner = cc
      loan-known q i (Some l) at is owner =
          let same : l.patron ≡ q = ap (λ o. unwrap_or o []) owner in
          rw (← same) (known-record (record_at es (key.Patron l.patron)) ((co.items id i at).loan l is).patron)

      known : (q : List ℕ) (o : Option Item) → as_item (record_at es (key.Item id)) ≡ o
          → borrower_of o ≡ Some q → (r : Record) × (record_at es (key.Patron q) ≡ Some r)
      known q None at owner = cc
      known q (Some i) at owner = loan-known q i i.loan at refl owner

  -- the row of an open fee is in the list of who owes it, and in no other
  pub fee-rows : (id : List ℕ) → rows_with 0 id (flat_map (fee_rows es) es)
      ≡ owners (λ q. cons_option (option_map (fee_row q id) (open_fee_at es id)) [])
      (debtor_of (as_fee (record_at es (key.Fee id))))
  fee-rows id =
      owned es (fee_rows es) 0 id (λ q. cons_option (option_map (fee_row q id) (open_fee_at es id)) []) (debtor_of (as_fee (record_at es (key.Fee id)))) rising each (λ q r. refl) (λ q r. refl)
      (λ q is. known q (as_fee (record_at es (key.Fee id))) refl is)
    where
      each : (q : List ℕ) (r : Record) → record_at es (key.Patron q) ≡ Some r
          → rows_with 0 id (fee_rows es (key.Patron q, r))
          ≡ cond (is_owner q (debtor_of (as_fee (record_at es (key.Fee id)))))
          (cons_option (option_map (fee_row q id) (open_fee_at es id)) []) []
      each q (record_of.Patron p) at =
          let patron = co.patrons q p (ap as_patron at) in
          once 0 (λ x. option_map (fee_row q x) (open_fee_at es x)) (λ x row is. says-fee q x row (open_fee_at es x) is) id p.fees patron.fees_once
          ∙ ap (λ b. cond b (cons_option (option_map (fee_row q id) (open_fee_at es id)) []) [])
          (patron.fees id ∙ owed-by q (as_fee (record_at es (key.Fee id))))
      each q (record_of.Item i) at = let no : false ≡ true = kinds (key.Patron q) (record_of.Item i) at in cc
      each q (record_of.Fee f) at = let no : false ≡ true = kinds (key.Patron q) (record_of.Fee f) at in cc

      debtor : (q : List ℕ) (f : Fee) (b : Bool) → as_fee (record_at es (key.Fee id)) ≡ Some f
          → cond b (Some f.patron) None ≡ Some q
          → (r : Record) × (record_at es (key.Patron q) ≡ Some r)
      debtor q f true at owner =
          let same : f.patron ≡ q = ap (λ o. unwrap_or o []) owner in
          rw (← same) (known-record (record_at es (key.Patron f.patron)) (co.fees id f at).patron)
      debtor q f false at owner = cc

      known : (q : List ℕ) (o : Option Fee) → as_fee (record_at es (key.Fee id)) ≡ o
          → debtor_of o ≡ Some q → (r : Record) × (record_at es (key.Patron q) ≡ Some r)
      known q None at owner = cc
      known q (Some f) at owner = debtor q f (is_open f) at owner
