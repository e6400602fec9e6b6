-- What is written of coherent records gives these records.
use Rattle.std.proofs.Common.{◌≡◌, ◌∙◌, ℕ, List, [], ◌∷◌, Bool, true, false, cond, Option, Some, None, map, refl, sym, ap, arith}
use Rattle.circ_records.proofs.SameTexts.{same-itself}
use Rattle.std.proofs.lemmas.Bool.{ltb-false, or_right}
use Rattle.std.specs.List.{cons_option, filter_map, flat_map}
use Rattle.std.specs.Option.{option_or}
use Rattle.std.specs.Prelude.{option_map, ◌||◌, ◌&&◌}
use Rattle.circ_policy.specs.Terms.{Terms}
use Rattle.circ_records.specs.Coherent.{AreOfKind, Coherent, as_fee, as_item, as_patron, has_id, is_lent_to, is_loan_of, is_owed_by}
use Rattle.circ_records.specs.Records.{AreRising, Entries, record_at}
use Rattle.record_tables.specs.Tables.{Row, field}
use Rattle.record_tables.specs.Told.{closed_told, fee_told, fees_of, hold_in, item_told, loans_of, patron_told, queue_of, row_with, rows_with, told}
use Rattle.record_tables.specs.Told as Tells
use Rattle.circ_records.specs.Texts.{is_same}
use Rattle.record_tables.specs.Written.{closed_row, closed_rows, fee_row, fee_rows, hold_rows, is_open, item_row, item_rows, loan_at, loan_in, loan_row, loan_rows, open_fee_at, open_fee_in, patron_row, patron_rows, queued, rows_telling}
use Rattle.circ_records.specs.declared.holds.Hold.{Hold}
use Rattle.circ_records.specs.declared.key.Key.{Key}
use Rattle.circ_records.specs.declared.key.Key.TheVariants as key
use Rattle.circ_records.specs.declared.record.Fee.{Fee}
use Rattle.circ_records.specs.declared.record.Item.{Item}
use Rattle.circ_records.specs.declared.record.Loan.{Loan}
use Rattle.circ_records.specs.declared.record.Patron.{Patron}
use Rattle.circ_records.specs.declared.record.Record.{Record}
use Rattle.circ_records.specs.declared.record.Record.TheVariants as record_of
use Rattle.record_tables.proofs.Entries.{given}
use Rattle.record_tables.proofs.Picked.{first-picked, head}
use Rattle.record_tables.proofs.ReadBack.{due-back, flag-back, hundredths-back, kind-back, media-back, renewals-back}
use Rattle.record_tables.proofs.WrittenRows.{borrower_of, closed-rows, debtor_of, fee-rows, item-rows, loan-rows, owners, patron-rows, patrons-fees, patrons-loans, queue-rows}

-- the first row that has a text in a column
pub first-row : (column : ℕ) (text : List ℕ) (rows : List Row)
    → row_with column text rows ≡ head (rows_with column text rows)
first-row column text rows = first-picked (λ (row : Row). is_same text (field column row)) rows

-- a list is the ids of its rows, where each of it has one
all-listed : (column : ℕ) (row_of : List ℕ → Option Row) (ids : List (List ℕ))
    → ((x : List ℕ) → has_id x ids ≡ true
    → (row : Row) × (row_of x ≡ Some row) × (field column row ≡ x))
    → map (field column) (filter_map row_of ids) ≡ ids
all-listed column row_of [] h = refl
all-listed column row_of (x ∷ xs) h =
    let (row, is, there) = h x (ap (λ b. b || has_id x xs) (same-itself x)) in
    ap (λ o. map (field column) (cons_option o (filter_map row_of xs))) is
    ∙ ap (λ y. y ∷ map (field column) (filter_map row_of xs)) there
    ∙ ap (λ ys. x ∷ ys) (all-listed column row_of xs (λ y has. h y (or_right (is_same y x) (has_id y xs) has)))

pub lent-item : (q : List ℕ) (o : Option Loan) → is_loan_of q o ≡ true → (l : Loan) × (o ≡ Some l)
lent-item q None e = cc
lent-item q (Some l) e = (l, refl)

lent : (q : List ℕ) (o : Option Record) → is_lent_to q (as_item o) ≡ true → (l : Loan) × (loan_in o ≡ Some l)
lent q None e = cc
lent q (Some (record_of.Patron p)) e = cc
lent q (Some (record_of.Item i)) e = lent-item q i.loan e
lent q (Some (record_of.Fee f)) e = cc

owed-fee : (f : Fee) (a b : Bool) → (a && b) ≡ true → (g : Fee) × (cond b (Some f) None ≡ Some g)
owed-fee f true true e = (f, refl)
owed-fee f true false e = cc
owed-fee f false b e = cc

owed : (q : List ℕ) (o : Option Record) → is_owed_by q (as_fee o) ≡ true → (f : Fee) × (open_fee_in o ≡ Some f)
owed q None e = cc
owed q (Some (record_of.Patron p)) e = cc
owed q (Some (record_of.Item i)) e = cc
owed q (Some (record_of.Fee f)) e = owed-fee f (is_same q f.patron) (is_open f) e

queue-back : (id : List ℕ) (holds : List Hold) → map hold_in (queued id holds) ≡ holds
queue-back id [] = refl
queue-back id (h ∷ hs) = ap (λ (rest : List Hold). h ∷ rest) (queue-back id hs)

module _ (policy : Terms) (n : ℕ) (es : Entries) (rising : AreRising es) (co : Coherent policy n es) (kinds : AreOfKind (record_at es)) where
  -- a patron's lists
  pub loans-back : (id : List ℕ) (p : Patron)
      → record_at es (key.Patron id) ≡ Some (record_of.Patron p)
      → loans_of id (flat_map (loan_rows es) es) ≡ p.loans
  loans-back id p at =
      ap (map (field 1)) (patrons-loans id es rising ∙ ap (given (loan_rows es) (key.Patron id)) at)
      ∙ all-listed 1 (λ x. option_map (loan_row id x) (loan_at es x)) p.loans each
    where
      each : (x : List ℕ) → has_id x p.loans ≡ true
          → (row : Row) × (option_map (loan_row id x) (loan_at es x) ≡ Some row) × (field 1 row ≡ x)
      each x has =
          let (l, is) = lent id (record_at es (key.Item x)) (sym ((co.patrons id p (ap as_patron at)).loans x) ∙ has) in
          (loan_row id x l, ap (option_map (loan_row id x)) is, refl)

  pub fees-back : (id : List ℕ) (p : Patron)
      → record_at es (key.Patron id) ≡ Some (record_of.Patron p)
      → fees_of id (flat_map (fee_rows es) es) ≡ p.fees
  fees-back id p at =
      ap (map (field 0)) (patrons-fees id es rising ∙ ap (given (fee_rows es) (key.Patron id)) at)
      ∙ all-listed 0 (λ x. option_map (fee_row id x) (open_fee_at es x)) p.fees each
    where
      each : (x : List ℕ) → has_id x p.fees ≡ true
          → (row : Row) × (option_map (fee_row id x) (open_fee_at es x) ≡ Some row)
          × (field 0 row ≡ x)
      each x has =
          let (f, is) = owed id (record_at es (key.Fee x)) (sym ((co.patrons id p (ap as_patron at)).fees x) ∙ has) in
          (fee_row id x f, ap (option_map (fee_row id x)) is, refl)

  patron-back : (id : List ℕ) (p : Patron)
      → record_at es (key.Patron id) ≡ Some (record_of.Patron p)
      → patron_told (rows_telling es) id (patron_row id p) ≡ record_of.Patron p
  unfolding rows_telling
  patron-back id p at = rw (flag-back p.blocked, loans-back id p at, fees-back id p at) refl

  told-patron : (id : List ℕ) → told (rows_telling es) (key.Patron id) ≡ record_at es (key.Patron id)
  unfolding rows_telling
  told-patron id = by (record_at es (key.Patron id)) refl
    where
      of : (o : Option Record) → record_at es (key.Patron id) ≡ o → option_map (patron_told (rows_telling es) id) (head (given patron_rows (key.Patron id) o)) ≡ o
      of None at = refl
      of (Some (record_of.Patron p)) at = ap Some (patron-back id p at)
      of (Some (record_of.Item i)) at = let no : false ≡ true = kinds (key.Patron id) (record_of.Item i) at in cc
      of (Some (record_of.Fee f)) at = let no : false ≡ true = kinds (key.Patron id) (record_of.Fee f) at in cc

      by : (o : Option Record) → record_at es (key.Patron id) ≡ o → told (rows_telling es) (key.Patron id) ≡ o
      by o at =
          ap (option_map (patron_told (rows_telling es) id)) (first-row 0 id (flat_map patron_rows es) ∙ ap head (patron-rows id es rising ∙ ap (given patron_rows (key.Patron id)) at))
          ∙ of o at

  -- an item's loan
  loan-told : (id : List ℕ) (i : Item) → record_at es (key.Item id) ≡ Some (record_of.Item i)
      → (o : Option Loan) → i.loan ≡ o
      → option_map Tells.loan_in
      (head (owners (λ q. cons_option (option_map (loan_row q id) o) [])
      (option_map (λ l. l.patron) o))) ≡ o
  loan-told id i at None is = refl
  loan-told id i at (Some l) is =
      let loan = (co.items id i (ap as_item at)).loan l is in
      let (year, month, day, real) = loan.due in
      rw (due-back l.due year month day real, renewals-back l.renewals loan.renewals) refl

  pub loan-back : (id : List ℕ) (i : Item) → record_at es (key.Item id) ≡ Some (record_of.Item i)
      → option_map Tells.loan_in (row_with 1 id (flat_map (loan_rows es) es)) ≡ i.loan
  loan-back id i at =
      ap (option_map Tells.loan_in)
      (first-row 1 id (flat_map (loan_rows es) es)
      ∙ ap head (loan-rows policy n es rising co kinds id)
      ∙ ap (λ (o : Option Record). head
      (owners (λ q. cons_option (option_map (loan_row q id) (loan_in o)) [])
      (borrower_of (as_item o)))) at)
      ∙ loan-told id i at i.loan refl

  item-back : (id : List ℕ) (i : Item) → record_at es (key.Item id) ≡ Some (record_of.Item i)
      → item_told (rows_telling es) id (item_row id i) ≡ record_of.Item i
  unfolding rows_telling
  item-back id i at =
      let queue : queue_of id (flat_map hold_rows es) ≡ i.holds = ap (map hold_in) (queue-rows id es rising ∙ ap (given hold_rows (key.Item id)) at) ∙ queue-back id i.holds in
      rw (media-back i.media, loan-back id i at, queue) refl

  told-item : (id : List ℕ) → told (rows_telling es) (key.Item id) ≡ record_at es (key.Item id)
  unfolding rows_telling
  told-item id = by (record_at es (key.Item id)) refl
    where
      of : (o : Option Record) → record_at es (key.Item id) ≡ o → option_map (item_told (rows_telling es) id) (head (given item_rows (key.Item id) o)) ≡ o
      of None at = refl
      of (Some (record_of.Item i)) at = ap Some (item-back id i at)
      of (Some (record_of.Patron p)) at = let no : false ≡ true = kinds (key.Item id) (record_of.Patron p) at in cc
      of (Some (record_of.Fee f)) at = let no : false ≡ true = kinds (key.Item id) (record_of.Fee f) at in cc

      by : (o : Option Record) → record_at es (key.Item id) ≡ o → told (rows_telling es) (key.Item id) ≡ o
      by o at =
          ap (option_map (item_told (rows_telling es) id)) (first-row 0 id (flat_map item_rows es) ∙ ap head (item-rows id es rising ∙ ap (given item_rows (key.Item id)) at))
          ∙ of o at

  -- a fee, open or paid in full
  open-back : (id : List ℕ) (f : Fee) → record_at es (key.Fee id) ≡ Some (record_of.Fee f)
      → fee_told (fee_row f.patron id f) ≡ record_of.Fee f
  open-back id f at =
      let fee = co.fees id f (ap as_fee at) in
      rw (kind-back f.kind, hundredths-back f.amount fee.amount, hundredths-back f.paid (omega (arith, fee.paid, fee.amount))) refl

  closed-back : (id : List ℕ) (f : Fee) → record_at es (key.Fee id) ≡ Some (record_of.Fee f)
      → is_open f ≡ false → closed_told (closed_row id f) ≡ record_of.Fee f
  closed-back id f at full =
      let fee = co.fees id f (ap as_fee at) in
      let paid : f.amount ≡ f.paid = omega (arith, fee.paid, ltb-false f.paid f.amount full) in
      rw (kind-back f.kind, hundredths-back f.amount fee.amount) (ap (λ m. record_of.Fee (record { patron = f.patron; kind = f.kind; amount = f.amount; paid = m })) paid)

  fee-told : (id : List ℕ) (f : Fee) → record_at es (key.Fee id) ≡ Some (record_of.Fee f) → (b : Bool) → is_open f ≡ b
      → option_or (option_map fee_told
      (head (owners (λ q. cons_option (option_map (fee_row q id) (cond b (Some f) None)) [])
      (cond b (Some f.patron) None))))
      (option_map closed_told (head (cond b [] (closed_row id f ∷ []))))
      ≡ Some (record_of.Fee f)
  fee-told id f at true is = ap Some (open-back id f at)
  fee-told id f at false is = ap Some (closed-back id f at is)

  told-fee : (id : List ℕ) → told (rows_telling es) (key.Fee id) ≡ record_at es (key.Fee id)
  unfolding rows_telling
  told-fee id = by (record_at es (key.Fee id)) refl
    where
      of : (o : Option Record) → record_at es (key.Fee id) ≡ o
          → option_or (option_map fee_told
          (head (owners (λ q. cons_option (option_map (fee_row q id) (open_fee_in o)) [])
          (debtor_of (as_fee o)))))
          (option_map closed_told (head (given closed_rows (key.Fee id) o)))
          ≡ o
      of None at = refl
      of (Some (record_of.Fee f)) at = fee-told id f at (is_open f) refl
      of (Some (record_of.Patron p)) at = let no : false ≡ true = kinds (key.Fee id) (record_of.Patron p) at in cc
      of (Some (record_of.Item i)) at = let no : false ≡ true = kinds (key.Fee id) (record_of.Item i) at in cc

      opens : row_with 0 id (flat_map (fee_rows es) es)
          ≡ head (owners (λ q. cons_option (option_map (fee_row q id) (open_fee_at es id)) [])
          (debtor_of (as_fee (record_at es (key.Fee id)))))
      opens = first-row 0 id (flat_map (fee_rows es) es) ∙ ap head (fee-rows policy n es rising co kinds id)

      closes : row_with 0 id (flat_map closed_rows es)
          ≡ head (given closed_rows (key.Fee id) (record_at es (key.Fee id)))
      closes = first-row 0 id (flat_map closed_rows es) ∙ ap head (closed-rows id es rising)

      by : (o : Option Record) → record_at es (key.Fee id) ≡ o → told (rows_telling es) (key.Fee id) ≡ o
      by o at =
          ap (λ (r : Option Row). option_or (option_map fee_told r) (option_map closed_told (row_with 0 id (flat_map closed_rows es)))) opens
          ∙ ap (λ (r : Option Row). option_or
          (option_map fee_told (head
          (owners (λ q. cons_option (option_map (fee_row q id) (open_fee_at es id)) [])
          (debtor_of (as_fee (record_at es (key.Fee id))))))) (option_map closed_told r)) closes
          ∙ ap (λ (o : Option Record). option_or
          (option_map fee_told (head
          (owners (λ q. cons_option (option_map (fee_row q id) (open_fee_in o)) [])
          (debtor_of (as_fee o)))))
          (option_map closed_told (head (given closed_rows (key.Fee id) o)))) at
          ∙ of o at

  -- at each key
  pub told-back : (k : Key) → told (rows_telling es) k ≡ record_at es k
  told-back (key.Patron id) = told-patron id
  told-back (key.Item id) = told-item id
  told-back (key.Fee id) = told-fee id
