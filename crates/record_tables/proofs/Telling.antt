-- A map that has the records that rows give, as a row more is put into it.
use Rattle.std.proofs.Common.{◌≡◌, ℕ, List, [], ◌∷◌, ◌++◌, Bool, true, false, cond, Option, Some, None, refl, sym, ap, ◌∙◌}
use Rattle.std.proofs.lemmas.Bool.{or_parts}
use Rattle.std.specs.Prelude.{option_map, ◌||◌}
use Rattle.std.specs.Option.{option_or}
use Rattle.std.specs.Ordering.{eq_by_cmp, is_eq, nat_cmp}
use Rattle.std.specs.Cmp.Lexicographic.{slice_cmp}
use Rattle.circ_records.specs.Changes.{IsChanged, changed}
use Rattle.circ_records.specs.Keys.{key_cmp}
use Rattle.record_tables.specs.Read.{AreTold, no_rows, up_to}
use Rattle.circ_records.specs.Records.{Entries, record_at}
use Rattle.record_tables.specs.Rules.{has_row}
use Rattle.record_tables.specs.Tables.{Row, Rows, field}
use Rattle.record_tables.specs.Told.{closed_told, fee_told, fees_of, hold_in, item_told, item_with, loan_in, loans_of, patron_told, patron_with, queue_of, row_with}
use Rattle.circ_records.specs.Texts.{is_same}
use Rattle.circ_records.specs.declared.changes.ListChange.{ListChange}
use Rattle.circ_records.specs.declared.changes.ListChange.TheVariants as change
use Rattle.circ_records.specs.declared.key.Key.{Key}
use Rattle.circ_records.specs.declared.key.Key.TheVariants as key
use Rattle.circ_records.specs.declared.record.Record.{Record}
use Rattle.schema.specs.declared.table_name.TableName.TheVariants as table
use Rattle.record_tables.proofs.Lookups.{listed-more, none-of, or-none, row_with-new}
use Rattle.circ_records.proofs.SameTexts.{same-text, tie-text}

-- a record is put in under a new id
put : (f : List ℕ → Row → Record) (q : List ℕ) (row : Row) (before : List Row) (x : Record) (o : Option Record)
    → o ≡ option_map (f q) (row_with 0 q before) → has_row 0 (field 0 row) before ≡ false → x ≡ f (field 0 row) row
    → cond (is_eq (slice_cmp nat_cmp (field 0 row) q)) (Some x) o ≡ option_map (f q) (row_with 0 q (before ++ row ∷ []))
put f q row before x o was fresh is =
    ap (λ b. cond b (Some x) o) (tie-text (field 0 row) q)
    ∙ by (is_same q (field 0 row)) refl
    ∙ sym (ap (option_map (f q)) (row_with-new 0 q before row fresh))
  where
    by : (b : Bool) → is_same q (field 0 row) ≡ b
        → cond b (Some x) o ≡ option_map (f q) (cond b (Some row) (row_with 0 q before))
    by true e = ap Some (is ∙ ap (λ t. f t row) (sym (same-text q (field 0 row) e)))
    by false e = was

-- a record is put in at a key
abbrev pub IsPut : Key → Record → Entries → Entries → Type 0
IsPut k x old new = (q : Key) → record_at new q ≡ cond (eq_by_cmp key_cmp k q) (Some x) (record_at old q)

-- a part of a record that is made from rows changes with them
part : {X : Type 0} (g : X → Row → Record) (c : ListChange) (b : Bool) (x y z : X) (o : Option Row) (r : Option Record)
    → r ≡ option_map (g x) o → ((row : Row) → changed c (g x row) ≡ g y row) → z ≡ cond b y x
    → cond b (option_map (changed c) r) r ≡ option_map (g z) o
part g c true x y z None r was h is = ap (option_map (changed c)) was
part g c true x y z (Some row) r was h is =
    ap (option_map (changed c)) was ∙ ap Some (h row ∙ ap (λ w. g w row) (sym is))
part g c false x y z o r was h is = was ∙ ap (λ w. option_map (g w) o) (sym is)

-- a row of patrons more, whose id is new
pub tells-patron : (r : Rows) (before : List Row) (row : Row) (old new : Entries) (x : Record)
    → AreTold (up_to table.Patrons r before) old → has_row 0 (field 0 row) before ≡ false
    → x ≡ patron_told no_rows (field 0 row) row
    → IsPut (key.Patron (field 0 row)) x old new
    → AreTold (up_to table.Patrons r (before ++ row ∷ [])) new
tells-patron r before row old new x tells fresh is updates (key.Patron q) =
    updates (key.Patron q) ∙ put (patron_told no_rows) q row before x (record_at old (key.Patron q)) (tells (key.Patron q)) fresh is
tells-patron r before row old new x tells fresh is updates (key.Item q) = updates (key.Item q) ∙ tells (key.Item q)
tells-patron r before row old new x tells fresh is updates (key.Fee q) = updates (key.Fee q) ∙ tells (key.Fee q)

-- a row of items more, whose id is new
pub tells-item : (r : Rows) (before : List Row) (row : Row) (old new : Entries) (x : Record)
    → AreTold (up_to table.Items r before) old → has_row 0 (field 0 row) before ≡ false
    → x ≡ item_told no_rows (field 0 row) row
    → IsPut (key.Item (field 0 row)) x old new
    → AreTold (up_to table.Items r (before ++ row ∷ [])) new
tells-item r before row old new x tells fresh is updates (key.Patron q) = updates (key.Patron q) ∙ tells (key.Patron q)
tells-item r before row old new x tells fresh is updates (key.Item q) =
    updates (key.Item q) ∙ put (item_told no_rows) q row before x (record_at old (key.Item q)) (tells (key.Item q)) fresh is
tells-item r before row old new x tells fresh is updates (key.Fee q) = updates (key.Fee q) ∙ tells (key.Fee q)

-- a row of loans more, whose item is in none before
pub tells-loan : (r : Rows) (before : List Row) (row : Row) (old mid new : Entries)
    → AreTold (up_to table.Loans r before) old → has_row 1 (field 1 row) before ≡ false
    → IsChanged (key.Patron (field 0 row)) (change.Borrows (field 1 row)) old mid
    → IsChanged (key.Item (field 1 row)) (change.Lent (loan_in row)) mid new
    → AreTold (up_to table.Loans r (before ++ row ∷ [])) new
tells-loan r before row old mid new tells fresh first second (key.Fee q) =
    second (key.Fee q) ∙ first (key.Fee q) ∙ tells (key.Fee q)
tells-loan r before row old mid new tells fresh first second (key.Patron q) =
    second (key.Patron q) ∙ first (key.Patron q)
    ∙ ap (λ b. cond b (option_map (changed (change.Borrows (field 1 row)))
    (record_at old (key.Patron q))) (record_at old (key.Patron q))) (tie-text (field 0 row) q)
    ∙ part (λ loans. patron_with loans []) (change.Borrows (field 1 row)) (is_same q (field 0 row))
    (loans_of q before) (loans_of q before ++ field 1 row ∷ []) (loans_of q (before ++ row ∷ []))
    (row_with 0 q r.patrons) (record_at old (key.Patron q)) (tells (key.Patron q)) (λ x. refl) (listed-more (field 1) 0 q before row)
tells-loan r before row old mid new tells fresh first second (key.Item q) =
    second (key.Item q)
    ∙ ap (λ b. cond b (option_map (changed (change.Lent (loan_in row)))
    (record_at mid (key.Item q))) (record_at mid (key.Item q))) (tie-text (field 1 row) q)
    ∙ part (λ loan. item_with loan []) (change.Lent (loan_in row)) (is_same q (field 1 row))
    (row_with 1 q before) (Some row) (row_with 1 q (before ++ row ∷ []))
    (row_with 0 q r.items) (record_at mid (key.Item q)) (first (key.Item q) ∙ tells (key.Item q)) (λ x. refl) (row_with-new 1 q before row fresh)

-- a row of open fees more, whose id is new
pub tells-fee : (r : Rows) (before : List Row) (row : Row) (old mid new : Entries) (x : Record)
    → AreTold (up_to table.Fees r before) old → has_row 0 (field 0 row) before ≡ false → x ≡ fee_told row
    → IsPut (key.Fee (field 0 row)) x old mid
    → IsChanged (key.Patron (field 1 row)) (change.Owes (field 0 row)) mid new
    → AreTold (up_to table.Fees r (before ++ row ∷ [])) new
tells-fee r before row old mid new x tells fresh is updates then (key.Patron q) =
    then (key.Patron q)
    ∙ ap (λ b. cond b (option_map (changed (change.Owes (field 0 row)))
    (record_at mid (key.Patron q))) (record_at mid (key.Patron q))) (tie-text (field 1 row) q)
    ∙ part (λ fees. patron_with (loans_of q r.loans) fees) (change.Owes (field 0 row))
    (is_same q (field 1 row)) (fees_of q before) (fees_of q before ++ field 0 row ∷ [])
    (fees_of q (before ++ row ∷ []))
    (row_with 0 q r.patrons) (record_at mid (key.Patron q)) (updates (key.Patron q) ∙ tells (key.Patron q)) (λ x. refl) (listed-more (field 0) 1 q before row)
tells-fee r before row old mid new x tells fresh is updates then (key.Item q) =
    then (key.Item q) ∙ updates (key.Item q) ∙ tells (key.Item q)
tells-fee r before row old mid new x tells fresh is updates then (key.Fee q) =
    then (key.Fee q) ∙ updates (key.Fee q)
    ∙ put (λ id. fee_told) q row before x (record_at old (key.Fee q))
    (tells (key.Fee q) ∙ or-none (option_map fee_told (row_with 0 q before))) fresh is
    ∙ sym (or-none (option_map fee_told (row_with 0 q (before ++ row ∷ []))))

-- a row of closed fees more, whose id is new among all fees
pub tells-closed : (r : Rows) (before : List Row) (row : Row) (old new : Entries) (x : Record)
    → AreTold (up_to table.Closed r before) old → (has_row 0 (field 0 row) r.fees || has_row 0 (field 0 row) before) ≡ false → x ≡ closed_told row
    → IsPut (key.Fee (field 0 row)) x old new
    → AreTold (up_to table.Closed r (before ++ row ∷ [])) new
tells-closed r before row old new x tells fresh is updates (key.Patron q) =
    updates (key.Patron q) ∙ tells (key.Patron q)
tells-closed r before row old new x tells fresh is updates (key.Item q) = updates (key.Item q) ∙ tells (key.Item q)
tells-closed r before row old new x tells fresh is updates (key.Fee q) =
    updates (key.Fee q)
    ∙ ap (λ b. cond b (Some x) (record_at old (key.Fee q))) (tie-text (field 0 row) q)
    ∙ by (is_same q (field 0 row)) refl
    ∙ sym (ap (λ o. option_or (option_map fee_told (row_with 0 q r.fees))
    (option_map closed_told o)) (row_with-new 0 q before row apart.1))
  where
    apart : (has_row 0 (field 0 row) r.fees ≡ false) × (has_row 0 (field 0 row) before ≡ false)
    apart = or_parts (has_row 0 (field 0 row) r.fees) (has_row 0 (field 0 row) before) fresh

    by : (b : Bool) → is_same q (field 0 row) ≡ b
        → cond b (Some x) (record_at old (key.Fee q))
        ≡ option_or (option_map fee_told (row_with 0 q r.fees))
        (option_map closed_told (cond b (Some row) (row_with 0 q before)))
    by true e =
        let none : row_with 0 q r.fees ≡ None = ap (λ t. row_with 0 t r.fees) (same-text q (field 0 row) e) ∙ none-of (row_with 0 (field 0 row) r.fees) apart.0 in
        ap Some is ∙ sym (ap (λ o. option_or (option_map fee_told o) (Some (closed_told row))) none)
    by false e = tells (key.Fee q)

-- a row of holds more
pub tells-hold : (r : Rows) (before : List Row) (row : Row) (old new : Entries)
    → AreTold (up_to table.Holds r before) old
    → IsChanged (key.Item (field 0 row)) (change.Awaited (hold_in row)) old new
    → AreTold (up_to table.Holds r (before ++ row ∷ [])) new
tells-hold r before row old new tells then (key.Patron q) = then (key.Patron q) ∙ tells (key.Patron q)
tells-hold r before row old new tells then (key.Fee q) = then (key.Fee q) ∙ tells (key.Fee q)
tells-hold r before row old new tells then (key.Item q) =
    then (key.Item q)
    ∙ ap (λ b. cond b (option_map (changed (change.Awaited (hold_in row)))
    (record_at old (key.Item q))) (record_at old (key.Item q))) (tie-text (field 0 row) q)
    ∙ part (λ holds. item_with (row_with 1 q r.loans) holds) (change.Awaited (hold_in row))
    (is_same q (field 0 row)) (queue_of q before) (queue_of q before ++ hold_in row ∷ [])
    (queue_of q (before ++ row ∷ []))
    (row_with 0 q r.items) (record_at old (key.Item q)) (tells (key.Item q)) (λ x. refl) (listed-more hold_in 0 q before row)
