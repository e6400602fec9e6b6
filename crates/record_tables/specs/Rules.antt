-- The rules of a base: the first that a row breaks, and the first row that breaks one. A row comes
-- after the rows before it in its table and after the tables before its own.
use Rattle.std.specs.Prelude.{ℕ, suc, Bool, false, List, [], ◌∷◌, ◌++◌, length, Option, Some, None, is_some, not, option_map, option_and_then, ◌&&◌, ◌||◌, nat_le, nat_lt, if◌then◌else◌}
use Rattle.std.specs.List.{list_any}
use Rattle.std.specs.Option.{option_or}
use Rattle.circ_policy.specs.Medias.{media_of_code}
use Rattle.circ_policy.specs.Policy.{media_of}
use Rattle.circ_policy.specs.Terms.{Terms}
use Rattle.sip_reader.specs.Amounts.{amount_of}
use Rattle.sip_reader.specs.Texts.{is_id, is_text}
use Rattle.circ_records.specs.MadeFees.{is_taken}
use Rattle.record_tables.specs.Tables.{Row, field}
use Rattle.record_tables.specs.Told.{row_with, rows_with}
use Rattle.record_tables.specs.Values.{due_of, flag_of, hundredths, renewals_of}
use Rattle.circ_records.specs.FeeTypes.{fee_type_of}
use Rattle.circ_records.specs.Texts.{is_same}
use Rattle.record_tables.specs.declared.fault.BaseError.{BaseError}
use Rattle.record_tables.specs.declared.fault.BaseError.TheVariants as error
use Rattle.circ_records.specs.declared.rule.BaseRule.{BaseRule}
use Rattle.circ_records.specs.declared.rule.BaseRule.TheVariants as rule
use Rattle.circ_records.specs.declared.holds.TheConstants.{QUEUE_MAX}
use Rattle.schema.specs.declared.table_name.TableName.{TableName}
use Rattle.circ_records.specs.Classes.{has_class}

-- whether some row has a text in a column
abbrev pub has_row : ℕ → List ℕ → List Row → Bool
has_row column text rows = is_some (row_with column text rows)

-- PATRONS: id, name, class, blocked

-- the rule `text`: ids and texts are such
unfoldable pub has_patron_texts : Row → Bool
has_patron_texts row = is_id (field 0 row) && (is_text (field 1 row) && is_text (field 2 row))

-- the first rule that a row of patrons breaks
unfoldable pub patron_rule : Terms → List Row → Row → Option BaseRule
patron_rule policy before row =
    if not (has_patron_texts row) then Some rule.Text
    else if not (is_some (flag_of (field 3 row))) then Some rule.Value
    else if has_row 0 (field 0 row) before then Some rule.Double
    else if not (has_class policy (field 2 row)) then Some rule.Class
    else None

-- ITEMS: id, title, media, location, properties

unfoldable pub has_item_texts : Row → Bool
has_item_texts row =
    is_id (field 0 row) && is_text (field 1 row) && is_text (field 2 row) && is_text (field 3 row)
    && is_text (field 4 row)

-- the rule `media`: the policy has a media type with this code
unfoldable pub has_media : Terms → List ℕ → Bool
has_media policy code = is_some (option_and_then (media_of policy) (media_of_code code))

-- the first rule that a row of items breaks
unfoldable pub item_rule : Terms → List Row → Row → Option BaseRule
item_rule policy before row =
    if not (has_item_texts row) then Some rule.Text
    else if has_row 0 (field 0 row) before then Some rule.Double
    else if not (has_media policy (field 2 row)) then Some rule.Media
    else None

-- LOANS: patron, item, due, renewals

unfoldable pub has_loan_texts : Row → Bool
has_loan_texts row = is_id (field 0 row) && is_id (field 1 row)

-- the rule `value`: a day, and a number
unfoldable pub has_loan_values : Row → Bool
has_loan_values row = is_some (due_of (field 2 row)) && is_some (renewals_of (field 3 row))

-- the first rule that a row of loans breaks
unfoldable pub loan_rule : List Row → List Row → List Row → Row → Option BaseRule
loan_rule patrons items before row =
    if not (has_loan_texts row) then Some rule.Text
    else if not (has_loan_values row) then Some rule.Value
    else if not (has_row 0 (field 0 row) patrons) then Some rule.Patron
    else if not (has_row 0 (field 1 row) items) then Some rule.Item
    else if has_row 1 (field 1 row) before then Some rule.Lent
    else None

-- FEES: id, patron, type, amount, paid. CLOSED: the same without paid

unfoldable pub has_fee_texts : Row → Bool
has_fee_texts row = is_id (field 0 row) && is_id (field 1 row)

-- the rule `value` of a closed fee: a fee type and an amount
unfoldable pub has_closed_values : Row → Bool
has_closed_values row = is_some (fee_type_of (field 2 row)) && is_some (amount_of (field 3 row))

-- the rule `value` of an open fee: what is paid is an amount too
unfoldable pub has_fee_values : Row → Bool
has_fee_values row = has_closed_values row && is_some (amount_of (field 4 row))

-- the rule `paid`: what is paid is below the amount
unfoldable pub is_owing : Row → Bool
is_owing row = nat_lt (hundredths (field 4 row)) (hundredths (field 3 row))

-- the first rule that a row of open fees breaks, before a journal that begins with a number
unfoldable pub fee_rule : Option ℕ → List Row → List Row → Row → Option BaseRule
fee_rule first patrons before row =
    if not (has_fee_texts row) then Some rule.Text
    else if not (has_fee_values row) then Some rule.Value
    else if has_row 0 (field 0 row) before then Some rule.Double
    else if not (has_row 0 (field 1 row) patrons) then Some rule.Patron
    else if not (is_owing row) then Some rule.Paid
    else if is_taken first (field 0 row) then Some rule.Number
    else None

-- the first rule that a row of closed fees breaks: its id came neither among the open fees nor
-- before
unfoldable pub closed_rule : Option ℕ → List Row → List Row → List Row → Row → Option BaseRule
closed_rule first patrons fees before row =
    if not (has_fee_texts row) then Some rule.Text
    else if not (has_closed_values row) then Some rule.Value
    else if has_row 0 (field 0 row) fees || has_row 0 (field 0 row) before then Some rule.Double
    else if not (has_row 0 (field 1 row) patrons) then Some rule.Patron
    else if is_taken first (field 0 row) then Some rule.Number
    else None

-- HOLDS: item, patron, pickup

unfoldable pub has_hold_texts : Row → Bool
has_hold_texts row = is_id (field 0 row) && (is_id (field 1 row) && is_text (field 2 row))

-- the rule `double`: the patron waits for the item already
abbrev pub has_hold : List ℕ → List ℕ → List Row → Bool
has_hold item patron rows =
    list_any (λ row. is_same item (field 0 row) && is_same patron (field 1 row)) rows

abbrev pub is_of_patron : List ℕ → Option Row → Bool
is_of_patron patron None = false
is_of_patron patron (Some loan) = is_same patron (field 0 loan)

-- the rule `borrower`: the item's loan is the patron's
unfoldable pub is_borrower : List ℕ → List ℕ → List Row → Bool
is_borrower patron item loans = is_of_patron patron (row_with 1 item loans)

-- the rule `queue`: 9,999 wait for the item already
unfoldable pub is_full : List ℕ → List Row → Bool
is_full item holds = nat_le QUEUE_MAX (length (rows_with 0 item holds))

-- the first rule that a row of holds breaks
unfoldable pub hold_rule : List Row → List Row → List Row → List Row → Row → Option BaseRule
hold_rule patrons items loans before row =
    if not (has_hold_texts row) then Some rule.Text
    else if has_hold (field 0 row) (field 1 row) before then Some rule.Double
    else if not (has_row 0 (field 1 row) patrons) then Some rule.Patron
    else if not (has_row 0 (field 0 row) items) then Some rule.Item
    else if is_borrower (field 1 row) (field 0 row) loans then Some rule.Borrower
    else if is_full (field 0 row) before then Some rule.Queue
    else None

-- the first row of a table, from row n on, that breaks a rule after the rows before it
abbrev pub broken_from : TableName → (List Row → Row → Option BaseRule) → ℕ → List Row → List Row
    → Option BaseError
broken_from table rule n before [] = None
broken_from table rule n before (row ∷ rows) =
    option_or (option_map (λ r. error.Rule table n r row) (rule before row))
    (broken_from table rule (suc n) (before ++ row ∷ []) rows)

-- the first row of a table that breaks a rule, counted from 1
abbrev pub broken : TableName → (List Row → Row → Option BaseRule) → List Row → Option BaseError
broken table rule rows = broken_from table rule 1 [] rows
