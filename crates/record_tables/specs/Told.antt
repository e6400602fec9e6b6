-- The records that the rows of the tables give (the profile of this project: the columns of the
-- tables).
use Rattle.std.specs.Prelude.{◌≡◌, ℕ, false, List, ◌++◌, Option, map, option_map, unwrap_or}
use Rattle.std.specs.FinMap.{entries, from_entries}
use Rattle.std.specs.List.{filter, find}
use Rattle.std.specs.Option.{option_or}
use Rattle.circ_policy.specs.Medias.{media_of_code}
use Rattle.circ_policy.specs.declared.media_type.MediaType.TheVariants as media
use Rattle.circ_records.specs.Keys.{key_cmp}
use Rattle.circ_records.specs.Records.{Entries}
use Rattle.record_tables.specs.Tables.{Row, Rows, field}
use Rattle.record_tables.specs.Values.{due_of, flag_of, hundredths, renewals_of}
use Rattle.circ_records.specs.FeeTypes.{fee_type_of}
use Rattle.circ_records.specs.Texts.{is_same}
use Rattle.circ_records.specs.declared.holds.Hold.{Hold}
use Rattle.circ_records.specs.declared.key.Key.{Key}
use Rattle.circ_records.specs.declared.key.Key.TheVariants as key
use Rattle.circ_records.specs.declared.record.FeeType.TheVariants as kind
use Rattle.circ_records.specs.declared.record.Loan.{Loan}
use Rattle.circ_records.specs.declared.record.Record.{Record}
use Rattle.circ_records.specs.declared.record.Record.TheVariants as record_of

-- the first row that has a text in a column
abbrev pub row_with : ℕ → List ℕ → List Row → Option Row
row_with column text rows = find (λ row. is_same text (field column row)) rows

-- all rows that have it there, in the order of the file
abbrev pub rows_with : ℕ → List ℕ → List Row → List Row
rows_with column text rows = filter (λ row. is_same text (field column row)) rows

-- PATRONS: id, name, class, blocked. A patron's loans and open fees are its rows of those tables,
-- in the order of the file

abbrev pub loans_of : List ℕ → List Row → List (List ℕ)
loans_of patron loans = map (field 1) (rows_with 0 patron loans)

abbrev pub fees_of : List ℕ → List Row → List (List ℕ)
fees_of patron fees = map (field 0) (rows_with 1 patron fees)

abbrev pub patron_with : List (List ℕ) → List (List ℕ) → Row → Record
patron_with loans fees row = record_of.Patron (record {
  name = field 1 row;
  class = field 2 row;
  blocked = unwrap_or (flag_of (field 3 row)) false;
  loans = loans;
  fees = fees;
})

abbrev pub patron_told : Rows → List ℕ → Row → Record
patron_told rows id row = patron_with (loans_of id rows.loans) (fees_of id rows.fees) row

-- ITEMS: id, title, media, location, properties. An item's loan is its row of loans (patron, item,
-- due, renewals), its queue its rows of holds (item, patron, pickup) in the order of the file

abbrev pub loan_in : Row → Loan
loan_in row =
    record {
      patron = field 0 row;
      due = unwrap_or (due_of (field 2 row)) 0;
      renewals = unwrap_or (renewals_of (field 3 row)) 0;
    }

abbrev pub hold_in : Row → Hold
hold_in row = record { patron = field 1 row; pickup = field 2 row }

abbrev pub queue_of : List ℕ → List Row → List Hold
queue_of item holds = map hold_in (rows_with 0 item holds)

abbrev pub item_with : Option Row → List Hold → Row → Record
item_with loan holds row = record_of.Item (record {
  title = field 1 row;
  media = unwrap_or (media_of_code (field 2 row)) media.Other;
  location = field 3 row;
  properties = field 4 row;
  loan = option_map loan_in loan;
  holds = holds;
})

abbrev pub item_told : Rows → List ℕ → Row → Record
item_told rows id row = item_with (row_with 1 id rows.loans) (queue_of id rows.holds) row

-- FEES: id, patron, type, amount, paid. CLOSED: id, patron, type, amount, all of which is paid

abbrev pub fee_told : Row → Record
fee_told row = record_of.Fee (record {
  patron = field 1 row;
  kind = unwrap_or (fee_type_of (field 2 row)) kind.Other;
  amount = hundredths (field 3 row);
  paid = hundredths (field 4 row);
})

abbrev pub closed_told : Row → Record
closed_told row = record_of.Fee (record {
  patron = field 1 row;
  kind = unwrap_or (fee_type_of (field 2 row)) kind.Other;
  amount = hundredths (field 3 row);
  paid = hundredths (field 3 row);
})

-- the record that the rows give at a key: that of the row with the key's id
abbrev pub told : Rows → Key → Option Record
told rows (key.Patron id) = option_map (patron_told rows id) (row_with 0 id rows.patrons)
told rows (key.Item id) = option_map (item_told rows id) (row_with 0 id rows.items)
told rows (key.Fee id) =
    option_or (option_map fee_told (row_with 0 id rows.fees))
    (option_map closed_told (row_with 0 id rows.closed))

-- rows give a map that has at each key the record that they give there
abbrev pub Tells : Rows → (Key → Option Record) → Type 0
Tells rows m = (k : Key) → told rows k ≡ m k

-- each row that gives a record, under its key
abbrev pub patron_entry : Rows → Row → Key × Record
patron_entry rows row = (key.Patron (field 0 row), patron_told rows (field 0 row) row)

abbrev pub item_entry : Rows → Row → Key × Record
item_entry rows row = (key.Item (field 0 row), item_told rows (field 0 row) row)

abbrev pub fee_entry : Row → Key × Record
fee_entry row = (key.Fee (field 0 row), fee_told row)

abbrev pub closed_entry : Row → Key × Record
closed_entry row = (key.Fee (field 0 row), closed_told row)

-- all of them
abbrev pub listed : Rows → Entries
listed rows =
    map (patron_entry rows) rows.patrons
    ++ (map (item_entry rows) rows.items
    ++ (map fee_entry rows.fees ++ map closed_entry rows.closed))

-- the map that the rows give, its keys rising
unfoldable pub entries_told : Rows → Entries
entries_told rows = entries (from_entries {R = key_cmp} (listed rows))
