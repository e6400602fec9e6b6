-- The tables of a map, as they are written (the profile of this project, base and final tables).
-- The keys of a map rise: patrons, then items, then fees, each by id. So rows entry by entry are in
-- the written order.
use Rattle.std.specs.Prelude.{ℕ, Bool, List, [], ◌∷◌, Option, Some, None, map, option_map, decimal, nat_lt, if◌then◌else◌}
use Rattle.std.specs.List.{filter_map, flat_map}
use Rattle.csv_table.specs.Text.{table_text}
use Rattle.sip_reader.specs.Amounts.{amount_text}
use Rattle.circ_policy.specs.Medias.{media_code}
use Rattle.circ_records.specs.FeeTypes.{fee_type_code}
use Rattle.circ_records.specs.Records.{Entries, record_at}
use Rattle.record_tables.specs.RowTexts.{day_text, flag_text}
use Rattle.record_tables.specs.Tables.{Row, Rows}
use Rattle.schema.specs.Texts.{Texts}
use Rattle.schema.specs.Names.{patrons_header, items_header, loans_header, fees_header, closed_header, holds_header}
use Rattle.circ_records.specs.declared.holds.Hold.{Hold}
use Rattle.circ_records.specs.declared.key.Key.{Key}
use Rattle.circ_records.specs.declared.key.Key.TheVariants as key
use Rattle.circ_records.specs.declared.record.Fee.{Fee}
use Rattle.circ_records.specs.declared.record.Item.{Item}
use Rattle.circ_records.specs.declared.record.Loan.{Loan}
use Rattle.circ_records.specs.declared.record.Patron.{Patron}
use Rattle.circ_records.specs.declared.record.Record.{Record}
use Rattle.circ_records.specs.declared.record.Record.TheVariants as record_of

-- whether something of a fee is still to be paid
abbrev pub is_open : Fee → Bool
is_open fee = nat_lt fee.paid fee.amount

-- the row of a patron
abbrev pub patron_row : List ℕ → Patron → Row
patron_row id patron = id ∷ patron.name ∷ patron.class ∷ flag_text patron.blocked ∷ []

-- the row of an item
abbrev pub item_row : List ℕ → Item → Row
item_row id item = id ∷ item.title ∷ media_code item.media ∷ item.location ∷ item.properties ∷ []

-- the row of a patron's loan of an item
abbrev pub loan_row : List ℕ → List ℕ → Loan → Row
loan_row patron item loan = patron ∷ item ∷ day_text loan.due ∷ decimal loan.renewals ∷ []

-- the row of a patron's open fee
abbrev pub fee_row : List ℕ → List ℕ → Fee → Row
fee_row patron id fee =
    id ∷ patron ∷ fee_type_code fee.kind ∷ amount_text fee.amount ∷ amount_text fee.paid ∷ []

-- the row of a fee that is paid in full
abbrev pub closed_row : List ℕ → Fee → Row
closed_row id fee = id ∷ fee.patron ∷ fee_type_code fee.kind ∷ amount_text fee.amount ∷ []

-- the row of a position in an item's queue
abbrev pub hold_row : List ℕ → Hold → Row
hold_row item hold = item ∷ hold.patron ∷ hold.pickup ∷ []

-- the loan of the record at an item's key: a record of another kind than its key's counts as none
abbrev pub loan_in : Option Record → Option Loan
loan_in (Some (record_of.Item item)) = item.loan
loan_in (Some (record_of.Patron patron)) = None
loan_in (Some (record_of.Fee fee)) = None
loan_in None = None

-- a fee, where it is open
abbrev pub open_alone : Fee → Option Fee
open_alone fee = if is_open fee then Some fee else None

-- the fee of the record at a fee's key, where it is open
abbrev pub open_fee_in : Option Record → Option Fee
open_fee_in (Some (record_of.Fee fee)) = open_alone fee
open_fee_in (Some (record_of.Patron patron)) = None
open_fee_in (Some (record_of.Item item)) = None
open_fee_in None = None

-- the loan that a map has of an item, and the open fee that it has by an id
abbrev pub loan_at : Entries → List ℕ → Option Loan
loan_at entries id = loan_in (record_at entries (key.Item id))

abbrev pub open_fee_at : Entries → List ℕ → Option Fee
open_fee_at entries id = open_fee_in (record_at entries (key.Fee id))

-- the rows of a list of loans of a patron, in its order
abbrev pub listed_loans : Entries → List ℕ → List (List ℕ) → List Row
listed_loans entries patron ids =
    filter_map (λ id. option_map (loan_row patron id) (loan_at entries id)) ids

-- the rows of a list of open fees of a patron, in its order
abbrev pub listed_fees : Entries → List ℕ → List (List ℕ) → List Row
listed_fees entries patron ids =
    filter_map (λ id. option_map (fee_row patron id) (open_fee_at entries id)) ids

-- the rows of a queue, in its order
abbrev pub queued : List ℕ → List Hold → List Row
queued item holds = map (hold_row item) holds

-- the row of a fee, where it is paid in full
abbrev pub closed_alone : List ℕ → Fee → List Row
closed_alone id fee = if is_open fee then [] else closed_row id fee ∷ []

-- What an entry of a map has in a table. A record of another kind than its key's has no row.
abbrev pub of_patron : (List ℕ → Patron → List Row) → Key × Record → List Row
of_patron rows (key.Patron id, record_of.Patron patron) = rows id patron
of_patron rows (k, r) = []

abbrev pub of_item : (List ℕ → Item → List Row) → Key × Record → List Row
of_item rows (key.Item id, record_of.Item item) = rows id item
of_item rows (k, r) = []

abbrev pub of_fee : (List ℕ → Fee → List Row) → Key × Record → List Row
of_fee rows (key.Fee id, record_of.Fee fee) = rows id fee
of_fee rows (k, r) = []

abbrev pub patron_rows : Key × Record → List Row
patron_rows = of_patron (λ id patron. patron_row id patron ∷ [])

abbrev pub item_rows : Key × Record → List Row
item_rows = of_item (λ id item. item_row id item ∷ [])

abbrev pub loan_rows : Entries → Key × Record → List Row
loan_rows entries = of_patron (λ id patron. listed_loans entries id patron.loans)

abbrev pub fee_rows : Entries → Key × Record → List Row
fee_rows entries = of_patron (λ id patron. listed_fees entries id patron.fees)

abbrev pub closed_rows : Key × Record → List Row
closed_rows = of_fee closed_alone

abbrev pub hold_rows : Key × Record → List Row
hold_rows = of_item (λ id item. queued id item.holds)

-- the rows of a map, in the order in which they are written
unfoldable pub rows_telling : Entries → Rows
rows_telling entries = record {
  patrons = flat_map patron_rows entries;
  items = flat_map item_rows entries;
  loans = flat_map (loan_rows entries) entries;
  fees = flat_map (fee_rows entries) entries;
  closed = flat_map closed_rows entries;
  holds = flat_map hold_rows entries;
}

-- the texts of the tables with these rows, as csv prints them
abbrev pub printed : Rows → Texts
printed rows = record {
  patrons = table_text (patrons_header ∷ rows.patrons);
  items = table_text (items_header ∷ rows.items);
  loans = table_text (loans_header ∷ rows.loans);
  fees = table_text (fees_header ∷ rows.fees);
  closed = table_text (closed_header ∷ rows.closed);
  holds = table_text (holds_header ∷ rows.holds);
}

-- the tables of a map
abbrev pub tables_of : Entries → Texts
tables_of entries = printed (rows_telling entries)
