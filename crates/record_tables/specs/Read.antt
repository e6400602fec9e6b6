-- What the parts of the reading cite.
use Rattle.std.specs.Prelude.{◌≡◌, ℕ, true, List, [], Option, Some, IsSome, Result, Err, unwrap_or}
use Rattle.std.specs.BTreeSet.{BTreeSet, contains}
use Rattle.std.specs.Cmp.Lexicographic.{slice_cmp}
use Rattle.std.specs.Ordering.{nat_cmp, ordering_then}
use Rattle.std.specs.declared.cmp.Ordering.{Ordering}
use Rattle.csv_table.specs.Rows.{rows_under}
use Rattle.csv_table.specs.declared.TableError.{TableError}
use Rattle.csv_table.specs.declared.TableError.TheVariants as refusal
use Rattle.record_tables.specs.Base.{holds_rows_of, rows_of, table_rows}
use Rattle.circ_records.specs.Records.{Entries, record_at}
use Rattle.record_tables.specs.Rules.{has_closed_values, has_fee_texts, has_fee_values, has_hold, has_hold_texts, has_loan_texts, has_loan_values}
use Rattle.record_tables.specs.Tables.{Row, Rows, field}
use Rattle.schema.specs.Names.{closed_header, fees_header, items_header, loans_header, patrons_header}
use Rattle.schema.specs.Texts.{texts_of}
use Rattle.record_tables.specs.Told.{closed_told, fee_told, hold_in, loan_in, told}
use Rattle.record_tables.specs.declared.fault.BaseError.{BaseError}
use Rattle.record_tables.specs.declared.fault.BaseError.TheVariants as error
use Rattle.record_tables.specs.declared.fees.FeeRow.{FeeRow}
use Rattle.circ_records.specs.declared.holds.Hold.{Hold}
use Rattle.circ_records.specs.declared.key.Key.{Key}
use Rattle.record_tables.specs.declared.loans.LoanRow.{LoanRow}
use Rattle.circ_records.specs.declared.record.Record.TheVariants as record_of
use Rattle.schema.specs.declared.table_name.TableName.{TableName}
use Rattle.schema.specs.declared.table_name.TableName.TheVariants as table
use Rattle.schema.specs.declared.tables.Tables.{Tables}

-- what is left of a table that is read row by row: how many rows came before, how many bytes are
-- left at most, and the rows in them, where the whole is a table
pub record Left : Type 0 where
  pub table : TableName
  pub count : ℕ
  pub size : ℕ
  pub rows : Option (List Row)

-- the rows of a text that is a table
abbrev pub some_rows : Option (List Row) → List Row
some_rows rows = unwrap_or rows []

-- the rows of one of the texts, where it is a table
abbrev pub text_rows : TableName → Tables → Option (List Row)
text_rows table.Patrons t = rows_under patrons_header t.patrons.items
text_rows table.Items t = rows_under items_header t.items.items
text_rows table.Loans t = rows_under loans_header t.loans.items
text_rows table.Fees t = rows_under fees_header t.fees.items
text_rows table.Closed t = rows_under closed_header t.closed.items
text_rows table.Holds t = holds_rows_of t.holds.items

-- the rows of the texts that are tables
abbrev pub rows_in : Tables → Rows
rows_in t = record {
  patrons = some_rows (rows_under patrons_header t.patrons.items);
  items = some_rows (rows_under items_header t.items.items);
  loans = some_rows (rows_under loans_header t.loans.items);
  fees = some_rows (rows_under fees_header t.fees.items);
  closed = some_rows (rows_under closed_header t.closed.items);
  holds = some_rows (holds_rows_of t.holds.items);
}

-- all texts are tables
pub record AreTables (t : Tables) : Type 0 where
  pub patrons : IsSome (rows_under patrons_header t.patrons.items)
  pub items : IsSome (rows_under items_header t.items.items)
  pub loans : IsSome (rows_under loans_header t.loans.items)
  pub fees : IsSome (rows_under fees_header t.fees.items)
  pub closed : IsSome (rows_under closed_header t.closed.items)
  pub holds : IsSome (holds_rows_of t.holds.items)

-- Why the reading stopped, unless memory ran out: what was due is no table, or a row breaks a rule.
-- What is after that row wasn't read, so the rule is the fault that is due if the whole text is a
-- table.
abbrev pub Stops : {A : Type 0} → BaseError → Result A BaseError → Type 0 → Option BaseError
    → Type 0
Stops error.Memory due AreRead fault = Unit {0}
Stops (error.Table t) due AreRead fault = due ≡ Err (error.Table t)
Stops (error.Rule t row rule values) due AreRead fault =
    AreRead → fault ≡ Some (error.Rule t row rule values)

-- the same of one table, and of all
abbrev pub StopsIn : BaseError → TableName → Tables → Option BaseError → Type 0
StopsIn e name t fault =
    Stops e (table_rows name (text_rows name t)) (IsSome (text_rows name t)) fault

abbrev pub StopsAll : BaseError → Tables → Option BaseError → Type 0
StopsAll e t fault = Stops e (rows_of (texts_of t)) (AreTables t) fault

-- the rows of the tables before one, and these of its own: the reading goes table by table
abbrev pub up_to : TableName → Rows → List Row → Rows
up_to table.Patrons rows own =
    record { patrons = own; items = []; loans = []; fees = []; closed = []; holds = [] }
up_to table.Items rows own =
    record { patrons = rows.patrons; items = own; loans = []; fees = []; closed = []; holds = [] }
up_to table.Loans rows own =
    record {
      patrons = rows.patrons;
      items = rows.items;
      loans = own;
      fees = [];
      closed = [];
      holds = [];
    }
up_to table.Fees rows own =
    record {
      patrons = rows.patrons;
      items = rows.items;
      loans = rows.loans;
      fees = own;
      closed = [];
      holds = [];
    }
up_to table.Closed rows own =
    record {
      patrons = rows.patrons;
      items = rows.items;
      loans = rows.loans;
      fees = rows.fees;
      closed = own;
      holds = [];
    }
up_to table.Holds rows own =
    record {
      patrons = rows.patrons;
      items = rows.items;
      loans = rows.loans;
      fees = rows.fees;
      closed = rows.closed;
      holds = own;
    }

abbrev pub no_rows : Rows
no_rows = record { patrons = []; items = []; loans = []; fees = []; closed = []; holds = [] }

-- entries have the records that rows give
abbrev pub AreTold : Rows → Entries → Type 0
AreTold rows entries = (k : Key) → record_at entries k ≡ told rows k

-- a row breaks no rule whatever the records are, and this is what it says
abbrev pub SaysLoan : LoanRow → Row → Type 0
SaysLoan said row =
    (has_loan_texts row ≡ true) × (has_loan_values row ≡ true) × (said.item ≡ field 1 row)
    × (said.loan ≡ loan_in row)

abbrev pub SaysFee : FeeRow → Row → Type 0
SaysFee said row =
    (has_fee_texts row ≡ true) × (has_fee_values row ≡ true) × (said.id ≡ field 0 row)
    × (record_of.Fee said.fee ≡ fee_told row)

abbrev pub SaysClosed : FeeRow → Row → Type 0
SaysClosed said row =
    (has_fee_texts row ≡ true) × (has_closed_values row ≡ true) × (said.id ≡ field 0 row)
    × (record_of.Fee said.fee ≡ closed_told row)

abbrev pub SaysHold : List ℕ → Hold → Row → Type 0
SaysHold item hold row = (has_hold_texts row ≡ true) × (item ≡ field 0 row) × (hold ≡ hold_in row)

-- a table that csv refuses, or one with another header, is named
abbrev pub table_refusal : TableName → TableError → BaseError
table_refusal name refusal.Table = error.Table name
table_refusal name refusal.Memory = error.Memory

-- the order of pairs of ids
abbrev pub pair_cmp : (List ℕ × List ℕ) → (List ℕ × List ℕ) → Ordering
pair_cmp p q = ordering_then (slice_cmp nat_cmp p.0 q.0) (slice_cmp nat_cmp p.1 q.1)

-- a set has the pairs of item and patron of the rows of holds
abbrev pub AreWaiting : List Row → BTreeSet (List ℕ × List ℕ) → Type 0
AreWaiting holds waiting =
    (item patron : List ℕ) → contains pair_cmp waiting (item, patron) ≡ has_hold item patron holds
