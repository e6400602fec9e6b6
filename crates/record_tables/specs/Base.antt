-- The base that tables give, or why they give none.
use Rattle.std.specs.Prelude.{◌≡◌, ℕ, List, [], ◌∷◌, Option, Some, None, Result, Ok, Err}
use Rattle.std.specs.Option.{option_or}
use Rattle.csv_table.specs.Rows.{rows_under}
use Rattle.circ_policy.specs.Terms.{Terms}
use Rattle.circ_records.specs.Records.{Entries}
use Rattle.record_tables.specs.Rules.{broken, closed_rule, fee_rule, hold_rule, item_rule, loan_rule, patron_rule}
use Rattle.record_tables.specs.Tables.{Row, Rows}
use Rattle.schema.specs.Texts.{Texts}
use Rattle.schema.specs.Names.{closed_header, fees_header, holds_header, items_header, loans_header, patrons_header}
use Rattle.record_tables.specs.Told.{entries_told}
use Rattle.record_tables.specs.declared.fault.BaseError.{BaseError}
use Rattle.record_tables.specs.declared.fault.BaseError.TheVariants as error
use Rattle.circ_records.specs.declared.rule.BaseRule.{BaseRule}
use Rattle.schema.specs.declared.table_name.TableName.{TableName}
use Rattle.schema.specs.declared.table_name.TableName.TheVariants as table

infixl 10 ◌>>=◌
abbrev pub ◌>>=◌ : {A B : Type 0} → Result A BaseError → (A → Result B BaseError)
    → Result B BaseError
(Ok x) >>= f = f x
(Err e) >>= f = Err e

-- the rows of a table, where csv takes it and its header is this one
abbrev pub table_rows : TableName → Option (List Row) → Result (List Row) BaseError
table_rows name None = Err (error.Table name)
table_rows name (Some rows) = Ok rows

-- the rows of a table of holds: no bytes at all count as the header alone
abbrev pub holds_rows_of : List ℕ → Option (List Row)
holds_rows_of [] = Some []
holds_rows_of (b ∷ text) = rows_under holds_header (b ∷ text)

-- the rows of the six tables, or the first table that has none
unfoldable pub rows_of : Texts → Result Rows BaseError
rows_of texts = do
  patrons ← table_rows table.Patrons (rows_under patrons_header texts.patrons)
  items ← table_rows table.Items (rows_under items_header texts.items)
  loans ← table_rows table.Loans (rows_under loans_header texts.loans)
  fees ← table_rows table.Fees (rows_under fees_header texts.fees)
  closed ← table_rows table.Closed (rows_under closed_header texts.closed)
  holds ← table_rows table.Holds (holds_rows_of texts.holds)
  Ok (record { patrons = patrons; items = items; loans = loans; fees = fees; closed = closed; holds = holds })

-- the rows of one table
abbrev pub own_rows : TableName → Rows → List Row
own_rows table.Patrons rows = rows.patrons
own_rows table.Items rows = rows.items
own_rows table.Loans rows = rows.loans
own_rows table.Fees rows = rows.fees
own_rows table.Closed rows = rows.closed
own_rows table.Holds rows = rows.holds

-- the rule by which a row of a table is judged after the rows before it
abbrev pub rule_of : Terms → Option ℕ → TableName → Rows → List Row → Row → Option BaseRule
rule_of policy first table.Patrons rows = patron_rule policy
rule_of policy first table.Items rows = item_rule policy
rule_of policy first table.Loans rows = loan_rule rows.patrons rows.items
rule_of policy first table.Fees rows = fee_rule first rows.patrons
rule_of policy first table.Closed rows = closed_rule first rows.patrons rows.fees
rule_of policy first table.Holds rows = hold_rule rows.patrons rows.items rows.loans

-- the first rule that the rows of a table break
abbrev pub broken_in : Terms → Option ℕ → TableName → Rows → Option BaseError
broken_in policy first name rows = broken name (rule_of policy first name rows) (own_rows name rows)

-- the first rule that the rows break, table by table and row by row, before a journal that begins
-- with a number
unfoldable pub first_broken : Terms → Option ℕ → Rows → Option BaseError
first_broken policy first rows =
    option_or (broken_in policy first table.Patrons rows)
    (option_or (broken_in policy first table.Items rows)
    (option_or (broken_in policy first table.Loans rows)
    (option_or (broken_in policy first table.Fees rows)
    (option_or (broken_in policy first table.Closed rows)
    (broken_in policy first table.Holds rows)))))

abbrev pub unless_broken : Option BaseError → Entries → Result Entries BaseError
unless_broken (Some e) entries = Err e
unless_broken None entries = Ok entries

-- the base that the tables give under a policy and before a journal that begins with a number
unfoldable pub base_of : Terms → Texts → Option ℕ → Result Entries BaseError
base_of policy texts first = do
  rows ← rows_of texts
  unless_broken (first_broken policy first rows) (entries_told rows)

-- a fault is the one that is due, unless memory ran out
abbrev pub Fails : {A : Type 0} → BaseError → Result A BaseError → Type 0
Fails error.Memory due = Unit {0}
Fails (error.Table name) due = due ≡ Err (error.Table name)
Fails (error.Rule name row rule values) due = due ≡ Err (error.Rule name row rule values)

-- what was given is what is due, unless memory ran out
abbrev pub Gives : {A : Type 0} → Result A BaseError → Result A BaseError → Type 0
Gives (Ok x) due = due ≡ Ok x
Gives (Err e) due = Fails e due
