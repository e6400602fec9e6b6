-- All rules that the tables of a base break, in the order in which a run looks for the first of
-- them (the profile of this project, base tables).
use Rattle.std.specs.Prelude.{ℕ, suc, List, [], ◌∷◌, ◌++◌, Option, Some, None, Result, Ok, Err}
use Rattle.csv_table.specs.Rows.{rows_under}
use Rattle.circ_policy.specs.Terms.{Terms}
use Rattle.record_tables.specs.Base.{holds_rows_of, own_rows, rule_of, rows_of}
use Rattle.record_tables.specs.Tables.{Row, Rows}
use Rattle.schema.specs.Texts.{Texts}
use Rattle.schema.specs.Names.{closed_header, fees_header, items_header, loans_header, patrons_header}
use Rattle.record_tables.specs.declared.fault.BaseError.{BaseError}
use Rattle.record_tables.specs.declared.fault.BaseError.TheVariants as error
use Rattle.circ_records.specs.declared.rule.BaseRule.{BaseRule}
use Rattle.schema.specs.declared.table_name.TableName.{TableName}
use Rattle.schema.specs.declared.table_name.TableName.TheVariants as table

-- row n of a table, with the first rule that it breaks, if it breaks one
abbrev pub row_fault : TableName → ℕ → Row → Option BaseRule → List BaseError
row_fault table n row None = []
row_fault table n row (Some rule) = error.Rule table n rule row ∷ []

-- From row n on, each row of a table that breaks a rule, with the first that it breaks. It is
-- judged after all rows before it, whether these break a rule themselves or not.
abbrev pub broken_rows_from : TableName → (List Row → Row → Option BaseRule) → ℕ → List Row
    → List Row → List BaseError
broken_rows_from table rule n before [] = []
broken_rows_from table rule n before (row ∷ rows) =
    row_fault table n row (rule before row)
    ++ broken_rows_from table rule (suc n) (before ++ row ∷ []) rows

-- the same of all its rows, counted from 1
abbrev pub broken_rows : TableName → (List Row → Row → Option BaseRule) → List Row → List BaseError
broken_rows table rule rows = broken_rows_from table rule 1 [] rows

-- the same of a table under a policy and before a journal that begins with a number. A row that
-- names a patron, an item or a loan finds it among all rows of that table, whether these break a
-- rule themselves or not.
abbrev pub all_broken_in : Terms → Option ℕ → TableName → Rows → List BaseError
all_broken_in policy first name rows =
    broken_rows name (rule_of policy first name rows) (own_rows name rows)

-- each row that breaks a rule, table by table
unfoldable pub all_broken_rows : Terms → Option ℕ → Rows → List BaseError
all_broken_rows policy first rows =
    all_broken_in policy first table.Patrons rows
    ++ (all_broken_in policy first table.Items rows
    ++ (all_broken_in policy first table.Loans rows
    ++ (all_broken_in policy first table.Fees rows
    ++ (all_broken_in policy first table.Closed rows
    ++ all_broken_in policy first table.Holds rows))))

-- a text that is no table under its header, by the table's name
abbrev pub text_fault : TableName → Option (List Row) → List BaseError
text_fault table None = error.Table table ∷ []
text_fault table (Some rows) = []

-- each text that is none
unfoldable pub no_tables : Texts → List BaseError
no_tables texts =
    text_fault table.Patrons (rows_under patrons_header texts.patrons)
    ++ (text_fault table.Items (rows_under items_header texts.items)
    ++ (text_fault table.Loans (rows_under loans_header texts.loans)
    ++ (text_fault table.Fees (rows_under fees_header texts.fees)
    ++ (text_fault table.Closed (rows_under closed_header texts.closed)
    ++ text_fault table.Holds (holds_rows_of texts.holds)))))

-- If a text is no table, just such texts: no row is judged. Else each row that breaks a rule.
abbrev pub broken_in : Terms → Option ℕ → Texts → Result Rows BaseError → List BaseError
broken_in policy first texts (Err fault) = no_tables texts
broken_in policy first texts (Ok rows) = all_broken_rows policy first rows

-- all that six texts break
unfoldable pub broken_rules : Terms → Texts → Option ℕ → List BaseError
broken_rules policy texts first = broken_in policy first texts (rows_of texts)
