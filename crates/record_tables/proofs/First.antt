-- The first of the list of broken rules.
use Rattle.std.proofs.Common.{◌≡◌, ℕ, suc, List, [], ◌∷◌, ◌++◌, Some, None, Option, Result, Ok, Err, refl, sym, ap, ◌∙◌}
use Rattle.std.specs.Prelude.{option_map}
use Rattle.std.specs.List.{slice_get}
use Rattle.std.specs.Option.{option_or}
use Rattle.std.specs.Result.{result_err}
use Rattle.csv_table.specs.Rows.{rows_under}
use Rattle.circ_policy.specs.Terms.{Terms}
use Rattle.record_tables.specs.Base.{base_of, first_broken, holds_rows_of, rows_of, table_rows, unless_broken, ◌>>=◌}
use Rattle.circ_records.specs.Records.{Entries}
use Rattle.record_tables.specs.Rules.{broken, broken_from, closed_rule, fee_rule, hold_rule, item_rule, loan_rule, patron_rule}
use Rattle.record_tables.specs.Tables.{Row, Rows}
use Rattle.schema.specs.Texts.{Texts}
use Rattle.schema.specs.Names.{closed_header, fees_header, items_header, loans_header, patrons_header}
use Rattle.record_tables.specs.Told.{entries_told}
use Rattle.record_tables.specs.declared.fault.BaseError.{BaseError}
use Rattle.record_tables.specs.declared.fault.BaseError.TheVariants as error
use Rattle.circ_records.specs.declared.rule.BaseRule.{BaseRule}
use Rattle.schema.specs.declared.table_name.TableName.{TableName}
use Rattle.schema.specs.declared.table_name.TableName.TheVariants as table
use Rattle.record_tables.specs.AllBroken.{all_broken_rows, broken_in, broken_rows, broken_rows_from, broken_rules, no_tables, row_fault, text_fault}
use Rattle.record_tables.specs.Laws.{FirstIsTheFault}

first-of-both : (xs ys : List BaseError) → slice_get (xs ++ ys) 0 ≡ option_or (slice_get xs 0) (slice_get ys 0)
first-of-both [] ys = refl
first-of-both (x ∷ xs) ys = refl

first-of-row : (table : TableName) (n : ℕ) (row : Row) (o : Option BaseRule)
    → slice_get (row_fault table n row o) 0 ≡ option_map (λ r. error.Rule table n r row) o
first-of-row table n row None = refl
first-of-row table n row (Some rule) = refl

-- of the rows of a table
first-from : (table : TableName) (rule : List Row → Row → Option BaseRule) (n : ℕ) (before rows : List Row)
    → slice_get (broken_rows_from table rule n before rows) 0 ≡ broken_from table rule n before rows
first-from table rule n before [] = refl
first-from table rule n before (row ∷ rows) =
    first-of-both (row_fault table n row (rule before row)) (broken_rows_from table rule (suc n) (before ++ row ∷ []) rows)
    ∙ ap (λ o. option_or o (slice_get
    (broken_rows_from table rule (suc n) (before ++ row ∷ []) rows) 0))
    (first-of-row table n row (rule before row))
    ∙ ap (option_or (option_map (λ r. error.Rule table n r row) (rule before row)))
    (first-from table rule (suc n) (before ++ row ∷ []) rows)

-- of one table and those after it
then-first : (table : TableName) (rule : List Row → Row → Option BaseRule) (rows : List Row)
    (rest : List BaseError) (o : Option BaseError) → slice_get rest 0 ≡ o
    → slice_get (broken_rows table rule rows ++ rest) 0 ≡ option_or (broken table rule rows) o
then-first table rule rows rest o is =
    first-of-both (broken_rows table rule rows) rest
    ∙ ap (λ a. option_or a (slice_get rest 0)) (first-from table rule 1 [] rows)
    ∙ ap (option_or (broken table rule rows)) is

-- of the rows of all tables
first-of-rows : (policy : Terms) (first : Option ℕ) (rows : Rows)
    → slice_get (all_broken_rows policy first rows) 0 ≡ first_broken policy first rows
unfolding all_broken_rows first_broken
first-of-rows policy first rows =
    then-first table.Patrons (patron_rule policy) rows.patrons _ _
    (then-first table.Items (item_rule policy) rows.items _ _
    (then-first table.Loans (loan_rule rows.patrons rows.items) rows.loans _ _
    (then-first table.Fees (fee_rule first rows.patrons) rows.fees _ _
    (then-first table.Closed (closed_rule first rows.patrons rows.fees) rows.closed _ _
    (first-from table.Holds (hold_rule rows.patrons rows.items rows.loans) 1 [] rows.holds)))))

-- texts of tables, one after the other
abbrev pub text-faults : Option (List Row) → Option (List Row) → Option (List Row)
    → Option (List Row) → Option (List Row) → Option (List Row) → List BaseError
text-faults p i l f c h = text_fault table.Patrons p ++ (text_fault table.Items i ++ (text_fault table.Loans l ++ (text_fault table.Fees f ++ (text_fault table.Closed c ++ text_fault table.Holds h))))

abbrev pub all-rows : Option (List Row) → Option (List Row) → Option (List Row) → Option (List Row)
    → Option (List Row) → Option (List Row) → Result Rows BaseError
all-rows p i l f c h = do
  patrons ← table_rows table.Patrons p
  items ← table_rows table.Items i
  loans ← table_rows table.Loans l
  fees ← table_rows table.Fees f
  closed ← table_rows table.Closed c
  holds ← table_rows table.Holds h
  Ok (record { patrons = patrons; items = items; loans = loans; fees = fees; closed = closed; holds = holds })

first-text : (p i l f c h : Option (List Row))
    → slice_get (text-faults p i l f c h) 0 ≡ result_err (all-rows p i l f c h)
first-text None i l f c h = refl
first-text (Some p) None l f c h = refl
first-text (Some p) (Some i) None f c h = refl
first-text (Some p) (Some i) (Some l) None c h = refl
first-text (Some p) (Some i) (Some l) (Some f) None h = refl
first-text (Some p) (Some i) (Some l) (Some f) (Some c) None = refl
first-text (Some p) (Some i) (Some l) (Some f) (Some c) (Some h) = refl

-- of the texts that are no tables
pub first-of-texts : (texts : Texts) → slice_get (no_tables texts) 0 ≡ result_err (rows_of texts)
unfolding no_tables rows_of
first-of-texts texts =
    first-text (rows_under patrons_header texts.patrons) (rows_under items_header texts.items) (rows_under loans_header texts.loans)
    (rows_under fees_header texts.fees) (rows_under closed_header texts.closed) (holds_rows_of texts.holds)

fault-alone : (o : Option BaseError) (entries : Entries) → result_err (unless_broken o entries) ≡ o
fault-alone None entries = refl
fault-alone (Some e) entries = refl

by-rows : (policy : Terms) (texts : Texts) (first : Option ℕ) (r : Result Rows BaseError) → rows_of texts ≡ r
    → slice_get (broken_in policy first texts r) 0
    ≡ result_err (r >>= λ rows. unless_broken (first_broken policy first rows) (entries_told rows))
by-rows policy texts first (Ok rows) is =
    first-of-rows policy first rows ∙ sym (fault-alone (first_broken policy first rows) (entries_told rows))
by-rows policy texts first (Err e) is = first-of-texts texts ∙ ap result_err is

pub first-is-the-fault : FirstIsTheFault
unfolding broken_rules base_of
first-is-the-fault policy texts first = by-rows policy texts first (rows_of texts) refl
