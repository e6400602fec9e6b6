use Rattle.std.proofs.Common.{◌≡◌, ◌∙◌, ℕ, List, ◌∷◌, Option, Some, sym, ap}
use Rattle.std.specs.Prelude.{option_map}
use Rattle.csv_table.specs.Text.{Written, table_text, text_of, written}
use Rattle.result_report.specs.Report.{Row, answers_rows, passed_rows, report_rows}
use Rattle.schema.specs.Names.{answers_header, passed_header, report_header}
use Rattle.result_report.proofs.telling.Telling.finish.Goals as goal

-- the text of a table that is there
text : (h : Row) (rows : List Row) (t : Option Written) (items : List ℕ) → t ≡ Some (written h rows)
    → option_map text_of t ≡ Some items → items ≡ table_text (h ∷ rows)
text h rows t items is read =
    let both : Some items ≡ Some (table_text (h ∷ rows)) = sym read ∙ ap (option_map text_of) is in
    cc

pub returns : goal.returns
returns c lines tells =
    let t = c.args.self in record {
      answers = text answers_header (answers_rows lines) t.answers.table c.in_ok-finish.field-0.items tells.answers.text c.in_ok-finish.ensures;
      report = text report_header (report_rows lines) t.report.table c.in_ok-finish-2.field-0.items tells.report.text c.in_ok-finish-2.ensures;
      passed = text passed_header (passed_rows lines) t.passed.table c.in_ok-finish-3.field-0.items tells.passed.text c.in_ok-finish-3.ensures;
      sizes = λ i. record { answered = tells.answers.count i; passed = tells.passed.count i; differences = tells.report.count i };
    }
