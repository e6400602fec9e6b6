-- The tables of results of lines, as csv prints them.
use Rattle.std.specs.Prelude.{◌≡◌, [], ◌∷◌, List, length}
use Rattle.csv_table.specs.Text.{table_text}
use Rattle.result_report.specs.Report.{LineResult, answers_rows, passed_rows, report_rows}
use Rattle.schema.specs.Names.{answers_header, passed_header, report_header}
use Rattle.result_report.specs.declared.texts.Heads.{Heads}
use Rattle.result_report.specs.declared.texts.Sizes.{Sizes}
use Rattle.result_report.specs.declared.texts.ResultTexts.{ResultTexts}

-- the numbers of rows
abbrev pub sizes_of : List LineResult → Sizes
sizes_of lines = record {
  answered = length (answers_rows lines);
  passed = length (passed_rows lines);
  differences = length (report_rows lines);
}

-- the result tables of lines
pub record AreTexts (lines : List LineResult) (t : ResultTexts) : Type 0 where
  pub answers : t.answers.items ≡ table_text (answers_header ∷ answers_rows lines)
  pub report : t.report.items ≡ table_text (report_header ∷ report_rows lines)
  pub passed : t.passed.items ≡ table_text (passed_header ∷ passed_rows lines)
  pub sizes : t.sizes ≡ sizes_of lines

-- the numbers of bytes of the tables' headers
pub record AreHeads (h : Heads) : Type 0 where
  pub answers : h.answers ≡ length (table_text (answers_header ∷ []))
  pub report : h.report ≡ length (table_text (report_header ∷ []))
  pub passed : h.passed ≡ length (table_text (passed_header ∷ []))
