-- The three result tables while they are written.
use Rattle.std.specs.Prelude.{List}
use Rattle.result_report.specs.Report.{LineResult, answer_row, answers_rows, passed_row, passed_rows, report_row, report_rows}
use Rattle.schema.specs.Names.{answers_header, passed_header, report_header}
use Rattle.result_report.specs.Listings.{Gains, HasRoomFor, Lists}
use Rattle.result_report.specs.declared.telling.Telling.{Telling}

-- to each one more row can be added
pub record HasRoom (t : Telling) : Type 0 where
  pub answers : HasRoomFor t.answers
  pub report : HasRoomFor t.report
  pub passed : HasRoomFor t.passed

-- one line more is written
pub record Gained (line : LineResult) (old new : Telling) : Type 0 where
  pub answers : Gains (answer_row line) old.answers new.answers
  pub report : Gains (report_row line) old.report new.report
  pub passed : Gains (passed_row line) old.passed new.passed

-- these lines are written
pub record Tells (lines : List LineResult) (t : Telling) : Type 0 where
  pub answers : Lists answers_header (answers_rows lines) t.answers
  pub report : Lists report_header (report_rows lines) t.report
  pub passed : Lists passed_header (passed_rows lines) t.passed
