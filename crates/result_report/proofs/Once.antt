-- Each line has a row in just one of answers and passed.
use Rattle.std.proofs.Common.{◌≡◌, ◌+◌, List, [], ◌∷◌, length, Option, Some, None, arith}
use Rattle.std.specs.List.{cons_option, filter_map}
use Rattle.std.specs.Option.{is_some}
use Rattle.journal_table.specs.Entry.{Entry}
use Rattle.read_set.specs.Plans.{readings_of}
use Rattle.sip_answer.specs.declared.answer.Answer.{Answer}
use Rattle.sip_reader.specs.Reading.{reading}
use Rattle.sip_reader.specs.declared.request.Reading.{Reading}
use Rattle.sip_reader.specs.declared.request.Reading.TheVariants as readings
use Rattle.result_report.specs.Report.{AreAnswers, Row, answer_row, is_answered, passed_row, line_results}
use Rattle.result_report.specs.Tables.{AreTexts}
use Rattle.result_report.specs.declared.texts.ResultTexts.{ResultTexts}

one-row : (line : Entry) (r : Reading) (a : Option Answer) (xs ys : List Row) → is_some a ≡ is_answered r
    → length (cons_option (answer_row (line, r, a)) xs) + length
    (cons_option (passed_row (line, r, a)) ys) ≡ length xs + length ys + 1
one-row line r (Some a) xs ys e = omega arith
one-row line (readings.Asked q) None xs ys e = cc
one-row line (readings.Passed p) None xs ys e = omega arith
one-row line readings.BadSum None xs ys e = cc
one-row line (readings.Unread w) None xs ys e = omega arith

rows : (lines : List Entry) (answers : List (Option Answer)) → AreAnswers (readings_of lines) answers
    → length (filter_map answer_row (line_results lines (readings_of lines) answers)) + length
    (filter_map passed_row (line_results lines (readings_of lines) answers)) ≡ length lines
rows [] answers e = omega arith
rows (line ∷ lines) [] e = cc
rows (line ∷ lines) (a ∷ answers) e =
    let head : is_some a ≡ is_answered (reading line.request) = cc in
    let rest : AreAnswers (readings_of lines) answers = cc in
    let left = line_results lines (readings_of lines) answers in
    let one = one-row line (reading line.request) a (filter_map answer_row left) (filter_map passed_row left) head in
    let more = rows lines answers rest in
    omega (arith, one, more)

pub each-once : (lines : List Entry) (answers : List (Option Answer)) (t : ResultTexts)
    → AreAnswers (readings_of lines) answers
    → AreTexts (line_results lines (readings_of lines) answers) t
    → t.sizes.answered + t.sizes.passed ≡ length lines
each-once lines answers t each line_results = rw line_results.sizes (rows lines answers each)
