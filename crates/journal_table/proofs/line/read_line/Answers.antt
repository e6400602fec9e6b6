use Rattle.std.proofs.Common.{◌≡◌, ◌∙◌, Ok, ap, sym, rules}
use Rattle.csv.specs.Records.{fields_of}
use Rattle.journal_table.specs.Entry.{Entry}
use Rattle.journal_table.specs.Journal.{line_at}
use Rattle.journal_table.specs.Layout.{AreTexts, entry_of, text_of}
use Rattle.journal_table.proofs.Layouts.{entry_is}
use Rattle.journal_table.proofs.line.read_line.Goals.{in-Some-next, in-None+in_ok-texts-in-None}
use Rattle.journal_table.proofs.line.read_line.Goals as goal

pub returns : goal.returns
returns c =
    let connection = c.column-connection.result.now in
    let request = c.column-request.result.now in
    let response = c.column-response.result.now in
    let texts : AreTexts c.match-next.texts connection request response = elim c.match-next.branch [
      | in-Some-next w ↦ rw w.texts-is w.in-Some-next.ensures
      | in-None+in_ok-texts-in-None w ↦ rw w.texts-is w.in_ok-texts-in-None.ensures
    ] in
    let line : Entry = record { number = c.in-Some.number; connection = connection; request = request; response = response } in
    let is : entry_of (record { number = c.in-Some.number; texts = c.match-next.texts }) ≡ line =
    rw (texts.first, texts.second) (entry_is c.in-Some.number (text_of c.match-next.texts) connection request response texts.joins) in
    let gives : line_at c.args.row c.args.before (fields_of c.args.fields.now) ≡ Ok line = search rules in
    gives ∙ ap Ok (sym is)
