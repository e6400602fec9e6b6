use Rattle.std.proofs.Common.{◌≡◌, Some, Option, sym, ap₂, ◌∙◌}
use Rattle.std.specs.Prelude.{option_map}
use Rattle.circ_records.specs.declared.key.Key.{Key}
use Rattle.circ_records.specs.declared.record.Record.{Record}
use Rattle.read_set.specs.declared.notes.Note.{Note}
use Rattle.board_lines.specs.Notes.{contents_at, found_by, noted}
use Rattle.board_lines.proofs.Alike.{nth_note}
use Rattle.board_lines.proofs.reading.read_note.Goals as goal

pub returns : goal.returns
returns g c =
    let base = c.args.plan.now.base in
    let n = c.in-Some.seen.now in
    let k = n.key in
    let note : Key → Option Record → Note = λ key found. record { key = key; name = n.name; found = found } in
    let found : c.new-found.result ≡ found_by base k (option_map contents_at n.place) = c.new-found.ensures ∙ c.in_ok-copied.ensures ∙ c.record_seen.ensures in
    ap₂ (λ q x. Some (note q x)) c.in_ok-clone.ensures.cases found ∙ sym (nth_note base c.args.noted.now c.args.i (noted n) c.in-Some.ensures)
