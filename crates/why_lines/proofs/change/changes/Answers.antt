use Rattle.std.proofs.Common.{List}
use Rattle.circ_records.specs.declared.key.Key.{Key}
use Rattle.why_lines.specs.Devices.Noted.{IsNoted}
use Rattle.why_lines.specs.declared.change.Change.{Change}
use Rattle.why_lines.proofs.Noting.{all_noted_listed, each_weaker}
use Rattle.why_lines.proofs.change.changes.Goals as goal

pub returns : goal.returns
returns c =
    let before = c.args.before.now in
    let after = c.args.after.now in
    let first : List (Key × Change) = c.note_all.new.changes.entries in
    let last : List (Key × Change) = c.note_all-2.new.changes.entries in
    all_noted_listed before after last c.listed.result c.listed.ensures.same c.listed.ensures.rising c.in_ok-note_all-2.ensures.noted
    (each_weaker (IsNoted before after first) (IsNoted before after last) after c.in_ok-note_all-2.ensures.keeps c.in_ok-note_all.ensures.each)
    c.in_ok-note_all-2.ensures.each
