use Rattle.std.proofs.Common.{◌≡◌, ◌<◌, ◌≤◌, length, arith, rules}
use Rattle.board_lines.specs.declared.notes.PlaceNote.{PlaceNote}
use Rattle.board_lines.proofs.Noting.{noted_again, noted_few, noted_more, pushed_popped}
use Rattle.board_lines.proofs.notes.NoteList.add.Goals as goal

pub returns-then-position-lt-SCANNED_MAX-clause-noted : goal.returns-then-position-lt-SCANNED_MAX-clause-noted
returns-then-position-lt-SCANNED_MAX-clause-noted g c =
    let a = c.args.self.now in
    let end : c.len-position.result ≡ length a.notes.items = search rules in
    let short : length a.notes.items < 8 = omega (arith, end, c.if-position-lt-SCANNED_MAX.true) in
    rw (c.in-Ok.ensures.items, c.in_ok-key_of_note.ensures.cases)
    (noted_few a.notes.items a.index (record { key = c.args.key.now; name = c.args.name; place = c.args.place }) c.requires.noted c.requires.fresh c.requires.placed short)

pub returns-in-Ok-enter-clause-noted : goal.returns-in-Ok-enter-clause-noted
returns-in-Ok-enter-clause-noted g c =
    let a = c.args.self.now in
    let end : c.len-position.result ≡ length a.notes.items = search rules in
    let long : 8 ≤ length a.notes.items = omega (arith, end, c.if-position-lt-SCANNED_MAX.false) in
    rw (c.in-Ok.ensures.items, c.in_ok-key_of_note.ensures.cases)
    (noted_more a.notes.items a.index c.enter.new.index (record { key = c.args.key.now; name = c.args.name; place = c.args.place }) c.requires.noted c.requires.fresh c.requires.placed long c.in-Ok-enter.ensures.put)

pub returns-in-Err-clause-noted : goal.returns-in-Err-clause-noted
returns-in-Err-clause-noted g c =
    let a = c.args.self.now in
    let made : PlaceNote _ = record { key = c.in_ok-key_of_note.key_of_note; name = c.args.name; place = c.args.place } in
    let same : c.pop.new.self.items ≡ a.notes.items = pushed_popped a.notes.items c.push.new.self.items c.pop.new.self.items made c.push.new.self.len c.in-Ok.ensures.items c.push.new.self.ok.0 c.pop.ensures.rest in
    rw same (noted_again a.notes.items a.index c.enter.new.index c.requires.noted c.in-Err.ensures.same)
