use Rattle.std.proofs.Common.{sym, arith, take_all}
use Rattle.board_lines.proofs.notes.first_few.Goals as goal

pub returns-then-notes-le-SCANNED_MAX : goal.returns-then-notes-le-SCANNED_MAX
returns-then-notes-le-SCANNED_MAX g c = sym (take_all 8 c.args.notes.now (omega arith))
