use Rattle.std.proofs.Common.{◌≡◌, take}
use Rattle.page_text.specs.Page.{written}
use Rattle.page_text.proofs.page.Page.bytes.Given as goal

-- the pieces so far are written
abbrev pub invariant-loop-piece : goal.invariant-loop-piece
invariant-loop-piece l = l.out.items ≡ written (take l.piece-index l.pieces)
