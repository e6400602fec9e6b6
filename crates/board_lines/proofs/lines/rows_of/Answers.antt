use Rattle.std.proofs.Common.{map, ap, ◌∙◌}
use Rattle.board_lines.specs.Parts.{row_shown}
use Rattle.board_lines.proofs.Openings.{rows_more}
use Rattle.board_lines.proofs.lines.rows_of.Goals as goal

pub loop-i-preserved : goal.loop-i-preserved
loop-i-preserved g c =
    ap (λ xs. map row_shown xs) c.in_ok-push.ensures.items ∙ rows_more c.loop-i.rows.items c.new.result c.loop-i._i c.loop-i.invariant c.new.ensures
