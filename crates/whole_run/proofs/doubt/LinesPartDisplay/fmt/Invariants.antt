use Rattle.std.proofs.Common.{take}
use Rattle.std.specs.Fmt.{HasWritten, IsPlainFormatter}
use Rattle.whole_run.specs.Doubting.{lines_text}
use Rattle.whole_run.proofs.doubt.LinesPartDisplay.fmt.Given as goal

-- the lines so far are written
abbrev pub invariant-loop-doubt : goal.invariant-loop-doubt
invariant-loop-doubt g l = IsPlainFormatter l.initial.f
    → HasWritten g.W.Write.write_str_gives l.initial.f
    (lines_text (take l.doubt-index l.doubt-items)) l.f
