use Rattle.std.proofs.Common.{◌≡◌, ◌++◌, ◌*◌, ◌+◌, ◌<◌, ◌^◌, ℕ, List, length, take}
use Rattle.std.specs.Vec.Iter.{into_iter_items, into_iter_len}
use Rattle.result_report.specs.Report.{LineResult}
use Rattle.result_report.specs.Stretches.{AreParts}
use Rattle.result_report.specs.Tables.{AreHeads, AreTexts}
use Rattle.result_report.proofs.texts.join.Given as goal

-- the lines of the parts so far
abbrev pub invariant-loop-part : goal.invariant-loop-part
invariant-loop-part l = (l.yielded ++ into_iter_items l.part-iterator ≡ into_iter_items l.initial.part-iterator)
    × (into_iter_len l.part-iterator ≡ length (into_iter_items l.part-iterator))
    × ((lines : List LineResult) (told : ℕ) → length lines < 2 ^ 64 → AreHeads l.heads
    → AreTexts (take (told * 4096) lines) l.initial.joined
    → AreParts told lines (into_iter_items l.initial.part-iterator)
    → AreTexts (take ((told + length l.yielded) * 4096) lines) l.joined)
