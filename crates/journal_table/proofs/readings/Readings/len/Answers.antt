use Rattle.std.proofs.Common.{sym, ◌∙◌}
use Rattle.journal_table.specs.Stretches.{joined, stretches_of}
use Rattle.journal_table.proofs.Rising.{length-numbered, numbered-read}
use Rattle.journal_table.proofs.readings.Readings.len.Goals as goal

pub returns : goal.returns
returns c =
    let inside = c.self.inside in
    let kept = c.self.invariant in
    let long = length-numbered inside.first (joined (stretches_of inside.stretches.items)) in
    rw (← c.self.view_is) (record {
      len = sym kept.count ∙ sym long;
      few = rw (long, kept.count) kept.few;
      read = numbered-read inside.first (joined (stretches_of inside.stretches.items)) kept.read;
    })
