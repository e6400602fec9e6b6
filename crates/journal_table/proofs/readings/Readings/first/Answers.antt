use Rattle.std.proofs.Common.{sym, ◌∙◌}
use Rattle.journal_table.specs.Stretches.{joined, stretches_of}
use Rattle.journal_table.proofs.Rising.{numbered-first, numbered-none, numbered-rises, numbered-within}
use Rattle.journal_table.proofs.readings.Readings.first.Goals as goal

pub returns-then-self-eq0 : goal.returns-then-self-eq0
returns-then-self-eq0 c =
    let inside = c.self.inside in
    let rs = joined (stretches_of inside.stretches.items) in
    let kept = c.self.invariant in
    rw (← c.self.view_is) (record {
      value = numbered-none inside.first rs (kept.count ∙ c.if-self-eq0.true);
      numbered = numbered-rises inside.first rs;
      within = numbered-within inside.first rs (rw kept.count kept.within);
    })

pub returns-else-self-eq0 : goal.returns-else-self-eq0
returns-else-self-eq0 c =
    let inside = c.self.inside in
    let rs = joined (stretches_of inside.stretches.items) in
    let kept = c.self.invariant in
    rw (← c.self.view_is) (record {
      value = numbered-first inside.first rs (λ none. c.if-self-eq0.false (sym kept.count ∙ none));
      numbered = numbered-rises inside.first rs;
      within = numbered-within inside.first rs (rw kept.count kept.within);
    })
