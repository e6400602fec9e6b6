-- Each branch follows from the results of the comparisons before it.
use Rattle.std.proofs.Common.{refl, sym, ◌∙◌}
use Rattle.run_stops.specs.Telling.{key_remedy}
use Rattle.run_stops.proofs.remedy.key_remedy.Goals as goal

pub returns-then-eq : goal.returns-then-eq
unfolding key_remedy
returns-then-eq c =
    rw (sym c.eq.ensures ∙ c.if-eq.true)
    refl

pub returns-then-eq-2 : goal.returns-then-eq-2
unfolding key_remedy
returns-then-eq-2 c =
    rw (
      sym c.eq.ensures ∙ c.if-eq.false,
      sym c.eq-else-eq.ensures ∙ c.if-eq-2.true,
    )
    refl

pub returns-then-eq-3 : goal.returns-then-eq-3
unfolding key_remedy
returns-then-eq-3 c =
    rw (
      sym c.eq.ensures ∙ c.if-eq.false,
      sym c.eq-else-eq.ensures ∙ c.if-eq-2.false,
      sym c.eq-else-eq-2.ensures ∙ c.if-eq-3.true,
    )
    refl

pub returns-then-eq-4 : goal.returns-then-eq-4
unfolding key_remedy
returns-then-eq-4 c =
    rw (
      sym c.eq.ensures ∙ c.if-eq.false,
      sym c.eq-else-eq.ensures ∙ c.if-eq-2.false,
      sym c.eq-else-eq-2.ensures ∙ c.if-eq-3.false,
      sym c.eq-else-eq-3.ensures ∙ c.if-eq-4.true,
    )
    refl

pub returns-then-eq-5 : goal.returns-then-eq-5
unfolding key_remedy
returns-then-eq-5 c =
    rw (
      sym c.eq.ensures ∙ c.if-eq.false,
      sym c.eq-else-eq.ensures ∙ c.if-eq-2.false,
      sym c.eq-else-eq-2.ensures ∙ c.if-eq-3.false,
      sym c.eq-else-eq-3.ensures ∙ c.if-eq-4.false,
      sym c.eq-else-eq-4.ensures ∙ c.if-eq-5.true,
    )
    refl

pub returns-else-eq-5 : goal.returns-else-eq-5
unfolding key_remedy
returns-else-eq-5 c =
    rw (
      sym c.eq.ensures ∙ c.if-eq.false,
      sym c.eq-else-eq.ensures ∙ c.if-eq-2.false,
      sym c.eq-else-eq-2.ensures ∙ c.if-eq-3.false,
      sym c.eq-else-eq-3.ensures ∙ c.if-eq-4.false,
      sym c.eq-else-eq-4.ensures ∙ c.if-eq-5.false,
    )
    refl
