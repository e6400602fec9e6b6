use Rattle.log_pairs.specs.Pairs.{Response}
use Rattle.journal_run.proofs.Steps.{takes}
use Rattle.journal_run.proofs.making.Making.answer.Goals as goal

pub returns : goal.returns
returns c =
    let m = c.args.self.now in
    let x = Response c.args.connection.now c.args.response.now in
    c.taken_of.ensures x m c.collect.new.self (
      c.in_ok-collect.ensures.keeps.0,
      takes x m c.answer.new.self c.saturating_add-self-2.result c.saturating_add-self.result c.collect.new.self c.in_ok-answered.ensures.steps (λ o limit same is few. few)
          c.in_ok-collect.ensures.keeps,
    )
