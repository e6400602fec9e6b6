use Rattle.log_pairs.specs.Pairs.{Over}
use Rattle.journal_run.proofs.Steps.{takes}
use Rattle.journal_run.proofs.making.Making.over.Goals as goal

pub returns : goal.returns
returns c =
    let m = c.args.self.now in (
      c.in_ok-collect.ensures.keeps.0,
      takes (Over c.args.connection.now) m c.over.new.self m.withheld m.undigited c.collect.new.self c.over.ensures (λ o limit same is few. few) c.in_ok-collect.ensures.keeps,
    )
