use Rattle.std.proofs.Common.{arith}
use Rattle.log_pairs.specs.Pairs.{Request}
use Rattle.journal_run.proofs.Steps.{becomes-equal, takes}
use Rattle.journal_run.proofs.making.Making.ask.Goals as goal

pub returns : goal.returns
returns c =
    let m = c.args.self.now in (
      c.in_ok-collect.ensures.keeps.0,
      takes (Request c.args.connection.now c.args.request.now) m c.ask.new.self m.withheld m.undigited c.collect.new.self (becomes-equal _ _ c.in_ok-ask.ensures.steps)
          (λ o limit same is few. omega (arith, same, is)) c.in_ok-collect.ensures.keeps,
    )
