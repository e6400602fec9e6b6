use Rattle.std.proofs.Common.{refl}
use Rattle.journal_run.proofs.Steps.{closed-less, collects-one, shorter}
use Rattle.journal_run.proofs.making.Making.collect_first.Goals as goal

pub returns-clause-keeps : goal.returns-clause-keeps
returns-clause-keeps c =
    let m = c.args.self.now in (
      refl,
      λ first o taken k. collects-one m c.next.new.self c.push.new.self.items c.saturating_add-self.result c.saturating_add-self-2.result c.lacking.result c.in-Some.exchange c.in-Some.ensures.some
          c.saturating_add-self.ensures c.saturating_add-self-2.ensures c.lacking.ensures c.in_ok-push.ensures.items first o taken k.0 _ k.1 refl refl refl refl refl refl refl,
    )

pub returns-clause-closed : goal.returns-clause-closed
returns-clause-closed c all = closed-less c.args.self.now.pairing c.next.new.self c.in-Some.exchange c.in-Some.ensures.some all

pub returns-clause-taken : goal.returns-clause-taken
returns-clause-taken c found = shorter c.args.self.now.pairing c.next.new.self c.in-Some.exchange c.in-Some.ensures.some
