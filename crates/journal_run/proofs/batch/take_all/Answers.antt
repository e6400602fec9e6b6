use Rattle.std.proofs.Common.{◌≡◌, List, subst, take}
use Rattle.std.proofs.lemmas.List.{take_all}
use Rattle.std.proofs.lemmas.Result.{err_from_is_err_and}
use Rattle.journal_run.specs.Found.{said_in}
use Rattle.journal_run.specs.Making.{TakesAll}
use Rattle.journal_run.specs.declared.finding.Finding.{Finding}
use Rattle.journal_run.proofs.Taking.{stops-later, takes-more, takes-none}
use Rattle.journal_run.proofs.batch.take_all.Goals as goal

pub loop-one-init : goal.loop-one-init
loop-one-init c = takes-none c.args.making.now

pub loop-one-preserved : goal.loop-one-preserved
loop-one-preserved c =
    takes-more c.args.batch.now c.loop-one.one-index c.one-item.result c.args.making.now c.loop-one.making c.take_one.new.making c.loop-one-test.true c.one-item.is c.loop-one.invariant
    c.in_ok-take_one.ensures.took

pub returns-in_err-take_one-clause-stops : goal.returns-in_err-take_one-clause-stops
returns-in_err-take_one-clause-stops c =
    let p = err_from_is_err_and c.from_residual.result c.from_residual.ensures.1 in rw (p.1, p.2)
    (stops-later c.args.batch.now c.loop-one.one-index c.one-item.result c.args.making.now c.loop-one.making c.take_one.new.making _ c.loop-one-test.true c.one-item.is c.loop-one.invariant
    c.in_err-take_one.ensures.stops)

pub returns-clause-took : goal.returns-clause-took
returns-clause-took c =
    let all : take c.loop-one.one-index c.args.batch.now ≡ c.args.batch.now = take_all c.loop-one.one-index c.args.batch.now c.loop-one-test.false in
    subst (λ (fs : List Finding). TakesAll (said_in fs) c.args.making.now c.loop-one.making) all c.loop-one.invariant
