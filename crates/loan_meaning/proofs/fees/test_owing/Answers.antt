use Rattle.std.proofs.Common.{ap, sym}
use Rattle.read_set.specs.Asks.{Done}
use Rattle.read_set.specs.Owing.{owed_at, owing_tests}
use Rattle.read_set.proofs.Following.{follow_then}
use Rattle.read_set.proofs.Gaining.{gains_first}
use Rattle.loan_meaning.proofs.fees.test_owing.Goals as goal

pub returns-in-Some-clause-gives : goal.returns-in-Some-clause-gives
unfolding owing_tests
returns-in-Some-clause-gives g c = follow_then _ (owed_at c.args.writes.now c.args.member.now.patron.fees) _ c.in-Some.owes _ (rw c.in-Some.is at c.requires) (ap Done (sym c.owing.ensures))

pub returns-clause-gives : goal.returns-clause-gives
unfolding owing_tests
returns-clause-gives g c =
    let first = rw (c.as_slice-fees.ensures, c.get.ensures) at c.in_ok-owes.ensures.gives in
    follow_then _ (owed_at c.args.writes.now c.args.member.now.patron.fees) _ c.in_ok-owes.owes _ first (ap Done (sym c.owing-2.ensures))

pub returns-in_err-owes-clause-keeps : goal.returns-in_err-owes-clause-keeps
unfolding owing_tests
returns-in_err-owes-clause-keeps g c = gains_first _ _ (owed_at c.args.writes.now c.args.member.now.patron.fees) _ (rw (c.as_slice-fees.ensures, c.get.ensures) at c.in_err-owes.ensures.keeps)

pub returns-clause-keeps : goal.returns-clause-keeps
unfolding owing_tests
returns-clause-keeps g c = gains_first _ _ (owed_at c.args.writes.now c.args.member.now.patron.fees) _ (rw (c.as_slice-fees.ensures, c.get.ensures) at c.in_ok-owes.ensures.keeps)

pub returns-clause-known : goal.returns-clause-known
returns-clause-known g c = rw (c.as_slice-fees.ensures, c.get.ensures) at c.in_ok-owes.ensures.gives
