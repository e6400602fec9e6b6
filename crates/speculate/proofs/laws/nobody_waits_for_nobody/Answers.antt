use Rattle.speculate.proofs.ComingOn.{names_a_call, comes_on}
use Rattle.speculate.proofs.laws.nobody_waits_for_nobody.Goals as goal

pub returns-clause-names : goal.returns-clause-names
returns-clause-names c = λ plan b m choice w ok none there uncommitted is. names_a_call plan b ok none m there uncommitted choice is w

pub returns-clause-comes_on : goal.returns-clause-comes_on
returns-clause-comes_on c = λ plan b new choice w n call reply ok none lt is names step. comes_on plan b ok none choice is w n call reply new lt names step
