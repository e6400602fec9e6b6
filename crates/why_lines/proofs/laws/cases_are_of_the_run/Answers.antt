use Rattle.why_lines.proofs.Running.{of_the_run}
use Rattle.why_lines.proofs.laws.cases_are_of_the_run.Goals as goal

pub returns : goal.returns
returns c = of_the_run
