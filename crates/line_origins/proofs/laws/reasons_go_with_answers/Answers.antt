use Rattle.line_origins.proofs.Going.{reasons_go}
use Rattle.line_origins.proofs.laws.reasons_go_with_answers.Goals as goal

pub returns : goal.returns
returns c = reasons_go
