use Rattle.why_run.proofs.remark.RemarkDisplay.fmt.Goals as goal

pub returns-in-NoAnswer-clause-writes : goal.returns-in-NoAnswer-clause-writes
returns-in-NoAnswer-clause-writes g c = rw c.in-NoAnswer.is c.write-in-NoAnswer.ensures.writes

pub returns-in-NoCase-clause-writes : goal.returns-in-NoCase-clause-writes
returns-in-NoCase-clause-writes g c = rw c.in-NoCase.is c.write-in-NoCase.ensures.writes
