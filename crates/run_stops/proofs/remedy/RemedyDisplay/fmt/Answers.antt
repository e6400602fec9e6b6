use Rattle.run_stops.proofs.remedy.RemedyDisplay.fmt.Goals as goal

pub returns-in-File-clause-writes : goal.returns-in-File-clause-writes
returns-in-File-clause-writes g c = rw c.in-File.is c.write-in-File.ensures.writes
