use Rattle.run_stops.proofs.stop.RunErrorDisplay.fmt.Goals as goal

pub returns-in-Replaces-clause-writes : goal.returns-in-Replaces-clause-writes
returns-in-Replaces-clause-writes g c = rw c.in-Replaces.is c.write-in-Replaces.ensures.writes
