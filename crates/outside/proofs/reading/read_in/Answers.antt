use Rattle.outside.proofs.reading.read_in.Goals as goal

pub returns-clause-read : goal.returns-clause-read
returns-clause-read g c = rw (c.as_str.ensures.value, c.in_ok-path.ensures) at c.read_file.ensures.read

pub returns-clause-stops : goal.returns-clause-stops
returns-clause-stops g c = rw (c.as_str.ensures.value, c.in_ok-path.ensures) at c.read_file.ensures.stops
