use Rattle.std.proofs.Common.{[], refl}
use Rattle.why_run.proofs.files.read_if_named.Goals as goal

pub returns-in-Ok-clause-read : goal.returns-in-Ok-clause-read
returns-in-Ok-clause-read g c = rw (c.in-Some.is) (rw (c.as_str.ensures.value) at c.in-Ok.ensures.read)

pub returns-in-Err-clause-stops : goal.returns-in-Err-clause-stops
returns-in-Err-clause-stops g c = rw (c.in-Some.is) (rw (c.as_str.ensures.value) at c.in-Err.ensures.stops)

pub returns-in-None-clause-read : goal.returns-in-None-clause-read
returns-in-None-clause-read g c = rw (c.in-None.is) ([], refl, tt)
