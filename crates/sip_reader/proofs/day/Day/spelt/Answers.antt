use Rattle.std.proofs.Common.{sym, refl}
use Rattle.sip_reader.proofs.Real.{day_at-some, day_at-none}
use Rattle.sip_reader.proofs.day.Day.spelt.Goals as goal

pub returns-in-Some-clause-value : goal.returns-in-Some-clause-value
returns-in-Some-clause-value c = sym (day_at-some c.in-Some.days c.args.year c.args.month c.args.day (c.in-Some.ensures.real.0 refl) c.in-Some.ensures.number)

pub returns-in-None-clause-value : goal.returns-in-None-clause-value
returns-in-None-clause-value c = sym (day_at-none c.args.year c.args.month c.args.day c.in-None.ensures.real.1)
