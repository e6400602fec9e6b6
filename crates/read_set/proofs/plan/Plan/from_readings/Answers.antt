use Rattle.read_set.proofs.Numbers.{plan-same}
use Rattle.read_set.proofs.PlanFits.{counted, made-fits}
use Rattle.read_set.proofs.plan.Plan.from_readings.Goals as goal

pub invariant_of-result : goal.invariant_of-result
invariant_of-result c =
    let base = c.args.base in
    let few = counted base c.as_slice-records.ensures.few in
    let fits = made-fits c.args.policy base c.args.readings c.args.deeds c.currency-currency.ensures.ranges c.len-lines.ensures.read c.keep_their_form.ensures c.first.ensures.within few c.requires in
    rw (c.unwrap_or-first.ensures, c.first.ensures.value) (c.first.ensures.within, c.len-lines.ensures.few, fits)

pub returns-clause-journal : goal.returns-clause-journal
returns-clause-journal c = λ way lines e told. rw (c.unwrap_or-first.ensures, c.first.ensures.value, e, told) (plan-same way c.args.policy c.args.base lines)
