use Rattle.sip_reader.proofs.Numbers.{made, number_early, of_number, of_range}
use Rattle.sip_reader.proofs.day.number_of.Goals as goal

pub returns-clause-number : goal.returns-clause-number
returns-clause-number c =
    let ymd = made c.new.result c.in_ok-date.date _ _ _ c.new.ensures.value c.in_ok-date.ensures.value in
    of_number c.in_ok-date.date c.args.year c.args.month c.args.day c.days_since_min.result ymd c.if-year-gt9999.false c.if-month-gt12.false c.if-day-gt31.false
    (rw c.to_plain.ensures at c.days_since_min.ensures.value)

pub returns-clause-early : goal.returns-clause-early
returns-clause-early c = λ early.
    let ymd = made c.new.result c.in_ok-date.date _ _ _ c.new.ensures.value c.in_ok-date.ensures.value in
    number_early c.in_ok-date.date c.args.year c.days_since_min.result ymd.0 early (rw c.to_plain.ensures at c.days_since_min.ensures.value)

pub returns-clause-range : goal.returns-clause-range
returns-clause-range c =
    let ymd = made c.new.result c.in_ok-date.date _ _ _ c.new.ensures.value c.in_ok-date.ensures.value in
    of_range c.in_ok-date.date c.args.year c.days_since_min.result ymd.0 c.if-year-lt1900.false c.if-year-gt9999.false (rw c.to_plain.ensures at c.days_since_min.ensures.value)
