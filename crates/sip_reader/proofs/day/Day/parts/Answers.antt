use Rattle.std.proofs.Common.{◌≡◌, pos, refl, sym, ◌∙◌}
use Rattle.sip_reader.proofs.Numbers.{cast_year, number_is, only_date, year_fits, year_of}
use Rattle.sip_reader.proofs.Real.{day_at-some, day_at-facts}
use Rattle.sip_reader.proofs.Written.{year_is, month_is, day_is}
use Rattle.sip_reader.proofs.day.Day.parts.Goals as goal
use mir.Syntax.{w16}
use mir.Val.{of_z, to_z}

pub overflow_cast-result : goal.overflow_cast-result
overflow_cast-result c =
    let (y, is, from, to, real, number) = year_of c.from_days_since_min-date.result c.number.result c.from_days_since_min-date.ensures c.number.ensures.range.0 in
    let same = cast_year c.from_days_since_min-date.result.year y is to in
    year_fits (to_z w16 (of_z w16 c.from_days_since_min-date.result.year)) y same to

pub returns-clause-date : goal.returns-clause-date
returns-clause-date c =
    let (y, is, from, to, real, number) = year_of c.from_days_since_min-date.result c.number.result c.from_days_since_min-date.ensures c.number.ensures.range.0 in
    let same = cast_year c.from_days_since_min-date.result.year y is to in
    rw (← c.number.ensures.value, year_is _ _ _ _ real number, month_is _ _ _ _ real number, day_is _ _ _ _ real number, same) refl

pub returns-clause-value : goal.returns-clause-value
returns-clause-value c =
    let (y, is, from, to, real, number) = year_of c.from_days_since_min-date.result c.number.result c.from_days_since_min-date.ensures c.number.ensures.range.0 in
    let same = cast_year c.from_days_since_min-date.result.year y is to in
    rw (← c.number.ensures.value, same) (day_at-some _ _ _ _ real number)

pub returns-clause-only : goal.returns-clause-only
returns-clause-only c =
    let (y, is, from, to, real, number) = year_of c.from_days_since_min-date.result c.number.result c.from_days_since_min-date.ensures c.number.ensures.range.0 in
    let same = cast_year c.from_days_since_min-date.result.year y is to in
    rw (← c.number.ensures.value, same) (λ y2 m d e.
    let facts = day_at-facts _ y2 m d e in
    let one = only_date c.from_days_since_min-date.result y2 m d facts.0 (sym (number_is c.from_days_since_min-date.result.year c.from_days_since_min-date.result.month c.from_days_since_min-date.result.day c.number.result c.from_days_since_min-date.ensures) ∙ facts.1) in
    let p : pos y ≡ pos y2 = sym is ∙ one.0 in
    let e : y ≡ y2 = cc p in
    (e, one.1, one.2))
