-- A calendar's closed days.
use Rattle.circ_policy.specs.Terms.{Closed}
use Rattle.circ_policy.specs.declared.calendar.Calendar.{Calendar}

abbrev pub closed_of : Calendar → Closed
closed_of c = record { weekdays = c.closed_weekdays; dates = c.closed_dates.keys }
