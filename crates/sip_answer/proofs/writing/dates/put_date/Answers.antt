use Rattle.std.proofs.Common.{arith}
use Rattle.sip_answer.proofs.Calendar.{parts_fit}
use Rattle.sip_answer.proofs.writing.dates.put_date.Goals as goal

pub two_digits-requires : goal.two_digits-requires
two_digits-requires c = let small = parts_fit _ _ _ _ c.parts-year.ensures.value in omega (arith, small.0)

pub two_digits-requires-3 : goal.two_digits-requires-3
two_digits-requires-3 c = let small = parts_fit _ _ _ _ c.parts-year.ensures.value in omega (arith, small.1)

pub two_digits-requires-4 : goal.two_digits-requires-4
two_digits-requires-4 c = let small = parts_fit _ _ _ _ c.parts-year.ensures.value in omega (arith, small.2)
