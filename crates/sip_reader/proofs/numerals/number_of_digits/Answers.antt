use Rattle.std.proofs.Common.{rules, refl}
use Rattle.std.proofs.lemmas.Int.Digits.{digits_value_more}
use Rattle.sip_reader.proofs.Digits.{small_more}
use Rattle.sip_reader.proofs.numerals.number_of_digits.Goals as goal

pub loop-b-preserved : goal.loop-b-preserved
loop-b-preserved c = record {
  value = rw (digits_value_more 10 c.args.digits.now c.loop-b.b-index (search rules), c.loop-b.invariant.value, c.digit.ensures.value) refl;
  small = small_more c.loop-b.number c.digit.result c.loop-b.b-index c.loop-b.invariant.small c.digit.ensures.small;
}
