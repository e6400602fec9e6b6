use Rattle.std.specs.Char.{is_ascii_digit}
use Rattle.sip_reader.proofs.Digits.{front_passes}
use Rattle.sip_reader.proofs.amount.Amount.read.Goals as goal

pub number_of_digits-requires-clause-digits : goal.number_of_digits-requires-clause-digits
number_of_digits-requires-clause-digits c =
    rw c.digits_at_front-len.ensures.value (front_passes is_ascii_digit c.args.text.now)
