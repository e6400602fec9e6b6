-- The meaning of a line: what it does to the records, as they are before it, and its answer.
use Rattle.std.specs.Prelude.{ℕ, true, false, List, Option, Some, None}
use Rattle.circ_policy.specs.Terms.{Terms}
use Rattle.sip_answer.specs.declared.answer.Answer.{Answer}
use Rattle.sip_answer.specs.declared.answer.Answer.TheVariants as answers
use Rattle.sip_answer.specs.declared.deed.Deed.{Deed}
use Rattle.sip_reader.specs.declared.request.Act.{Act}
use Rattle.sip_reader.specs.declared.request.Act.TheVariants as acts
use Rattle.sip_reader.specs.declared.request.Reading.{Reading}
use Rattle.sip_reader.specs.declared.request.Reading.TheVariants as readings
use Rattle.read_set.specs.AsRecorded.{followed}
use Rattle.read_set.specs.Asks.{Asks, Give, ◌>>=◌}
use Rattle.read_set.specs.Effects.{unwritten}
use Rattle.read_set.specs.Holds.{hold_rule}
use Rattle.read_set.specs.ItemStatuses.{item_status_rule}
use Rattle.read_set.specs.Checkouts.{checkout_rule}
use Rattle.read_set.specs.Renewals.{renew_rule}
use Rattle.read_set.specs.Maps.{Map, put}
use Rattle.read_set.specs.Blocks.{block_rule}
use Rattle.read_set.specs.Payments.{fee_paid_rule}
use Rattle.read_set.specs.RenewAlls.{renew_all_rule}
use Rattle.read_set.specs.Checkins.{checkin_rule}
use Rattle.read_set.specs.WholeMap.{line_effect}
use Rattle.read_set.specs.declared.effect.Effect.{Effect}

abbrev pub effect : Terms → ℕ → Reading → Option Deed → Map → Effect
effect p n r o M = line_effect p n r o M

-- the records after line n, and its answer
abbrev pub one : Terms → ℕ → Reading → Option Deed → Map → Map × Option Answer
one p n r o M = (put (effect p n r o M).writes M, (effect p n r o M).answer)

-- THE SAME AS PROGRAMS that ask for one record after the other (WholeMapLaws)

-- what a request does on line n, by the rules
unfoldable pub rule_of : Terms → ℕ → List ℕ → Act → Asks Effect
rule_of p n date (acts.BlockPatron q) = block_rule p true q.patron date
rule_of p n date (acts.Checkin q) = checkin_rule p n q date
rule_of p n date (acts.Checkout q) = checkout_rule p n q date
rule_of p n date (acts.Hold q) = hold_rule p false q date
rule_of p n date (acts.ItemStatus q) = item_status_rule p q date
rule_of p n date (acts.PatronEnable q) = block_rule p false q.patron date
rule_of p n date (acts.Renew q) = renew_rule p n q date
rule_of p n date (acts.FeePaid q) = fee_paid_rule p q date
rule_of p n date (acts.RenewAll q) = renew_all_rule p n None q date

-- by the rules, or as a deed of the line says
unfoldable pub rule_with : Terms → ℕ → List ℕ → Act → Option Deed → Asks Effect
rule_with p n date act None = rule_of p n date act
rule_with p n date act (Some o) = do
  ruled ← rule_of p n date act
  followed p n date act o ruled

unfoldable pub rule : Terms → ℕ → Reading → Option Deed → Asks Effect
rule p n (readings.Asked q) o = rule_with p n q.date q.act o
rule p n readings.BadSum o = Give (unwritten (Some answers.Resend))
rule p n (readings.Passed why) o = Give (unwritten None)
rule p n (readings.Unread why) o = Give (unwritten None)
