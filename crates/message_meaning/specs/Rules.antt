-- The order of asking: the rule of a line, as a program that asks for one record at a time.
use Rattle.std.specs.Prelude.{ℕ, Option, Some, None}
use Rattle.sip_reader.specs.declared.request.Reading.{Reading}
use Rattle.read_set.specs.Asks.{Asks, Give}
use Rattle.read_set.specs.Effects.{unwritten}
use Rattle.read_set.specs.Meaning.{rule}
use Rattle.read_set.specs.Plans.{Planned, deed_at, reading_at}
use Rattle.read_set.specs.declared.effect.Effect.{Effect}

-- of the line of a number; where the plan has no such line, nothing is done
abbrev pub rule_by : Planned → ℕ → Option Reading → Asks Effect
rule_by plan line None = Give (unwritten None)
rule_by plan line (Some r) = rule plan.policy line r (deed_at plan line)

unfoldable pub rule_at : Planned → ℕ → Asks Effect
rule_at plan line = rule_by plan line (reading_at plan line)
