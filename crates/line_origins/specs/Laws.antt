-- Reasons and answers.
use Rattle.std.specs.Prelude.{◌≡◌, ℕ, IfSome}
use Rattle.sip_answer.specs.Reasons.{grants, reason_of, says_yes}
use Rattle.read_set.specs.Maps.{Map}
use Rattle.read_set.specs.Plans.{Planned}
use Rattle.read_set.specs.Replay.{one_at}

-- an answer says yes just where its reason is one that grants
abbrev pub ReasonsGoWithAnswers : Type 0
ReasonsGoWithAnswers = (plan : Planned) (line : ℕ) (M : Map) → IfSome (one_at plan line M).1 (λ a. says_yes a ≡ grants (reason_of a))
