-- For proofs alone: how an attempt has ended, where its number and its answer share a machine word's discriminant.
use Rattle.std.specs.Prelude.{ℕ, Option, Some, None}
use Rattle.sip_answer.specs.declared.answer.Answer.{Answer}
use Rattle.read_set.specs.declared.version.Ended.{Ended}
use Rattle.read_set.specs.declared.version.Ended.TheVariants.{Answered, Unanswered}

abbrev pub attempt_in : Ended → ℕ
attempt_in (Unanswered attempt) = attempt
attempt_in (Answered attempt answer) = attempt

abbrev pub answer_in : Ended → Option Answer
answer_in (Unanswered attempt) = None
answer_in (Answered attempt answer) = Some answer
