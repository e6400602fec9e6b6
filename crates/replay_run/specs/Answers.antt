-- The answers of the replay by one thread, in the order of the journal.
use Rattle.std.specs.Prelude.{ℕ, zero, suc, ◌+◌, List, [], ◌∷◌, ◌++◌, length, Option}
use Rattle.sip_answer.specs.declared.answer.Answer.{Answer}
use Rattle.read_set.specs.Plans.{Planned}
use Rattle.read_set.specs.Replay.{after, one_at}

-- of the first lines, each on the records that the lines before it left
abbrev pub first_answers : Planned → ℕ → List (Option Answer)
first_answers plan zero = []
first_answers plan (suc n) =
    first_answers plan n ++ (one_at plan (plan.first + n) (after plan n)).1 ∷ []

-- of all lines
abbrev pub answers_of : Planned → List (Option Answer)
answers_of plan = first_answers plan (length plan.readings)
