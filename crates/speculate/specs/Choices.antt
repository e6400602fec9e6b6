-- The choice of a free worker in code, and the call that it names (the board: the choice of a free
-- worker).
use Rattle.std.specs.Prelude.{◌≡◌, ℕ, Option, Some, None}
use Rattle.read_set.specs.Plans.{Planned}
use Rattle.board_steps.specs.Board.{Board}
use Rattle.board_steps.specs.Choice as steps
use Rattle.board_steps.specs.Choice.Choice.{ToCommit, ToCheck, ToTake, ToWait, ToEnd}
use Rattle.board_steps.specs.Steps.Call.{Take as TheTake, Check as TheCheck, Commit as TheCommit}
use Rattle.board_lines.specs.Replies.{Answers}
use Rattle.speculate.specs.declared.choice.Choice.{Choice}
use Rattle.speculate.specs.declared.choice.Choice.TheVariants as choices
use Rattle.board_lines.specs.declared.reply.Reply.{Reply}

abbrev pub chosen : Choice → steps.Choice
chosen (choices.Commit line) = ToCommit line
chosen (choices.Check line) = ToCheck line
chosen (choices.Take line) = ToTake line
chosen choices.Nothing = ToWait
chosen choices.End = ToEnd

-- the call that a choice names, with its reply; none, and no change, where it names none
abbrev pub Begins : {J : Type 0} → Planned → Board → ℕ → Choice → Option (Reply J) → Board → Type 0
Begins plan old worker (choices.Commit line) (Some reply) new =
    Answers plan old (TheCommit line) reply new
Begins plan old worker (choices.Check line) (Some reply) new =
    Answers plan old (TheCheck worker line) reply new
Begins plan old worker (choices.Take line) (Some reply) new =
    Answers plan old (TheTake worker line) reply new
Begins plan old worker choices.Nothing None new = new ≡ old
Begins plan old worker choices.End None new = new ≡ old
Begins plan old worker choice reply new = ⊥
