-- A list of steps of workers, played one after another (the board; the headline over lists of
-- steps).
use Rattle.std.specs.Prelude.{◌≡◌, ℕ, suc, ◌⊎◌, List, [], ◌∷◌, Option, Some, None, slice_get, take}
use Rattle.circ_records.specs.declared.key.Key.{Key}
use Rattle.message_meaning.specs.Rules.{rule_at}
use Rattle.read_set.specs.Asks.{follow, Reached as Outcome, Done as EndsIn, Wants as AsksFor}
use Rattle.read_set.specs.Notes.{noted}
use Rattle.read_set.specs.Plans.{Planned}
use Rattle.read_set.specs.Settling.{Contents}
use Rattle.read_set.specs.Wanted.{Wanted}
use Rattle.read_set.specs.declared.effect.Effect.{Effect}
use Rattle.read_set.specs.declared.notes.Note.{Note}
use Rattle.board_steps.specs.Board.{Board, row_at, holder}
use Rattle.board_steps.specs.Board.State.{Placing, Running}
use Rattle.board_steps.specs.Steps.{IsVersion, Reply, Step}
use Rattle.board_steps.specs.Steps.Call.{Check, Commit, Look, Publish, Take}
use Rattle.board_steps.specs.Steps.Reply.{Attempts, ClockSpent, Idle}
use Rattle.board_lines.specs.Hands.{HasNoLine, notes_of}
use Rattle.board_lines.specs.Replies.{Grows}
use Rattle.speculate.specs.declared.steps.BoardFault.{BoardFault}
use Rattle.speculate.specs.declared.steps.BoardFault.TheVariants as faults
use Rattle.speculate.specs.declared.steps.Halt.{Halt}
use Rattle.speculate.specs.declared.steps.Step.{Step as WorkerStep}
use Rattle.speculate.specs.declared.steps.Step.TheVariants as steps

-- the worker has line n in hand, in attempt a, with these notes
pub record InHand (b : Board) (w n a : ℕ) (notes : List Note) : Type 0 where
  pub held : holder (row_at b n).state ≡ Some w
  pub attempt : suc a ≡ (row_at b n).next
  pub noted : notes_of (row_at b n).state ≡ notes

-- how far the rule of line n gets with what is noted for it (the order of asking)
abbrev pub stands_at : Planned → ℕ → List Note → Outcome Effect
stands_at plan n notes = follow (noted notes) (rule_at plan n)

-- the rule of the line in hand asks for the record at a key, which is wanted
abbrev pub Wants : Planned → Board → ℕ → Key → Type 0
Wants plan b w k =
    (n : ℕ) × (a : ℕ) × (notes : List Note) × InHand b w n a notes
    × (stands_at plan n notes ≡ AsksFor k) × Wanted plan n (noted notes) k

-- The version of the line in hand: its number, its attempt, its notes, and what its rule results in
-- on these. So the notes determine it.
abbrev pub HasVersion : Planned → Board → ℕ → Contents → Type 0
HasVersion plan b w v =
    (n : ℕ) × (a : ℕ) × (notes : List Note) × InHand b w n a notes
    × (v.line ≡ n) × (v.attempt ≡ a) × (v.reads ≡ notes)
    × (stands_at plan n notes ≡ EndsIn (record { writes = v.writes; answer = v.answer }))
    × IsVersion plan v

-- the version of the last act of publication of the line in hand
abbrev pub HasLast : Board → ℕ → Contents → Type 0
HasLast b w v = (n : ℕ) × (notes : List Note) × ((row_at b n).state ≡ Placing w notes (Some v))

-- the version that a publication continues, or begins with
abbrev pub ToPublish : Planned → Board → ℕ → Contents → Type 0
ToPublish plan b w v =
    HasLast b w v ⊎ (((u : Contents) → HasLast b w u → ⊥) × HasVersion plan b w v)

-- there is nothing to publish: no line is in hand, or one of which nothing is published yet and
-- whose rule asks for a record
abbrev pub Rests : Planned → Board → ℕ → Type 0
Rests plan b w =
    HasNoLine b w ⊎ (((u : Contents) → HasLast b w u → ⊥) × (k : Key) × Wants plan b w k)

-- A look: at the wanted key for which the rule of the line in hand asks. It is idle where nothing
-- is in hand, or the rule has ended.
abbrev pub Looks : Planned → Board → ℕ → Reply → Board → Type 0
Looks plan old w reply new =
    ((k : Key) × Wants plan old w k × Step plan old (Look w k) reply new)
    ⊎ ((HasNoLine old w ⊎ ((v : Contents) × HasVersion plan old w v)) × (reply ≡ Idle)
    × (new ≡ old))

-- A publication: of the version of the last act, else of the version of the line in hand. It is
-- idle where there is nothing to publish.
abbrev pub Publishes : Planned → Board → ℕ → Reply → Board → Type 0
Publishes plan old w reply new =
    ((v : Contents) × ToPublish plan old w v × IsVersion plan v
    × Step plan old (Publish w v) reply new)
    ⊎ (Rests plan old w × (reply ≡ Idle) × (new ≡ old))

-- what a worker's step does
abbrev pub StepOf : Planned → Board → WorkerStep → Reply → Board → Type 0
StepOf plan old (steps.Take w n) reply new = Step plan old (Take w n) reply new
StepOf plan old (steps.Look w) reply new = Looks plan old w reply new
StepOf plan old (steps.Publish w) reply new = Publishes plan old w reply new
StepOf plan old (steps.Check w n) reply new = Step plan old (Check w n) reply new
StepOf plan old (steps.Commit n) reply new = Step plan old (Commit n) reply new

-- the replies that stop a list of steps
abbrev pub refusal : Reply → Option BoardFault
refusal (Attempts n) = Some (faults.Attempts n)
refusal ClockSpent = Some faults.ClockSpent
refusal _ = None

-- a step that isn't refused leads from a board to another
abbrev pub Goes : Planned → Board → WorkerStep → Board → Type 0
Goes plan old step new = (reply : Reply) × StepOf plan old step reply new × (refusal reply ≡ None)

-- The steps of a list, one after another, none of them refused, lead from a board to another.
abbrev pub Plays : Planned → Board → List WorkerStep → Board → Type 0
Plays plan old [] new = new ≡ old
Plays plan old (step ∷ more) new = (mid : Board) × Goes plan old step mid × Plays plan mid more new

-- the worker's line runs: what it needs is asked and noted, and nothing is published yet
abbrev pub HasRunning : Board → ℕ → Type 0
HasRunning b w = (n : ℕ) × (notes : List Note) × ((row_at b n).state ≡ Running w notes)

-- a publication is to go on that would place an entry: so its next act is no lifting and no end,
-- and the clock can be raised
abbrev pub WouldPlace : Planned → Board → ℕ → Type 0
WouldPlace plan b w = (v : Contents) × HasLast b w v × IsVersion plan v × Grows plan b (Publish w v)

-- Where a step can run out of memory. If the worker's line runs, a look and a publication ask
-- what the line needs: following its rule over its notes takes memory, whatever the rule results
-- in. No other step asks that: a publication that is to go on takes memory exactly if it would
-- place an entry, and a step for a line that is published in part or is being checked takes none.
abbrev pub MayWant : Planned → Board → WorkerStep → Type 0
MayWant plan b (steps.Look w) = HasRunning b w
MayWant plan b (steps.Publish w) = HasRunning b w ⊎ WouldPlace plan b w
MayWant plan b (steps.Take w n) = ⊥
MayWant plan b (steps.Check w n) = ⊥
MayWant plan b (steps.Commit n) = ⊥

-- A step is refused: no attempt is left, or the clock is at its end, exactly if the board's
-- reply says so; or it runs out of memory, where it can.
abbrev pub Refuses : Planned → Board → WorkerStep → BoardFault → Type 0
Refuses plan b step (faults.Attempts n) = StepOf plan b step (Attempts n) b
Refuses plan b step faults.ClockSpent = StepOf plan b step ClockSpent b
Refuses plan b step faults.Memory = MayWant plan b step

-- a step that is refused leaves the board as it was
abbrev pub IsRefused : Planned → Board → WorkerStep → BoardFault → Board → Type 0
IsRefused plan old step fault new = Refuses plan old step fault × (new ≡ old)

-- A list stops: the first `halt.done` steps were made, the next is refused, and the board is the
-- one before it.
abbrev pub Halts : Planned → Board → List WorkerStep → Halt → Board → Type 0
Halts plan old steps halt new =
    Plays plan old (take halt.done steps) new × (step : WorkerStep)
    × (slice_get steps halt.done ≡ Some step) × Refuses plan new step halt.fault
