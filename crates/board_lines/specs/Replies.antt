-- What a call of the board does and returns: one step, or that memory ran out, which leaves the
-- board as it was.
use Rattle.std.specs.Prelude.{◌≡◌, Option, option_map}
use Rattle.circ_records.specs.declared.record.Record.{Record}
use Rattle.read_set.specs.declared.notes.Name.{Name}
use Rattle.read_set.specs.Plans.{Planned}
use Rattle.board_steps.specs.Board.{Board}
use Rattle.board_steps.specs.Steps.{Call, Step}
use Rattle.board_steps.specs.Steps.Call.{Take, Look, Publish, Check, Commit}
use Rattle.board_steps.specs.Steps.Reply.{Idle as TheIdle, Taken as TheTaken, Seen as TheSeen, Stopped as TheStopped, Stranger as TheStranger, Placed as ThePlaced, Lifted as TheLifted, Whole as TheWhole, Same as TheSame, Changed as TheChanged, Commits as TheCommits, Later as TheLater, Attempts as TheAttempts, ClockSpent as TheClockSpent}
use Rattle.board_lines.specs.Notes.{found_by, contents_at}
use Rattle.board_lines.specs.declared.reply.Reply.{Reply}
use Rattle.board_lines.specs.declared.reply.Reply.TheVariants as replies

-- A call can run out of memory only if its step would add something: a look that would note what
-- it sees, and an act of publication that would place an entry.
abbrev pub Grows : Planned → Board → Call → Type 0
Grows plan old (Look w k) =
    (name : Name) × (value : Option Record) × (new : Board)
    × Step plan old (Look w k) (TheSeen name value) new
Grows plan old (Publish w v) = (new : Board) × Step plan old (Publish w v) ThePlaced new
Grows plan old (Take w n) = ⊥
Grows plan old (Check w n) = ⊥
Grows plan old (Commit n) = ⊥

-- a look sees the base's record, or what the version at the place writes
abbrev pub SeenStep : {J : Type 0} → Planned → Board → Call → Reply J → Board → Type 0
SeenStep plan old (Look w k) (replies.Seen name place) new =
    Step plan old (Look w k) (TheSeen name
    (found_by plan.base k (option_map contents_at place))) new
SeenStep plan old call reply new = ⊥

abbrev pub Answers : {J : Type 0} → Planned → Board → Call → Reply J → Board → Type 0
Answers plan old call replies.Idle new = Step plan old call TheIdle new
Answers plan old call (replies.Taken attempt) new = Step plan old call (TheTaken attempt) new
Answers plan old call (replies.Seen name place) new =
    SeenStep plan old call (replies.Seen name place) new
Answers plan old call (replies.Suspect line) new = Step plan old call (TheStopped line) new
Answers plan old call replies.Stranger new = Step plan old call TheStranger new
Answers plan old call replies.Placed new = Step plan old call ThePlaced new
Answers plan old call replies.Lifted new = Step plan old call TheLifted new
Answers plan old call replies.Whole new = Step plan old call TheWhole new
Answers plan old call replies.Same new = Step plan old call TheSame new
Answers plan old call (replies.Changed key noted found) new =
    Step plan old call (TheChanged key noted found) new
Answers plan old call replies.Committed new = Step plan old call TheCommits new
Answers plan old call replies.Later new = Step plan old call TheLater new
Answers plan old call (replies.Attempts line) new = Step plan old call (TheAttempts line) new
Answers plan old call replies.ClockSpent new = Step plan old call TheClockSpent new
Answers plan old call replies.Memory new = Grows plan old call × (new ≡ old)
