-- One act of a publication: which line it is for, and what it does.
use Rattle.std.specs.Prelude.{◌≡◌, ◌≢◌, ℕ, suc, ◌<◌, List, Option, Some, None, slice_get}
use Rattle.std.specs.FinMap.{get}
use Rattle.circ_records.specs.Records.{Entries}
use Rattle.circ_records.specs.declared.key.Key.{Key}
use Rattle.circ_records.specs.declared.record.Record.{Record}
use Rattle.read_set.specs.Settling.{Contents}
use Rattle.read_set.specs.declared.notes.Note.{Note}
use Rattle.version_store.specs.Entries.{Shown, Line}
use Rattle.board_steps.specs.Board.{Row, Board, IsLine, row_at}
use Rattle.board_steps.specs.Board.State.{Placing}
use Rattle.board_steps.specs.Steps.{MayPublish, IsNextWrite, AllPlaced, IsNextLeft, NoneLeft}
use Rattle.board_lines.specs.Hands.{notes_of}
use Rattle.board_lines.specs.declared.hand.Hand.{Hand}
use Rattle.board_lines.specs.declared.acts.PublishAct.{PublishAct}
use Rattle.board_lines.specs.declared.acts.PublishAct.TheVariants as acts

-- what a line has noted
abbrev pub notes_at : Board → ℕ → List Note
notes_at b n = notes_of (row_at b n).state

-- the worker's line in hand is to be published; or the worker has no such line
abbrev pub IsToPublish : Board → ℕ → Option Hand → Type 0
IsToPublish b w None = (n : ℕ) (notes : List Note) → MayPublish b w n notes → ⊥
IsToPublish b w (Some h) =
    IsLine b h.line × MayPublish b w h.line (notes_at b h.line)
    × (suc h.attempt ≡ (row_at b h.line).next)

-- the version of the last act of publication of the worker's line in hand, where that line is being
-- published
abbrev pub IsPlacing : Board → ℕ → Option Contents → Type 0
IsPlacing b w None =
    (n : ℕ) (notes : List Note) (last : Option Contents) → (row_at b n).state ≢ Placing w notes last
IsPlacing b w (Some v) =
    (n : ℕ) × (notes : List Note) × ((row_at b n).state ≡ Placing w notes (Some v))

-- the line has an entry of the attempt at a key
abbrev pub IsPlacedAt : Line → ℕ → Key → Type 0
IsPlacedAt l a k = (e : Shown) × (get l k ≡ Some e) × (e.attempt ≡ a)

-- the first write that isn't placed
abbrev pub IsFirstApart : Line → ℕ → Entries → Option ℕ → Type 0
IsFirstApart l a writes None =
    (j : ℕ) (x : Key × Record) → slice_get writes j ≡ Some x → IsPlacedAt l a x.0
IsFirstApart l a writes (Some i) =
    ((x : Key × Record) × (slice_get writes i ≡ Some x) × (IsPlacedAt l a x.0 → ⊥))
    × ((j : ℕ) (x : Key × Record) → j < i → slice_get writes j ≡ Some x → IsPlacedAt l a x.0)

-- The next act: the next write is placed; when all are placed, the least key that an earlier
-- attempt left is lifted; when none is left, all is published.
abbrev pub IsAct : Row → Contents → PublishAct → Type 0
IsAct r v (acts.Write k count) = (value : Record) × IsNextWrite r v k.now value
IsAct r v (acts.Lift k) = AllPlaced r v × IsNextLeft r v k.now
IsAct r v acts.Finish = AllPlaced r v × NoneLeft r v
