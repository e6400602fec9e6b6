-- How far the publication of a version has come.
use Rattle.std.specs.Prelude.{◌≡◌, ℕ, suc, ◌<◌, ◌⊎◌, List, Option, Some, None, slice_get}
use Rattle.circ_records.specs.Records.{Entries}
use Rattle.circ_records.specs.declared.key.Key.{Key}
use Rattle.circ_records.specs.declared.record.Record.{Record}
use Rattle.read_set.specs.Plans.{Planned}
use Rattle.read_set.specs.Settling.{Contents}
use Rattle.read_set.specs.declared.notes.Note.{Note}
use Rattle.version_store.specs.Entries.{Line}
use Rattle.version_store.specs.declared.table.Place.{Place}
use Rattle.board_steps.specs.Board.{Row, Board, row_at}
use Rattle.board_steps.specs.Board.State.{Placing}
use Rattle.board_steps.specs.Steps.{IsVersion}
use Rattle.board_steps.specs.Steps.Call.{Publish}
use Rattle.board_lines.specs.Acts.{IsPlacedAt, IsPlacing}
use Rattle.board_lines.specs.Notes.{contents_at}
use Rattle.board_lines.specs.Replies.{Answers}
use Rattle.board_lines.specs.declared.acts.PublishAct.{PublishAct}
use Rattle.board_lines.specs.declared.acts.PublishAct.TheVariants as acts
use Rattle.board_lines.specs.declared.reply.Reply.{Reply}
use Rattle.board_lines.specs.declared.row.LineProgress.{LineProgress}

-- the first `count` writes have their entries, of this attempt
abbrev pub FirstPlaced : Line → ℕ → Entries → ℕ → Type 0
FirstPlaced l a writes count =
    (j : ℕ) (x : Key × Record) → j < count → slice_get writes j ≡ Some x → IsPlacedAt l a x.0

-- the same, except for the write at this key
abbrev pub FirstPlacedBut : Line → ℕ → Entries → Key → ℕ → Type 0
FirstPlacedBut l a writes k count =
    (j : ℕ) (x : Key × Record) → j < count → slice_get writes j ≡ Some x
    → (x.0 ≡ k) ⊎ IsPlacedAt l a x.0

-- the count of placed writes is right once the act is done
abbrev pub ComesTo : Line → Contents → PublishAct → Type 0
ComesTo l v (acts.Write k count) = FirstPlacedBut l v.attempt v.writes k.now count
ComesTo l v (acts.Lift k) = Unit {0}
ComesTo l v acts.Finish = Unit {0}

-- the version is of the line, its attempt and its notes, and its publication has got this far
pub record UnderWay (n : ℕ) (r : Row) (notes : List Note) (v : Contents) (c : LineProgress) : Type 0 where
  pub same_line : v.line ≡ n
  pub same_attempt : suc v.attempt ≡ r.next
  pub same_notes : v.reads ≡ notes
  pub placed : FirstPlaced r.entries v.attempt v.writes c.placed

abbrev pub IsUnderWay : ℕ → Row → List Note → Option Contents → LineProgress → Type 0
IsUnderWay n r notes None c = ⊥
IsUnderWay n r notes (Some v) c = UnderWay n r notes v c

-- the worker's line in hand, where that line is being published, the place of its version, and how
-- many writes are placed
abbrev pub IsUnderWayOf : {J : Type 0} → Board → ℕ → Option (ℕ × Place J × ℕ) → Type 0
IsUnderWayOf b w None = IsPlacing b w None
IsUnderWayOf b w (Some p) =
    (notes : List Note) × ((row_at b p.0).state ≡ Placing w notes (Some (contents_at p.1)))
    × UnderWay p.0 (row_at b p.0) notes (contents_at p.1) (record { placed = p.2 })

-- The next act for the line that the worker has in hand, where that line is being published: an act
-- of the same version as the last act. Else None, and no change.
abbrev pub PublishesMore : {J : Type 0} → Planned → Board → ℕ → Option (Reply J) → Board → Type 0
PublishesMore plan old w None new = IsPlacing old w None × (new ≡ old)
PublishesMore plan old w (Some reply) new =
    (v : Contents) × IsPlacing old w (Some v) × IsVersion plan v
    × Answers plan old (Publish w v) reply new
