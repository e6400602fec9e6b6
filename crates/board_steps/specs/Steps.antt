-- A step of the board: from a board, by one of the five calls, with a reply, to a board (the
-- board).
use Rattle.std.specs.Prelude.{◌≡◌, ◌≢◌, ℕ, suc, ◌+◌, ◌-◌, ◌^◌, ◌<◌, ◌≤◌, ◌⊎◌, List, [], ◌∷◌, ◌++◌, Option, Some, None, length, slice_get, slice_set, replicate, if◌then◌else◌, nat_lt}
use Rattle.std.specs.FinMap.{insert, remove, empty}
use Rattle.std.specs.declared.cmp.Ordering.TheVariants.{Less}
use Rattle.circ_records.specs.Keys.{key_cmp}
use Rattle.circ_records.specs.Records.{record_at}
use Rattle.circ_records.specs.declared.key.Key.{Key}
use Rattle.circ_records.specs.declared.record.Record.{Record}
use Rattle.sip_answer.specs.declared.answer.Answer.{Answer}
use Rattle.read_set.specs.Plans.{Planned}
use Rattle.read_set.specs.Settling.{Contents, Settles}
use Rattle.read_set.specs.declared.notes.Name.{Name}
use Rattle.read_set.specs.declared.notes.Note.{Note}
use Rattle.version_store.specs.Entries.{Shown, shown_by, suspected}
use Rattle.version_store.specs.declared.entry.Found.{Found}
use Rattle.version_store.specs.declared.entry.Found.TheVariants.{Named, Suspect}
use Rattle.board_steps.specs.Board.{State, Row, Board, IsLine, row_at, entry, IsOf, IsCommitted, holder, value_at, found, EachNote}
use Rattle.board_steps.specs.Board.State.{Waiting, Running, Placing, Done, Checking, Committed}
use Rattle.board_steps.specs.Reached.{IsNow}

pub data Call : Type 0 where
  Take : (worker : ℕ) → (line : ℕ) → Call
  Look : (worker : ℕ) → (key : Key) → Call
  Publish : (worker : ℕ) → (version : Contents) → Call
  Check : (worker : ℕ) → (line : ℕ) → Call
  Commit : (line : ℕ) → Call

pub data Reply : Type 0 where
  Idle : Reply
  Taken : (attempt : ℕ) → Reply
  Seen : (name : Name) → (value : Option Record) → Reply
  Stopped : (line : ℕ) → Reply
  Stranger : Reply
  Placed : Reply
  Lifted : Reply
  Whole : Reply
  Same : Reply
  Changed : (key : Key) → (noted : Name) → (now : Found) → Reply
  Commits : Reply
  Later : Reply
  Attempts : (line : ℕ) → Reply
  ClockSpent : Reply

-- another row for a line; no other line changes
abbrev pub put_row : Board → ℕ → Row → Board
put_row b n r =
    record b { rows = if nat_lt n b.first then b.rows else slice_set b.rows (n - b.first) r }

abbrev pub with_state : Row → State → Row
with_state r s = record r { state = s }

-- the worker has nothing in hand
abbrev pub IsFree : Board → ℕ → Type 0
IsFree b w = (w < b.workers) × ((m : ℕ) → holder (row_at b m).state ≢ Some w)

-- ---- take
pub record MayTake (b : Board) (w n : ℕ) : Type 0 where
  pub within : IsLine b n
  pub free : IsFree b w
  pub waiting : (row_at b n).state ≡ Waiting

abbrev pub taken : Board → ℕ → ℕ → Board
taken b w n =
    record (put_row b n (record (row_at b n) { state = Running w []; next = (row_at b n).next + 1 })) { takes = b.takes + 1 }

abbrev pub TakeStep : Board → ℕ → ℕ → Reply → Board → Type 0
TakeStep old w n (Taken a) new =
    MayTake old w n × ((row_at old n).next < 2 ^ 32) × (a ≡ (row_at old n).next)
    × (new ≡ taken old w n)
TakeStep old w n (Attempts m) new =
    MayTake old w n × (2 ^ 32 ≤ (row_at old n).next) × (m ≡ n) × (new ≡ old)
TakeStep old w n Idle new = (MayTake old w n → ⊥) × (new ≡ old)
TakeStep old w n _ new = ⊥

-- ---- look
pub record MayLook (b : Board) (w : ℕ) (k : Key) (n : ℕ) (notes : List Note) : Type 0 where
  pub running : (row_at b n).state ≡ Running w notes
  pub unnoted : EachNote notes (λ x. x.key ≢ k)

-- key, name and record are noted
abbrev pub seen : Planned → Board → ℕ → Key → ℕ → List Note → Name → Board
seen plan b w k n notes name =
    put_row b n (with_state (row_at b n)
    (Running w (notes ++ record { key = k; name = name; found = value_at plan (row_at b) n k }
    ∷ [])))

-- the attempt ends
abbrev pub stopped : Board → ℕ → Board
stopped b n = record (put_row b n (with_state (row_at b n) Waiting)) { stops = b.stops + 1 }

abbrev pub LookStep : Planned → Board → ℕ → Key → Reply → Board → Type 0
LookStep plan old w k (Seen name value) new =
    (n : ℕ) × (notes : List Note) × MayLook old w k n notes × (found (row_at old) n k ≡ Named name)
    × (value ≡ value_at plan (row_at old) n k) × (new ≡ seen plan old w k n notes name)
LookStep plan old w k (Stopped m) new =
    (n : ℕ) × (notes : List Note) × MayLook old w k n notes × (found (row_at old) n k ≡ Suspect m)
    × (new ≡ stopped old n)
LookStep plan old w k Idle new =
    ((n : ℕ) (notes : List Note) → MayLook old w k n notes → ⊥) × (new ≡ old)
LookStep plan old w k _ new = ⊥

-- ---- publish
-- the line is in the worker's hand, to be published
abbrev pub MayPublish : Board → ℕ → ℕ → List Note → Type 0
MayPublish b w n notes =
    ((row_at b n).state ≡ Running w notes)
    ⊎ ((last : Option Contents) × ((row_at b n).state ≡ Placing w notes last))

-- the version is of the board's line, attempt and notes (keys, names, records)
pub record Fits (b : Board) (n : ℕ) (notes : List Note) (v : Contents) : Type 0 where
  pub same_line : v.line ≡ n
  pub same_attempt : suc v.attempt ≡ (row_at b n).next
  pub same_notes : v.reads ≡ notes

-- the next write: the least key of the version whose entry isn't of this attempt
pub record IsNextWrite (r : Row) (v : Contents) (k : Key) (value : Record) : Type 0 where
  pub written : record_at v.writes k ≡ Some value
  pub apart : IsOf r k v.attempt → ⊥
  pub least : (q : Key) (u : Record) → key_cmp q k ≡ Less → record_at v.writes q ≡ Some u → IsOf r q v.attempt

abbrev pub AllPlaced : Row → Contents → Type 0
AllPlaced r v = (q : Key) (u : Record) → record_at v.writes q ≡ Some u → IsOf r q v.attempt

-- the least key that an earlier attempt left and this one doesn't write
pub record IsNextLeft (r : Row) (v : Contents) (k : Key) : Type 0 where
  pub left : (e : Shown) × (entry r k ≡ Some e) × (e.attempt ≢ v.attempt)
  pub least : (q : Key) (e : Shown) → key_cmp q k ≡ Less → entry r q ≡ Some e → e.attempt ≡ v.attempt

abbrev pub NoneLeft : Row → Contents → Type 0
NoneLeft r v = (q : Key) (e : Shown) → entry r q ≡ Some e → e.attempt ≡ v.attempt

-- the clock can be raised
abbrev pub HasRoom : Board → Type 0
HasRoom b = b.clock + 1 < 2 ^ 64

-- a change of the entries of line n
abbrev pub changing : Board → ℕ → Row → Board
changing b n r = record (put_row b n (record r { changed = b.clock + 1 })) { clock = b.clock + 1 }

abbrev pub placed : Board → ℕ → ℕ → List Note → Contents → Key → Board
placed b w n notes v k =
    changing b n (record (row_at b n) {
      state = Placing w notes (Some v);
      entries = insert (row_at b n).entries k (shown_by v.attempt v);
    })

abbrev pub lifted : Board → ℕ → ℕ → List Note → Contents → Key → Board
lifted b w n notes v k =
    changing b n (record (row_at b n) {
      state = Placing w notes (Some v);
      entries = remove (row_at b n).entries k;
    })

abbrev pub PublishStep : Board → ℕ → Contents → Reply → Board → Type 0
PublishStep old w v Placed new =
    (n : ℕ) × (notes : List Note) × MayPublish old w n notes × Fits old n notes v
    × (k : Key) × (value : Record) × IsNextWrite (row_at old n) v k value × HasRoom old
    × (new ≡ placed old w n notes v k)
PublishStep old w v Lifted new =
    (n : ℕ) × (notes : List Note) × MayPublish old w n notes × Fits old n notes v
    × AllPlaced (row_at old n) v
    × (k : Key) × IsNextLeft (row_at old n) v k × HasRoom old × (new ≡ lifted old w n notes v k)
PublishStep old w v Whole new =
    (n : ℕ) × (notes : List Note) × MayPublish old w n notes × Fits old n notes v
    × AllPlaced (row_at old n) v × NoneLeft (row_at old n) v
    × (new ≡ put_row old n (with_state (row_at old n) (Done notes v.answer None)))
PublishStep old w v Stranger new =
    (n : ℕ) × (notes : List Note) × MayPublish old w n notes × (Fits old n notes v → ⊥)
    × (new ≡ old)
PublishStep old w v ClockSpent new =
    (n : ℕ) × (notes : List Note) × MayPublish old w n notes × Fits old n notes v
    × (AllPlaced (row_at old n) v → NoneLeft (row_at old n) v → ⊥) × (HasRoom old → ⊥) × (new ≡ old)
PublishStep old w v Idle new =
    ((n : ℕ) (notes : List Note) → MayPublish old w n notes → ⊥) × (new ≡ old)
PublishStep old w v _ new = ⊥

-- ---- check
-- a check of the line that begins now, or goes on: its notes, its answer, its stamp, and how many
-- were compared
abbrev pub Compares : Board → ℕ → ℕ → List Note → Option Answer → ℕ → ℕ → Type 0
Compares b w n notes answer t i =
    (IsFree b w × ((s : Option ℕ) × ((row_at b n).state ≡ Done notes answer s)) × (t ≡ b.clock)
    × (i ≡ 0))
    ⊎ ((row_at b n).state ≡ Checking w notes answer t i)

-- the i-th note is compared, and its name isn't that of the visible entry
pub record Differs (b : Board) (n : ℕ) (notes : List Note) (i : ℕ) (key : Key) (noted : Name) (now : Found) : Type 0 where
  pub value : Option Record
  pub note : slice_get notes i ≡ Some (record { key = key; name = noted; found = value })
  pub now_is : now ≡ found (row_at b) n key
  pub other : now ≢ Named noted

abbrev pub HasNone : Row → Type 0
HasNone r = (k : Key) → entry r k ≡ None

abbrev pub failing : Board → Board
failing b = record b { failed = b.failed + 1 }

-- its own entries become suspect
abbrev pub marked : Board → ℕ → Board
marked b n =
    failing (changing b n (record
    (row_at b n) { state = Waiting; entries = suspected (row_at b n).entries }))

abbrev pub CheckStep : Board → ℕ → ℕ → Reply → Board → Type 0
CheckStep old w n Same new =
    (notes : List Note) × (answer : Option Answer) × (t : ℕ) × (i : ℕ)
    × Compares old w n notes answer t i
    × (x : Note) × (slice_get notes i ≡ Some x) × IsNow (row_at old) n x
    × (new ≡ put_row old n (with_state (row_at old n) (Checking w notes answer t (i + 1))))
CheckStep old w n (Changed key noted now) new =
    (notes : List Note) × (answer : Option Answer) × (t : ℕ) × (i : ℕ)
    × Compares old w n notes answer t i × Differs old n notes i key noted now
    × ((HasNone (row_at old n)
    × (new ≡ failing (put_row old n (with_state (row_at old n) Waiting))))
    ⊎ ((HasNone (row_at old n) → ⊥) × HasRoom old × (new ≡ marked old n)))
CheckStep old w n Whole new =
    (notes : List Note) × (answer : Option Answer) × (t : ℕ) × (i : ℕ)
    × Compares old w n notes answer t i × (length notes ≤ i)
    × (new ≡ put_row old n (with_state (row_at old n) (Done notes answer (Some t))))
CheckStep old w n ClockSpent new =
    (notes : List Note) × (answer : Option Answer) × (t : ℕ) × (i : ℕ)
    × Compares old w n notes answer t i
    × ((key : Key) × (noted : Name) × (now : Found) × Differs old n notes i key noted now)
    × (HasNone (row_at old n) → ⊥) × (HasRoom old → ⊥) × (new ≡ old)
CheckStep old w n Idle new =
    ((notes : List Note) (answer : Option Answer) (t i : ℕ) → Compares old w n notes answer t i → ⊥)
    × (new ≡ old)
CheckStep old w n _ new = ⊥

-- ---- commit
-- May commit: all lines below are committed, the line is done with a stamp, and no line below has
-- changed since.
pub record MayCommit (b : Board) (n : ℕ) (notes : List Note) (answer : Option Answer) (t : ℕ) : Type 0 where
  pub below : (m : ℕ) → b.first ≤ m → m < n → IsCommitted (row_at b m).state
  pub done : (row_at b n).state ≡ Done notes answer (Some t)
  pub unchanged : (m : ℕ) → m < n → (row_at b m).changed ≤ t

abbrev pub CommitStep : Board → ℕ → Reply → Board → Type 0
CommitStep old n Commits new =
    (notes : List Note) × (answer : Option Answer) × (t : ℕ) × MayCommit old n notes answer t
    × (new ≡ record (put_row old n
    (with_state (row_at old n) (Committed answer))) { committed = old.committed + 1 })
CommitStep old n Later new =
    IsLine old n × (IsCommitted (row_at old n).state → ⊥)
    × ((notes : List Note) (answer : Option Answer) (t : ℕ) → MayCommit old n notes answer t → ⊥)
    × (new ≡ old)
CommitStep old n Idle new = ((IsLine old n → ⊥) ⊎ IsCommitted (row_at old n).state) × (new ≡ old)
CommitStep old n _ new = ⊥

-- ---- steps
abbrev pub Step : Planned → Board → Call → Reply → Board → Type 0
Step plan old (Take w n) reply new = TakeStep old w n reply new
Step plan old (Look w k) reply new = LookStep plan old w k reply new
Step plan old (Publish w v) reply new = PublishStep old w v reply new
Step plan old (Check w n) reply new = CheckStep old w n reply new
Step plan old (Commit n) reply new = CommitStep old n reply new

-- a version settles: it is the meaning of its line on its notes
abbrev pub IsVersion : Planned → Contents → Type 0
IsVersion plan v = Settles plan v.line v.reads v.writes v.answer

abbrev pub ByVersion : Planned → Call → Type 0
ByVersion plan (Publish w v) = IsVersion plan v
ByVersion plan (Take w n) = Unit {0}
ByVersion plan (Look w k) = Unit {0}
ByVersion plan (Check w n) = Unit {0}
ByVersion plan (Commit n) = Unit {0}

-- a line that waits for its first attempt
abbrev pub opening_row : ℕ → Row
opening_row attempt = record { state = Waiting; next = attempt; changed = 0; entries = empty }

-- An opening board: all lines of the plan waiting, no entries.
abbrev pub opening : Planned → ℕ → ℕ → ℕ → Board
opening plan workers attempt clock = record {
  first = plan.first;
  rows = replicate (length plan.readings) (opening_row attempt);
  workers = workers;
  clock = clock;
  committed = 0;
  takes = 0;
  failed = 0;
  stops = 0;
}

-- steps one after another
abbrev pub Run : Planned → Board → List (Call × Reply) → Board → Type 0
Run plan old [] new = new ≡ old
Run plan old (step ∷ steps) new =
    ByVersion plan step.0 × ((mid : Board) × Step plan old step.0 step.1 mid
    × Run plan mid steps new)

-- Why line m waits again. A check of it compared a note that it has, and failed: the reply says the
-- key, the name that was noted there, and the name that is found there now, which is another. Or
-- the line looked at a key that it hasn't noted, and the entry that is found there, of the line
-- that the reply names, is suspect.
abbrev pub SendsBack : Board → ℕ → Call → Reply → Type 0
SendsBack old m (Check w n) (Changed key noted now) =
    (n ≡ m) × (notes : List Note) × (answer : Option Answer) × (t : ℕ) × (i : ℕ)
    × Compares old w m notes answer t i × Differs old m notes i key noted now
SendsBack old m (Look w k) (Stopped line) =
    (notes : List Note) × MayLook old w k m notes × (found (row_at old) m k ≡ Suspect line)
SendsBack old m call reply = ⊥
