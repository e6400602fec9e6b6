-- What notes determine.
use Rattle.std.specs.Prelude.{◌≡◌, ℕ, List, [], ◌∷◌, Option}
use Rattle.circ_records.specs.Records.{Entries}
use Rattle.sip_answer.specs.declared.answer.Answer.{Answer}
use Rattle.read_set.specs.Maps.{Map}
use Rattle.read_set.specs.Plans.{Planned}
use Rattle.read_set.specs.Replay.{GivesAt}
use Rattle.read_set.specs.declared.notes.Note.{Note}

-- True notes: the map has each noted record, and each noted absence, at its key.
abbrev pub AreTrue : List Note → Map → Type 0
AreTrue [] M = Unit {0}
AreTrue (n ∷ more) M = (M n.key ≡ n.found) × AreTrue more M

-- Notes fix what a line writes and answers: over every map in which they are true, its meaning is that map with
-- these writes put over it, and this answer.
abbrev pub Settles : Planned → ℕ → List Note → Entries → Option Answer → Type 0
Settles plan line notes writes answer = (M : Map) → AreTrue notes M → GivesAt plan line M (record { writes = writes; answer = answer })

-- the contents of a version: which attempt at which line it is of, what was read, what is written and answered
pub record Contents : Type 0 where
  pub line : ℕ
  pub attempt : ℕ
  pub reads : List Note
  pub writes : Entries
  pub answer : Option Answer
