-- The replay by one thread: the lines in the order of the journal, each on the records that the lines before it left.
use Rattle.std.specs.Prelude.{◌≡◌, ℕ, zero, suc, ◌+◌, ◌-◌, length, Option, Some, None}
use Rattle.circ_records.specs.Records.{record_at}
use Rattle.circ_records.specs.declared.key.Key.{Key}
use Rattle.sip_answer.specs.declared.answer.Answer.{Answer}
use Rattle.sip_reader.specs.declared.request.Reading.{Reading}
use Rattle.read_set.specs.Maps.{Map, put}
use Rattle.read_set.specs.Meaning.{one}
use Rattle.read_set.specs.Plans.{Planned, deed_at, reading_at}
use Rattle.read_set.specs.declared.effect.Effect.{Effect}

-- the meaning of the line of a number, where the plan has that line; else nothing changes
abbrev pub one_by : Planned → ℕ → Option Reading → Map → Map × Option Answer
one_by plan line None M = (M, None)
one_by plan line (Some r) M = one plan.policy line r (deed_at plan line) M

abbrev pub one_at : Planned → ℕ → Map → Map × Option Answer
one_at plan line M = one_by plan line (reading_at plan line) M

-- the records after the first lines, whose number is given: at first the base
abbrev pub after : Planned → ℕ → Map
after plan zero = record_at plan.base
after plan (suc n) = (one_at plan (plan.first + n) (after plan n)).0

-- the records before the line of a number
abbrev pub before : Planned → ℕ → Map
before plan line = after plan (line - plan.first)

-- the answer of the line of a number, where it has one
abbrev pub answer_of : Planned → ℕ → Option Answer
answer_of plan line = (one_at plan line (before plan line)).1

-- the records after all lines
abbrev pub last : Planned → Map
last plan = after plan (length plan.readings)

-- over these records the line of a number writes this and answers this
abbrev pub GivesAt : Planned → ℕ → Map → Effect → Type 0
GivesAt plan line M e = ((k : Key) → (one_at plan line M).0 k ≡ put e.writes M k) × ((one_at plan line M).1 ≡ e.answer)
