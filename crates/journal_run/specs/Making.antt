-- A journal while it is made: which pairs left it, are whole, or still come.
use Rattle.std.specs.Prelude.{◌≡◌, ◌+◌, ◌≤◌, ◌++◌, ◌∷◌, ℕ, [], List, false, length, map, ⊤}
use Rattle.std.specs.List.{AllByRecursion}
use Rattle.log_pairs.specs.Pairs.{Becomes, Open, Pair, Pending, Said, after, answered, pair_of, pairs_of, start}
use Rattle.journal_run.specs.Sums.{Sums, made_sums, sums_of}
use Rattle.journal_run.specs.Stops.{most_of, IsNamed, IsRefusal, IsRefused}
use Rattle.journal_run.specs.declared.making.JournalRows.{JournalRows}
use Rattle.journal_run.specs.declared.making.Making.{Making}
use Rattle.journal_run.specs.declared.making.Taken.{Taken}
use Rattle.journal_run.specs.declared.making.Taken.TheVariants.{Refused}
use Rattle.journal_run.specs.declared.stop.MakingError.{MakingError}
use Rattle.journal_run.specs.declared.stop.MakingError.TheVariants as errors

-- no response comes for these any more
abbrev pub AreClosed : List Pending → Type 0
AreClosed ps = AllByRecursion (λ p. p.is_open ≡ false) ps

-- these requests, then those that wait
abbrev pub behind : List Pending → Open → Open
behind gone o = record o { pending = gone ++ o.pending }

-- The journal of these requests, of which the first are whole; and of these the pairs that were taken as rows, numbered so.
pub record Keeps (first : JournalRows) (o : Open) (gone : List Pending) (taken : List Pair) (m : Making) : Type 0 where
  pub closed : AreClosed gone
  pub waits : Becomes (behind gone m.pairing) o
  pub whole : map pair_of gone ≡ taken ++ m.ready.items
  pub asked : o.asked ≡ length o.pending
  pub few : o.asked ≤ most_of first
  pub limit : m.most ≡ most_of first
  pub number : m.number ≡ first.number + length taken
  pub begun : m.begun ≡ false → taken ≡ []
  pub exchanges : m.exchanges ≡ length gone
  pub unanswered : m.unanswered + answered (map pair_of gone) ≡ length gone

abbrev pub KeepsSome : JournalRows → Open → List Pair → Making → Type 0
KeepsSome first o taken m = (gone : List Pending) × Keeps first o gone taken m

-- the journal of what was said
abbrev pub Stays : JournalRows → List Said → List Pair → Making → Type 0
Stays first said taken m = KeepsSome first (after start said) taken m

-- Of what waits some becomes whole; nothing else changes.
abbrev pub Collects : Making → Making → Type 0
Collects old new = (new.begun ≡ old.begun) × ((first : JournalRows) (o : Open) (taken : List Pair) → KeepsSome first o taken old → KeepsSome first o taken new)

-- The journal takes what is said: no pair is lost, none comes twice, and none is taken as a row.
abbrev pub Takes : Said → Making → Making → Type 0
Takes x old new = (new.begun ≡ old.begun) × ((first : JournalRows) (said : List Said) (taken : List Pair) → Stays first said taken old → Stays first (said ++ x ∷ []) taken new)

-- the same of a message, unless it is refused, for this reason
abbrev pub TakesMessage : Taken → Said → Making → Making → Type 0
TakesMessage (Refused why) x old new = (new ≡ old) × IsRefusal old.most old.pairing.asked x why.now
TakesMessage taken x old new = Takes x old new

-- a message that is refused
abbrev pub Refuses : Taken → Type 0
Refuses (Refused why) = ⊤
Refuses taken = ⊥

-- Nothing more is said: all pairs that weren't taken as rows are whole, and counted.
pub record Closes (first : JournalRows) (said : List Said) (taken : List Pair) (m : Making) : Type 0 where
  pub pairs : pairs_of said ≡ taken ++ m.ready.items
  pub number : m.number ≡ first.number + length taken
  pub begun : m.begun ≡ false → taken ≡ []
  pub sums : made_sums m ≡ sums_of said

-- The journal takes all this, one after the other, and no name is too long.
abbrev pub TakesAll : List Said → Making → Making → Type 0
TakesAll xs old new = (new.begun ≡ old.begun) × AllByRecursion IsNamed xs
    × ((first : JournalRows) (said : List Said) (taken : List Pair) → Stays first said taken old → Stays first (said ++ xs) taken new)

-- the same, unless it is refused, for this reason
abbrev pub TakesFound : Taken → List Said → Making → Making → Type 0
TakesFound (Refused why) xs old new = (new ≡ old) × ((x : Said) × (xs ≡ x ∷ []) × IsRefusal old.most old.pairing.asked x why.now)
TakesFound taken xs old new = TakesAll xs old new

-- The journal takes what comes before a message that is refused, as the error says; or memory runs out.
abbrev pub StopsTaking : List Said → Making → Making → MakingError → Type 0
StopsTaking xs old new errors.Memory = ⊤
StopsTaking xs old new error = (ys : List Said) × (x : Said) × (rest : List Said) × (xs ≡ ys ++ x ∷ rest) × TakesAll ys old new × IsRefused new.most new.pairing.asked x error
