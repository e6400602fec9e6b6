-- What a line needs next, on what is noted for it: its rule asks for its records in one order (Rules), and is followed over the notes as far as they go.
use Rattle.std.specs.Prelude.{◌≡◌, ◌⊎◌, ℕ, List, None}
use Rattle.circ_records.specs.declared.key.Key.{Key}
use Rattle.message_meaning.specs.Rules.{rule_at}
use Rattle.read_set.specs.Asks.{follow, Done, IsAsked, Wants}
use Rattle.read_set.specs.Notes.{noted}
use Rattle.read_set.specs.Plans.{Planned}
use Rattle.read_set.specs.Wanted.{Wanted}
use Rattle.read_set.specs.declared.notes.Note.{Note}
use Rattle.read_set.specs.declared.version.Need.{Need}
use Rattle.read_set.specs.declared.version.Need.TheVariants as needs

-- what a line needs on its notes: the record at the key for which its rule asks, which is wanted, or nothing any more,
-- and then the version of this line, attempt and notes with just the writes and the answer that its rule results in
abbrev pub IsNeed : {J : Type 0} → Planned → ℕ → ℕ → List Note → Need J → Type 0
IsNeed plan line attempt notes (needs.Key k) = Wanted plan line (noted notes) k × (follow (noted notes) (rule_at plan line) ≡ Wants k)
IsNeed plan line attempt notes (needs.Done v) =
    (follow (noted notes) (rule_at plan line) ≡ Done (record { writes = v.writes; answer = v.answer }))
    × (v.line ≡ line) × (v.attempt ≡ attempt) × (v.reads ≡ notes)

-- nothing is noted for a line but what its rule asks for
abbrev pub AreAsked : Planned → ℕ → List Note → Type 0
AreAsked plan line notes = (k : Key) → (noted notes k ≡ None) ⊎ IsAsked (noted notes) (rule_at plan line) k
