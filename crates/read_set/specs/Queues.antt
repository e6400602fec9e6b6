-- The queue of an item (circulation rules, holds). Of several entries of one patron the first counts.
use Rattle.std.specs.Prelude.{ℕ, Bool, true, false, not, ◌+◌, List, [], ◌∷◌, Option, Some, None, if◌then◌else◌}
use Rattle.std.specs.List.{list_any}
use Rattle.circ_records.specs.declared.holds.Hold.{Hold}
use Rattle.read_set.specs.Ids.{same}

-- whether a patron waits
abbrev pub waits : List ℕ → List Hold → Bool
waits patron holds = list_any (λ h. same h.patron patron) holds

-- whether somebody waits
abbrev pub has_queue : List Hold → Bool
has_queue [] = false
has_queue (h ∷ more) = true

-- whether the first entry is another's
abbrev pub first_is_another : List ℕ → List Hold → Bool
first_is_another patron [] = false
first_is_another patron (h ∷ more) = not (same h.patron patron)

-- a patron's position, the first having this number
abbrev pub position_from : ℕ → List ℕ → List Hold → Option ℕ
position_from n patron [] = None
position_from n patron (h ∷ more) = if same h.patron patron then Some n else position_from (n + 1) patron more

-- the queue without a patron's entry
abbrev pub without_hold : List ℕ → List Hold → List Hold
without_hold patron [] = []
without_hold patron (h ∷ more) = if same h.patron patron then more else h ∷ without_hold patron more

-- the queue with another pickup in a patron's entry
abbrev pub with_pickup : List ℕ → List ℕ → List Hold → List Hold
with_pickup patron pickup [] = []
with_pickup patron pickup (h ∷ more) = if same h.patron patron then (record h { pickup = pickup }) ∷ more else h ∷ with_pickup patron pickup more
