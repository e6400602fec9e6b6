-- How readings are in memory: in stretches of one length, of which the last may be shorter.
use Rattle.std.specs.Prelude.{◌≡◌, ◌+◌, ◌<◌, ◌≤◌, ℕ, List, [], ◌∷◌, length, flat_map, map, Vec}
use Rattle.std.specs.List.{AllByRecursion}
use Rattle.sip_reader.specs.declared.request.Reading.{Reading}
use Rattle.sip_reader.specs.Texts.{line_number_end}
use Rattle.journal_table.specs.Readings.{IsRead}
use Rattle.journal_table.specs.declared.TheConstants.{LINE_LIMIT}
use Rattle.journal_table.specs.declared.readings.Readings.TheInside.{Inside}
use Rattle.journal_table.specs.declared.readings.TheConstants.{STRETCH}

-- each stretch but the last has exactly this size, and the last at most
abbrev pub AreFull : {X : Type 0} → ℕ → List (List X) → Type 0
AreFull size [] = Unit {0}
AreFull size (s ∷ rest) =
    (length s ≤ size) × (0 < length rest → length s ≡ size) × AreFull size rest

abbrev pub joined : List (List Reading) → List Reading
joined stretches = flat_map (λ s. s) stretches

-- these readings, in stretches
pub record AreStretchesOf (readings : List Reading) (stretches : List (List Reading)) : Type 0 where
  pub whole : joined stretches ≡ readings
  pub full : AreFull STRETCH stretches

abbrev pub stretches_of : {A : Type 0} → List (Vec Reading A) → List (List Reading)
stretches_of stretches = map (λ s. s.items) stretches

-- the count is that of the readings, and at most the limit of lines; each reading is that of a
-- message; line numbers have at most ten digits
pub record IsKept (r : Inside) : Type 0 where
  pub full : AreFull STRETCH (stretches_of r.stretches.items)
  pub count : length (joined (stretches_of r.stretches.items)) ≡ r.count
  pub read : AllByRecursion IsRead (joined (stretches_of r.stretches.items))
  pub few : r.count ≤ LINE_LIMIT
  pub within : r.first + r.count ≤ line_number_end
