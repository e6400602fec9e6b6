-- Fees: what is owed, and what is charged (circulation rules, due days and money).
use Rattle.std.specs.Prelude.{ℕ, nat_lt, ◌-◌, List, [], ◌∷◌, ◌++◌, map, sum, Option, if◌then◌else◌}
use Rattle.std.specs.Option.{option_map_or}
use Rattle.circ_records.specs.Records.{Entries}
use Rattle.circ_records.specs.declared.key.Key.TheVariants as keys
use Rattle.circ_records.specs.declared.record.Record.TheVariants as records
use Rattle.circ_records.specs.declared.record.Fee.{Fee}
use Rattle.circ_records.specs.declared.record.FeeType.{FeeType}
use Rattle.sip_reader.specs.Texts.{fee_id}
use Rattle.read_set.specs.Known.{fee_in}
use Rattle.read_set.specs.Maps.{Map}

-- what is left to pay of a fee, never below 0; a fee without a record counts as nothing
unfoldable pub rest_of : Option Fee → ℕ
rest_of fee = option_map_or (λ f. f.amount - f.paid) fee 0

-- Owed: the sum of what is left to pay, at each position of the list
abbrev pub owed : Map → List (List ℕ) → ℕ
owed M fees = sum (map (λ id. rest_of (fee_in M id)) fees)

-- The fee that line n makes, the k-th of that line from 0, has the id R<n>-<k>. An amount of 0 makes none.
abbrev pub fee_made : ℕ → ℕ → List ℕ → FeeType → ℕ → Entries
fee_made n k patron kind amount =
    if nat_lt 0 amount then (keys.Fee (fee_id n k), records.Fee (record { patron = patron; kind = kind; amount = amount; paid = 0 })) ∷ [] else []

-- a made fee goes last in the patron's list
abbrev pub with_fee : ℕ → ℕ → ℕ → List (List ℕ) → List (List ℕ)
with_fee n k amount fees = if nat_lt 0 amount then fees ++ fee_id n k ∷ [] else fees
