-- For proofs alone: what a patron owes while all of its items are renewed, as a sum that goes on with each fee that is made.
use Rattle.std.specs.Prelude.{◌≡◌, ℕ, ◌<◌, ◌≤◌, ◌^◌, ◌+◌, ◌==◌, Bool, true, not, nat_eq, nat_lt, List, ◌++◌, Contains, codes, decimal, Option, Some, None, if◌then◌else◌}
use Rattle.std.specs.List.{list_all, starts_with}
use Rattle.circ_records.specs.Records.{Entries}
use Rattle.sip_reader.specs.Texts.{fee_id}
use Rattle.read_set.specs.Owing.{owed_at}
use Rattle.read_set.specs.Asks.{Done, follow}
use Rattle.read_set.specs.Maps.{Part}
use Rattle.read_set.specs.declared.progress.Renewals.{Renewals}
use Rattle.read_set.specs.declared.verdict.Verdict.{Verdict}
use Rattle.read_set.specs.declared.verdict.Verdict.TheVariants as verdicts

-- what is known of a sum that is owed after the writes so far: nothing, or what asking fee by fee would give
abbrev pub IsKnown : Part → Entries → List (List ℕ) → Option ℕ → Type 0
IsKnown has w fees None = Unit {0}
IsKnown has w fees (Some sum) = follow has (owed_at w fees) ≡ Done sum

-- no fee that line n may make, from the one of this number on, is in a list
abbrev pub AreNew : ℕ → ℕ → List (List ℕ) → Type 0
AreNew n made fees = (k : ℕ) → made ≤ k → k < 2 ^ 64 → Contains fees (fee_id n k) → ⊥

-- how far the sum has come, where `fresh` says that the fees of the line are new to the patron's list
pub record Runs (has : Part) (n : ℕ) (fresh : Bool) (done : Renewals) (sum : Option ℕ) : Type 0 where
  pub known : IsKnown has done.writes done.member.patron.fees sum
  pub new : fresh ≡ true → AreNew n done.made done.member.patron.fees

-- how the ids of the fees that line n makes begin: R, its number, and a hyphen (the profile of this project)
abbrev pub fee_front : ℕ → List ℕ
fee_front n = codes "R" ++ decimal n ++ codes "-"

-- whether an id begins so
abbrev pub begins_as_made : ℕ → List ℕ → Bool
begins_as_made n id = starts_with nat_eq id (fee_front n)

-- whether no id of a list does
abbrev pub none_begins_as_made : ℕ → List (List ℕ) → Bool
none_begins_as_made n fees = list_all (λ id. not (begins_as_made n id)) fees

-- a number, where it fits in 128 bits
abbrev pub with_room : ℕ → Option ℕ
with_room total = if nat_lt total (2 ^ 128) then Some total else None

-- a sum with an amount more: what was unknown stays so; what was known stays known only where the amount is 0, or where the fees of the line are new
-- and the sum fits
abbrev pub sum_with : Bool → ℕ → Option ℕ → Option ℕ
sum_with fresh amount None = None
sum_with fresh amount (Some sum) = if amount == 0 then Some sum else if fresh then with_room (sum + amount) else None

-- what a turn charges
abbrev pub charged_by : Verdict → ℕ → ℕ
charged_by verdicts.Made rental = rental
charged_by (verdicts.Refused why) rental = 0
