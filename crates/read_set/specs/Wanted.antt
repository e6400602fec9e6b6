-- Which key a line may ask for next.
use Rattle.std.specs.Prelude.{◌≡◌, ◌⊎◌, ℕ, List, Option, Some, None, Contains}
use Rattle.circ_records.specs.declared.key.Key.{Key}
use Rattle.circ_records.specs.declared.key.Key.TheVariants as keys
use Rattle.circ_records.specs.declared.record.Loan.{Loan}
use Rattle.circ_records.specs.declared.record.Record.{Record}
use Rattle.circ_records.specs.declared.record.Record.TheVariants as records
use Rattle.sip_reader.specs.declared.request.Act.{Act}
use Rattle.sip_reader.specs.declared.request.Act.TheVariants as acts
use Rattle.sip_reader.specs.declared.request.Reading.{Reading}
use Rattle.sip_reader.specs.declared.request.Reading.TheVariants as readings
use Rattle.read_set.specs.Maps.{Part}
use Rattle.read_set.specs.Plans.{Planned, reading_at}
use Rattle.read_set.specs.declared.source.Stop.{Stop}
use Rattle.read_set.specs.declared.source.Stop.TheVariants as stops

-- the patron or the item of a request
abbrev pub IsOfAct : Act → Key → Type 0
IsOfAct (acts.BlockPatron q) k = k ≡ keys.Patron q.patron
IsOfAct (acts.Checkin q) k = k ≡ keys.Item q.item
IsOfAct (acts.Checkout q) k = (k ≡ keys.Patron q.patron) ⊎ (k ≡ keys.Item q.item)
IsOfAct (acts.Hold q) k = (k ≡ keys.Patron q.patron) ⊎ (k ≡ keys.Item q.item)
IsOfAct (acts.ItemStatus q) k = k ≡ keys.Item q.item
IsOfAct (acts.PatronEnable q) k = k ≡ keys.Patron q.patron
IsOfAct (acts.Renew q) k = (k ≡ keys.Patron q.patron) ⊎ (k ≡ keys.Item q.item)
IsOfAct (acts.FeePaid q) k = k ≡ keys.Patron q.patron
IsOfAct (acts.RenewAll q) k = k ≡ keys.Patron q.patron

-- the patron or the item of a line's request; a line without a request has neither
abbrev pub IsOfReading : Reading → Key → Type 0
IsOfReading (readings.Asked q) k = IsOfAct q.act k
IsOfReading readings.BadSum k = ⊥
IsOfReading (readings.Passed kind) k = ⊥
IsOfReading (readings.Unread why) k = ⊥

abbrev pub IsOfLine : Option Reading → Key → Type 0
IsOfLine None k = ⊥
IsOfLine (Some r) k = IsOfReading r k

-- the patron of a loan
abbrev pub IsBorrower : Option Loan → Key → Type 0
IsBorrower None k = ⊥
IsBorrower (Some loan) k = k ≡ keys.Patron loan.patron

-- an item or a fee of a patron's lists, or the patron of an item's loan
abbrev pub Names : Option Record → Key → Type 0
Names (Some (records.Patron p)) k = ((id : List ℕ) × Contains p.loans id × (k ≡ keys.Item id)) ⊎ ((id : List ℕ) × Contains p.fees id × (k ≡ keys.Fee id))
Names (Some (records.Item i)) k = IsBorrower i.loan k
Names _ k = ⊥

-- a known record names the key
abbrev pub IsNamed : Part → Key → Type 0
IsNamed has k = (j : Key) × (r : Option Record) × (has j ≡ Some r) × Names r k

-- Wanted: an unknown key that is the patron or the item of the line's request, or is in a list or a loan of a known
-- record. Over notes, known means noted.
abbrev pub Wanted : Planned → ℕ → Part → Key → Type 0
Wanted plan line has k = (has k ≡ None) × (IsOfLine (reading_at plan line) k ⊎ IsNamed has k)

-- a stop names a key that is wanted
abbrev pub WantsAt : Planned → ℕ → Part → Stop → Type 0
WantsAt plan line has (stops.Unnoted k) = Wanted plan line has k
WantsAt plan line has stops.Memory = Unit {0}
