-- What records refer to.
use Rattle.std.specs.Prelude.{◌≡◌, ◌⊎◌, Contains, IsSomeAnd}
use Rattle.circ_records.specs.declared.holds.Hold.{Hold}
use Rattle.circ_records.specs.declared.key.Key.{Key}
use Rattle.circ_records.specs.declared.key.Key.TheVariants as keys
use Rattle.circ_records.specs.declared.record.Record.{Record}
use Rattle.circ_records.specs.declared.record.Record.TheVariants as record_of

-- a patron to what is on its lists, an item to who has it and who waits for it, a fee to its patron
abbrev pub RefersTo : Record → Key → Type 0
RefersTo (record_of.Patron p) (keys.Patron id) = ⊥
RefersTo (record_of.Patron p) (keys.Item id) = Contains p.loans id
RefersTo (record_of.Patron p) (keys.Fee id) = Contains p.fees id
RefersTo (record_of.Item i) (keys.Patron id) = IsSomeAnd i.loan (λ l. l.patron ≡ id) ⊎ ((h : Hold) × Contains i.holds h × (h.patron ≡ id))
RefersTo (record_of.Item i) (keys.Item id) = ⊥
RefersTo (record_of.Item i) (keys.Fee id) = ⊥
RefersTo (record_of.Fee f) (keys.Patron id) = f.patron ≡ id
RefersTo (record_of.Fee f) (keys.Item id) = ⊥
RefersTo (record_of.Fee f) (keys.Fee id) = ⊥
