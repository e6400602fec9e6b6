-- For proofs alone: how a note stores what it found.
use Rattle.std.specs.Prelude.{Option, Some, None}
use Rattle.circ_records.specs.declared.record.Record.{Record}
use Rattle.circ_records.specs.declared.record.Record.TheVariants as record_of
use Rattle.read_set.specs.declared.found.SharedRecord.{SharedRecord}
use Rattle.read_set.specs.declared.found.SharedRecord.TheVariants.{Nothing, Patron, Item, Fee}

-- the record, or none
abbrev pub record_in : SharedRecord → Option Record
record_in Nothing = None
record_in (Patron patron) = Some (record_of.Patron patron)
record_in (Item item) = Some (record_of.Item item)
record_in (Fee fee) = Some (record_of.Fee fee)
