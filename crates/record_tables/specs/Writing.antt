-- The six tables while they are written, entry by entry of a map.
use Rattle.std.specs.Prelude.{◌≡◌, ℕ, List, [], ◌∷◌, Option, Some, IfSome, option_map}
use Rattle.std.specs.List.{flat_map}
use Rattle.csv_table.specs.Text.{Written, with_row, written}
use Rattle.circ_records.specs.Records.{Entries}
use Rattle.record_tables.specs.Tables.{Row}
use Rattle.schema.specs.Names.{patrons_header, items_header, loans_header, fees_header, closed_header, holds_header}
use Rattle.record_tables.specs.Written.{patron_rows, item_rows, loan_rows, fee_rows, closed_rows, hold_rows}
use Rattle.circ_records.specs.declared.key.Key.{Key}
use Rattle.circ_records.specs.declared.record.Record.{Record}
use Rattle.record_tables.specs.declared.table_texts.ItemTexts.{ItemTexts}
use Rattle.record_tables.specs.declared.table_texts.PatronTexts.{PatronTexts}

-- a text that has its header has this many columns
abbrev pub HasWidth : ℕ → Option Written → Type 0
HasWidth n text = IfSome text (λ t. t.width ≡ n)

-- a text with rows more at its end
abbrev pub with_rows : List Row → Option Written → Option Written
with_rows [] text = text
with_rows (row ∷ rows) text = with_rows rows (option_map (with_row row) text)

-- each table of patrons and fees has the columns of its header
pub record PatronWidths (t : PatronTexts) : Type 0 where
  pub patrons : HasWidth 4 t.patrons
  pub loans : HasWidth 4 t.loans
  pub fees : HasWidth 5 t.fees
  pub closed : HasWidth 4 t.closed

-- and each table of items
pub record ItemWidths (t : ItemTexts) : Type 0 where
  pub items : HasWidth 5 t.items
  pub holds : HasWidth 3 t.holds

-- each table of patrons and fees has what an entry of a map has in it, after what it had
pub record GainsPatron (map : Entries) (entry : Key × Record) (old new : PatronTexts) : Type 0 where
  pub patrons : new.patrons ≡ with_rows (patron_rows entry) old.patrons
  pub loans : new.loans ≡ with_rows (loan_rows map entry) old.loans
  pub fees : new.fees ≡ with_rows (fee_rows map entry) old.fees
  pub closed : new.closed ≡ with_rows (closed_rows entry) old.closed

-- and each table of items
pub record GainsItem (entry : Key × Record) (old new : ItemTexts) : Type 0 where
  pub items : new.items ≡ with_rows (item_rows entry) old.items
  pub holds : new.holds ≡ with_rows (hold_rows entry) old.holds

-- each table of patrons and fees has what these entries of a map have in it
pub record HoldsPatrons (map : Entries) (entries : Entries) (t : PatronTexts) : Type 0 where
  pub patrons : t.patrons ≡ Some (written patrons_header (flat_map patron_rows entries))
  pub loans : t.loans ≡ Some (written loans_header (flat_map (loan_rows map) entries))
  pub fees : t.fees ≡ Some (written fees_header (flat_map (fee_rows map) entries))
  pub closed : t.closed ≡ Some (written closed_header (flat_map closed_rows entries))

-- and each table of items
pub record HoldsItems (entries : Entries) (t : ItemTexts) : Type 0 where
  pub items : t.items ≡ Some (written items_header (flat_map item_rows entries))
  pub holds : t.holds ≡ Some (written holds_header (flat_map hold_rows entries))
