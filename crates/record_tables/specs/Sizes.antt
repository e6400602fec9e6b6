-- How many rows the tables have.
use Rattle.std.specs.Prelude.{◌≡◌, length, Ok}
use Rattle.record_tables.specs.Base.{rows_of}
use Rattle.record_tables.specs.Tables.{Rows}
use Rattle.schema.specs.Texts.{Texts}
use Rattle.record_tables.specs.declared.sizes.TableSizes.{TableSizes}

abbrev pub sizes_of : Rows → TableSizes
sizes_of rows = record {
  patrons = length rows.patrons;
  items = length rows.items;
  loans = length rows.loans;
  fees = length rows.fees;
  closed = length rows.closed;
  holds = length rows.holds;
}

-- the sizes of texts that are tables
abbrev pub AreSizes : Texts → TableSizes → Type 0
AreSizes texts sizes = (rows : Rows) → rows_of texts ≡ Ok rows → sizes ≡ sizes_of rows
