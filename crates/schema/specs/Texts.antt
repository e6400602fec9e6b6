-- The texts of the six tables.
use Rattle.std.specs.Prelude.{ℕ, List}
use Rattle.schema.specs.declared.table_name.TableName.{TableName}
use Rattle.schema.specs.declared.table_name.TableName.TheVariants as table
use Rattle.schema.specs.declared.tables.Tables.{Tables}

pub record Texts : Type 0 where
  pub patrons : List ℕ
  pub items : List ℕ
  pub loans : List ℕ
  pub fees : List ℕ
  pub closed : List ℕ
  pub holds : List ℕ

-- the texts that some tables have
abbrev pub texts_of : Tables → Texts
texts_of t =
    record {
      patrons = t.patrons.items;
      items = t.items.items;
      loans = t.loans.items;
      fees = t.fees.items;
      closed = t.closed.items;
      holds = t.holds.items;
    }

-- the text of one of them
abbrev pub text_of : TableName → Texts → List ℕ
text_of table.Patrons t = t.patrons
text_of table.Items t = t.items
text_of table.Loans t = t.loans
text_of table.Fees t = t.fees
text_of table.Closed t = t.closed
text_of table.Holds t = t.holds
