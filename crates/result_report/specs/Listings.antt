-- A result table while it is written.
use Rattle.std.specs.Prelude.{◌≡◌, ◌<◌, ◌^◌, ◌-◌, ◌+◌, ℕ, IfSome, List, length, Option, Some, None}
use Rattle.std.specs.Option.{option_map}
use Rattle.csv_table.specs.Text.{Written, with_row, written}
use Rattle.result_report.specs.Report.{Row}
use Rattle.result_report.specs.declared.listing.Listing.{Listing}

-- a table has three columns, and one more row can be counted
pub record HasRoomFor (l : Listing) : Type 0 where
  pub wide : IfSome l.table (λ t. t.width ≡ 3)
  pub few : l.rows < 2 ^ 64 - 1

-- a text with a row more at its end, where there is one
abbrev pub gained : Option Row → Option Written → Option Written
gained None t = t
gained (Some row) t = option_map (with_row row) t

abbrev pub gained_count : Option Row → ℕ → ℕ
gained_count None n = n
gained_count (Some row) n = n + 1

-- a table has a row more, where there is one
pub record Gains (row : Option Row) (old new : Listing) : Type 0 where
  pub text : new.table ≡ gained row old.table
  pub count : new.rows ≡ gained_count row old.rows

-- a table has these rows under its header
pub record Lists (header : Row) (rows : List Row) (l : Listing) : Type 0 where
  pub text : l.table ≡ Some (written header rows)
  pub count : l.rows ≡ length rows
