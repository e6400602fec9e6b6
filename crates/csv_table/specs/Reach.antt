-- What a reader of rows has yet to give, by how far it has come.
use Rattle.std.specs.Prelude.{◌≡◌, [], Some, None}
use Rattle.csv_table.specs.Unread.{IsReading, Unread, unread_by}
use Rattle.csv_table.specs.declared.reader.Reach.{Reach}
use Rattle.csv_table.specs.declared.reader.Reach.TheVariants.{Within, Ended, Refused}
use Rattle.csv_table.specs.declared.reader.RowReader.TheInside.{Inside}

-- nothing after the end, and no table after a refusal
abbrev pub by_reach : Reach → Unread → Unread
by_reach Within left = left
by_reach Ended left = record { size = 0; rows = Some [] }
by_reach (Refused e) left = record { size = 0; rows = None }

abbrev pub unread_of : Inside → Unread
unread_of r = by_reach r.reach (unread_by r.reader.value)

abbrev pub IsWellSet : Inside → Type 0
IsWellSet r = r.reach ≡ Within → IsReading r.reader.value
