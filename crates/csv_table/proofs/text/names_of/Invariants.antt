use Rattle.std.proofs.Common.{◌≡◌, take}
use Rattle.csv_table.specs.Text.{bytes_of}
use Rattle.csv_table.proofs.text.names_of.Given as goal

-- the bytes of the names so far
abbrev pub invariant-loop-name : goal.invariant-loop-name
invariant-loop-name l = bytes_of l.texts.items ≡ take l.name-index (bytes_of l.names)
