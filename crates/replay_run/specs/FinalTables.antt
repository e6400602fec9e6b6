-- The final tables are read again, after the replay over a base of whatever was read.
use Rattle.std.specs.Prelude.{◌≡◌, ℕ, List, Ok, None}
use Rattle.circ_policy.specs.Reading.{policy_of}
use Rattle.circ_policy.specs.Terms.{Terms}
use Rattle.record_tables.specs.Base.{base_of}
use Rattle.circ_records.specs.Records.{AreRising, Entries, record_at}
use Rattle.record_tables.specs.Written.{tables_of}
use Rattle.circ_records.specs.declared.key.Key.{Key}
use Rattle.circ_records.specs.Coherent.{AreOfKind, Coherent, number_before}
use Rattle.journal_table.specs.Entry.{Entry, first_number}
use Rattle.journal_table.specs.Journal.{journal_of}
use Rattle.read_set.specs.Plans.{plan_of}
use Rattle.read_set.specs.declared.way.Way.{Way}
use Rattle.read_set.specs.Replay.{last}

-- the six final tables, which state the records after the last line, are read again as these
-- records, as a base before a journal without lines
abbrev pub FinalTablesReadBack : Entries → Type 0
FinalTablesReadBack base =
    (way : Way) (text bytes : List ℕ) (policy : Terms) (lines : List Entry)
    → policy_of text ≡ Ok policy → journal_of bytes ≡ Ok lines
    → Coherent policy (number_before (first_number lines)) base → AreOfKind (record_at base)
    → (entries : Entries) → AreRising entries
    → ((k : Key) → record_at entries k ≡ last (plan_of way policy base lines) k)
    → base_of policy (tables_of entries) None ≡ Ok entries
