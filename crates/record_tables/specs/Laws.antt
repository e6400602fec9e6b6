-- What the definitions promise together.
use Rattle.std.specs.Prelude.{◌≡◌, ℕ, None, Ok, Option}
use Rattle.std.specs.List.{slice_get}
use Rattle.std.specs.Result.{result_err}
use Rattle.circ_policy.specs.Terms.{Terms}
use Rattle.record_tables.specs.AllBroken.{broken_rules}
use Rattle.record_tables.specs.Base.{base_of}
use Rattle.circ_records.specs.Coherent.{AreOfKind, Coherent}
use Rattle.circ_records.specs.Records.{Entries, record_at, AreRising}
use Rattle.record_tables.specs.Tables.{Rows}
use Rattle.schema.specs.Texts.{Texts}
use Rattle.record_tables.specs.Told.{Tells, entries_told}
use Rattle.record_tables.specs.Written.{rows_telling, tables_of}

-- the base that is read of rows has the entries that they give: rows give just these
abbrev pub EntriesAreTold : Type 0
EntriesAreTold = (rows : Rows) → Tells rows (record_at (entries_told rows))

-- the first of all rules that tables break is the fault of the base that is read of them, and where
-- they break none it has no fault
abbrev pub FirstIsTheFault : Type 0
FirstIsTheFault =
    (policy : Terms) (texts : Texts) (first : Option ℕ)
    → slice_get (broken_rules policy texts first) 0 ≡ result_err (base_of policy texts first)

-- what is written of a coherent map gives it, where each record is of its key's kind
abbrev pub WrittenIsTold : Type 0
WrittenIsTold =
    (policy : Terms) (n : ℕ) (entries : Entries) → AreRising entries → Coherent policy n entries
    → AreOfKind (record_at entries) → Tells (rows_telling entries) (record_at entries)

-- and then it is read again as it was
abbrev pub WrittenReadsBack : Type 0
WrittenReadsBack =
    (policy : Terms) (n : ℕ) (entries : Entries) → AreRising entries → Coherent policy n entries
    → AreOfKind (record_at entries) → base_of policy (tables_of entries) None ≡ Ok entries
