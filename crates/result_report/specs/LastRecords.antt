-- Records that a run leaves, lent or collected.
use Rattle.circ_records.specs.Records.{Entries}
use Rattle.result_report.specs.declared.outcome.RecordsFrom.{RecordsFrom}
use Rattle.result_report.specs.declared.outcome.RecordsFrom.TheVariants.{Lent, Collected}

abbrev pub entries_held : RecordsFrom → Entries
entries_held (Lent records) = records.now
entries_held (Collected records) = records
