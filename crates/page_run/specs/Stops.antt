-- What is printed of a run that stops, and its status.
use Rattle.std.specs.Prelude.{◌++◌, ℕ, List, codes, string_bytes}
use Rattle.outside.specs.Reasons.{reason_of}
use Rattle.outside.specs.declared.reading.FileStop.TheVariants as files
use Rattle.page_run.specs.declared.stop.NoPage.TheVariants as reasons
use Rattle.page_run.specs.declared.stop.PageStop.{PageStop}
use Rattle.page_run.specs.declared.stop.PageStop.TheVariants as stops

abbrev pub stop_text : PageStop → List ℕ
stop_text (stops.NoPage reasons.Memory) = codes "error: out of memory\n"
stop_text (stops.NoPage (reasons.Refused text)) = string_bytes text
stop_text (stops.File files.Memory) = codes "error: out of memory\n"
stop_text (stops.File (files.File path failure)) = codes "file: " ++ (string_bytes path ++ (codes ": " ++ (reason_of failure ++ codes "\n")))
stop_text stops.Output = codes "error: standard output takes nothing more\n"

-- 2 where what was read is refused, else 3
abbrev pub status_of : PageStop → ℕ
status_of (stops.NoPage reasons.Memory) = 3
status_of (stops.NoPage (reasons.Refused text)) = 2
status_of (stops.File file) = 3
status_of stops.Output = 3
