-- What is printed of a run that stops, and its status.
use Rattle.std.specs.Prelude.{◌++◌, ℕ, List, codes, string_bytes}
use Rattle.outside.specs.Reasons.{reason_of}
use Rattle.outside.specs.declared.reading.FileStop.TheVariants as files
use Rattle.why_run.specs.declared.stop.NotExplained.TheVariants as reasons
use Rattle.why_run.specs.declared.stop.WhyStop.{WhyStop}
use Rattle.why_run.specs.declared.stop.WhyStop.TheVariants as stops

abbrev pub stop_text : WhyStop → List ℕ
stop_text (stops.NotExplained reasons.Memory) = codes "fault 10: memory\n"
stop_text (stops.NotExplained (reasons.Refused text)) = string_bytes text
stop_text (stops.File files.Memory) = codes "fault 10: memory\n"
stop_text (stops.File (files.File path failure)) = codes "file: " ++ (string_bytes path ++ (codes ": " ++ (reason_of failure ++ codes "\n")))
stop_text (stops.Taken path) = codes "file: " ++ (string_bytes path ++ codes ": there is one already\n")
stop_text stops.Output = codes "error: standard output takes nothing more\n"

-- 2 where the words or what was read is refused, else 3
abbrev pub status_of : WhyStop → ℕ
status_of (stops.NotExplained reasons.Memory) = 3
status_of (stops.NotExplained (reasons.Refused text)) = 2
status_of (stops.File file) = 3
status_of (stops.Taken path) = 3
status_of stops.Output = 3
