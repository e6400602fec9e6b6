-- What an outside in memory was asked, as events.
use Rattle.std.specs.Prelude.{ℕ, ⊤, List, Ok, Err, Result}
use Rattle.outside.specs.Events.{Create, Event, Find, Print, Read, Remove, Rename, Tell}
use Rattle.outside.specs.declared.failure.Failure.{Failure}
use Rattle.tests_of_runs.specs.declared.asked.Asked.{Asked}
use Rattle.tests_of_runs.specs.declared.asked.Asked.TheVariants as asked
use Rattle.tests_of_runs.specs.declared.asked.Call.{Call}

-- the bytes that were read, or why not
abbrev bytes_or : List ℕ → Result ⊤ Failure → Result (List ℕ) Failure
bytes_or text (Ok done) = Ok text
bytes_or text (Err failure) = Err failure

abbrev pub event : Asked → List ℕ → List ℕ → Result ⊤ Failure → Event
event (asked.Find file) path text answer = Find path file
event asked.Read path text answer = Read path (bytes_or text answer)
event asked.Create path text answer = Create path text answer
event asked.Rename path text answer = Rename path text answer
event asked.Remove path text answer = Remove path
event (asked.Print taken) path text answer = Print text taken
event (asked.Tell taken) path text answer = Tell text taken

abbrev pub event_of : Call → Event
event_of call = event call.asked call.path.items call.text.items call.answer
