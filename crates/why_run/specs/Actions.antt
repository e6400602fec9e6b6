-- A step in code, as a planned one.
use Rattle.std.specs.Prelude.{◌≡◌, ◌++◌, List, None, Ok, Some, false, map, string_bytes, true}
use Rattle.outside.specs.Events.{Create, Exists, MakeFolder, Print, Rename, Tell}
use Rattle.why_run.specs.Remarks.{remark_text}
use Rattle.why_run.specs.Writing.{Planned}
use Rattle.why_run.specs.declared.action.Action.{Action}
use Rattle.why_run.specs.declared.action.Action.TheVariants as actions

abbrev pub planned : Action → Planned
planned (actions.Say remark) = (Tell (remark_text remark.now) true, None)
planned (actions.Claim path) = (Exists (string_bytes path) (Ok false), None)
planned (actions.MakeFolder path part) = (MakeFolder (string_bytes path) (Ok tt), Some (string_bytes part))
planned (actions.MakeFile path text part) = (Create (string_bytes path) text.now (Ok tt), Some (string_bytes part))
planned (actions.Place part place) = (Rename (string_bytes part) (string_bytes place) (Ok tt), Some (string_bytes part))
planned (actions.Replace path text) = (Create path.now text.now (Ok tt), None)
planned (actions.Print text) = (Print text.now true, None)

-- a list that got actions for these steps
abbrev pub Gets : List Planned → List Action → List Action → Type 0
Gets steps old new = map planned new ≡ map planned old ++ steps
