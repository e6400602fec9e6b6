-- The whole program: what its words ask for, what it asks of the outside, in this order, and its
-- status.
use Rattle.std.specs.Prelude.{◌≡◌, ◌∷◌, ◌⊎◌, ℕ, [], Bool, List, None, false, if◌then◌else◌, string_bytes, true}
use Rattle.outside.specs.Events.{Event, Print, Tell}
use Rattle.command_line.specs.CommandLine.{AreAskedBy, AreTaken, sip_replay_line}
use Rattle.command_line.specs.Refusals.{BreakNothing, IsRefusalOf}
use Rattle.command_line.specs.declared.chosen.Options.{Options}
use Rattle.command_line.specs.declared.refusal.Refusal.{Refusal}
use Rattle.command_line.specs.declared.refusal.Refusal.TheVariants as refusals
use Rattle.replay_run.specs.declared.fault.Fault.TheVariants as faults
use Rattle.whole_run.specs.Checking.{IsCheck}
use Rattle.whole_run.specs.Run.{IsRun}
use Rattle.run_stops.specs.Telling.{stop_text}
use Rattle.run_stops.specs.declared.stop.RunError.TheVariants as stops

-- Words that give no options: one text is printed, and nothing else is asked of the outside.
abbrev pub TellsRefusal : Refusal → ℕ → List Event → Type 0
TellsRefusal (refusals.Help text) status events =
    (taken : Bool) × (events ≡ Print (string_bytes text) taken ∷ [])
    × (status ≡ if taken then 0 else 3)
TellsRefusal (refusals.Words text) status events =
    (taken : Bool) × (events ≡ Tell (string_bytes text) taken ∷ []) × (status ≡ 2)
TellsRefusal refusals.Memory status events =
    (taken : Bool) × (events ≡ Tell (stop_text (stops.Fault faults.Memory) None) taken ∷ [])
    × (status ≡ 3)

-- what options ask for: a check, or a run
abbrev pub IsDone : Options → ℕ → List Event → Type 0
IsDone o status events =
    ((o.check ≡ true) × IsCheck o status events) ⊎ ((o.check ≡ false) × IsRun o status events)

-- The words break nothing of the command line's definition, and this is what their options ask for;
-- or they give none: they ask for help or for the version, or break it, or memory ran out, which it
-- did if clap's definition takes them.
abbrev pub IsSession : List (List ℕ) → ℕ → List Event → Type 0
IsSession words status events =
    ((o : Options) × BreakNothing sip_replay_line words × AreAskedBy words o × IsDone o status events)
    ⊎ ((refusal : Refusal) × IsRefusalOf sip_replay_line words refusal
    × (AreTaken words → refusal ≡ refusals.Memory) × TellsRefusal refusal status events)
