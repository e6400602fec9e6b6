-- What may be seen in the text that a fault is about.
use Rattle.std.specs.Prelude.{◌≡◌}
use Rattle.circ_records.specs.declared.rule.BaseRule.{BaseRule}
use Rattle.circ_records.specs.declared.rule.BaseRule.TheVariants as base
use Rattle.replay_run.specs.declared.fault.Fault.{Fault}
use Rattle.replay_run.specs.declared.fault.Fault.TheVariants as faults
use Rattle.run_stops.specs.declared.seen.FaultDetail.{FaultDetail}
use Rattle.run_stops.specs.declared.seen.FaultDetail.TheVariants as seen
use Rattle.run_stops.specs.declared.stop.RunError.{RunError}
use Rattle.run_stops.specs.declared.stop.RunError.TheVariants as stops

-- why a text is no table
abbrev pub IsOfTable : FaultDetail → Type 0
IsOfTable (seen.Uneven row) = Unit {0}
IsOfTable (seen.Header found wanted) = Unit {0}
IsOfTable seen.Packed = Unit {0}
IsOfTable seen.Wide = Unit {0}
IsOfTable what = ⊥

-- why a text is no TOML
abbrev pub IsOfPolicy : FaultDetail → Type 0
IsOfPolicy (seen.Line line) = Unit {0}
IsOfPolicy seen.Packed = Unit {0}
IsOfPolicy seen.Wide = Unit {0}
IsOfPolicy what = ⊥

-- what is wrong at the key that a policy's fault names
abbrev pub IsOfKey : FaultDetail → Type 0
IsOfKey (seen.Line line) = Unit {0}
IsOfKey (seen.Key line text) = Unit {0}
IsOfKey what = ⊥

-- the values of a row that breaks a rule; of one whose value has another form, the right form too
abbrev pub AreValues : BaseRule → FaultDetail → Type 0
AreValues base.Value (seen.Form text form) = Unit {0}
AreValues rule (seen.Values text) = Unit {0}
AreValues rule what = ⊥

abbrev pub AreOfLine : FaultDetail → Type 0
AreOfLine (seen.Values text) = Unit {0}
AreOfLine what = ⊥

-- what may be seen of a fault: why its text can't be read, or the values of the row that it names
abbrev pub MaySee : Fault → FaultDetail → Type 0
MaySee faults.PolicyText what = IsOfPolicy what
MaySee (faults.PolicyRule key) what = IsOfKey what
MaySee (faults.BaseTable table) what = IsOfTable what
MaySee (faults.BaseRule table row rule values) what = AreValues rule what
MaySee faults.JournalTable what = IsOfTable what
MaySee (faults.JournalRule row rule) what = AreOfLine what
MaySee fault what = ⊥

-- a stop of this fault; what is seen in its text may be said too
abbrev pub IsOf : Fault → RunError → Type 0
IsOf fault (stops.Fault told) = told ≡ fault
IsOf fault (stops.Seen told what) = (told ≡ fault) × MaySee fault what
IsOf fault stop = ⊥
