use Rattle.std.proofs.Common.{take}
use Rattle.circ_records.specs.declared.key.Key.{Key}
use Rattle.why_lines.specs.Devices.Noted.{AreNoted, Each, IsNoted}
use Rattle.why_lines.proofs.change.note_all.Given as goal

-- the records so far are noted, and what was noted stays noted
abbrev pub invariant-loop-entry : goal.invariant-loop-entry
invariant-loop-entry l =
    record {
      noted : AreNoted l.before l.after l.changes.entries;
      keeps : (k : Key) → IsNoted l.before l.after l.fn.changes.entries k → IsNoted l.before l.after l.changes.entries k;
      each : Each (take l.entry-index l.entries) (IsNoted l.before l.after l.changes.entries);
    }
