use Rattle.std.proofs.Common.{◌≡◌, ◌++◌, map, take}
use Rattle.replay_run.proofs.written.put_keys.Given as goal

-- the keys of the records so far are put after those that were there
abbrev pub invariant-loop-entry : goal.invariant-loop-entry
invariant-loop-entry l = l.keys.items ≡ l.initial.keys.items ++ map (λ w. w.0) (take l.entry-index l.records)
