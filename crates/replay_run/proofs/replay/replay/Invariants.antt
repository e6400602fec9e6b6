use Rattle.circ_records.specs.Records.{record_at}
use Rattle.replay_run.proofs.Replayed.{SoFar}
use Rattle.replay_run.proofs.replay.replay.Given as goal

abbrev pub invariant-loop-i : goal.invariant-loop-i
invariant-loop-i l = SoFar l.plan l.i (record_at l.live) l.answers.items l.written
