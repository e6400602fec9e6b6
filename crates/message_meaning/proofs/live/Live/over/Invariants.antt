use Rattle.std.proofs.Common.{drop}
use Rattle.circ_records.specs.declared.key.Key.{Key}
use Rattle.message_meaning.proofs.Copying.{IsCopied}
use Rattle.message_meaning.proofs.live.Live.over.Given as goal

abbrev pub invariant-loop-entry : goal.invariant-loop-entry
invariant-loop-entry l = (k : Key) → IsCopied l.keys (drop l.entry-index l.keys) l.records k
