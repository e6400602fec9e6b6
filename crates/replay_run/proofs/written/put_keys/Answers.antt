use Rattle.std.proofs.Common.{◌∙◌, map, take}
use Rattle.replay_run.proofs.written.put_keys.Goals as goal

pub returns-in_err-clone-clause-behind : goal.returns-in_err-clone-clause-behind
returns-in_err-clone-clause-behind c =
    (map (λ w. w.0) (take c.loop-entry.entry-index c.args.records.now), c.loop-entry.invariant)

pub returns-in_err-push-clause-behind : goal.returns-in_err-push-clause-behind
returns-in_err-push-clause-behind c = (map (λ w. w.0) (take c.loop-entry.entry-index c.args.records.now), c.in_err-push.ensures.items ∙ c.loop-entry.invariant)

pub returns-clause-behind : goal.returns-clause-behind
returns-clause-behind c = (map (λ w. w.0) (take c.loop-entry.entry-index c.args.records.now), c.loop-entry.invariant)
