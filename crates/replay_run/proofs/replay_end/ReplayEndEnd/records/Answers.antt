use Rattle.replay_run.proofs.Ended.{lent_alone}
use Rattle.replay_run.proofs.replay_end.ReplayEndEnd.records.Goals as goal

pub returns : goal.returns
returns c =
    let end = c.args.self.now in
    lent_alone end.plan.now end.replayed.now.written end.replays.written end.replayed.now.records end.replays.records
