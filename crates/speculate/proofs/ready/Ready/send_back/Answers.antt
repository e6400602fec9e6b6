use Rattle.speculate.proofs.Marking.{long_place}
use Rattle.speculate.proofs.ready.Ready.send_back.Goals as goal

pub lose_above-requires : goal.lose_above-requires
lose_above-requires c = long_place _ c.put.new.self c.args.position c.put.ensures.same c.requires
