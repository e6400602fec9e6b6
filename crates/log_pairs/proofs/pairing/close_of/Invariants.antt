use Rattle.std.proofs.Common.{◌≡◌, ◌++◌, map, take, drop}
use Rattle.log_pairs.specs.Pairs.{closed_of}
use Rattle.log_pairs.proofs.pairing.close_of.Given as goal

-- those so far are closed
abbrev pub invariant-loop-at : goal.invariant-loop-at
invariant-loop-at l =
    let f = closed_of l.all l.connection in
    l.waiting.items ≡ map f (take l.at l.initial.waiting.items) ++ drop l.at l.initial.waiting.items
