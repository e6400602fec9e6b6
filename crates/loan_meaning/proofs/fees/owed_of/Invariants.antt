use Rattle.std.proofs.Common.{◌≡◌, ◌≤◌, ◌*◌, ◌^◌, drop}
use Rattle.circ_records.specs.declared.key.Key.{Key}
use Rattle.read_set.specs.Asks.{Gains, IsAsked, follow}
use Rattle.read_set.specs.Maps.{Part, Grows}
use Rattle.read_set.specs.Owing.{owed_from}
use Rattle.loan_meaning.proofs.fees.owed_of.Given as goal

-- what is left gives what all gives, and asks for nothing else, on what is had now and on more
abbrev pub invariant-loop-id : goal.invariant-loop-id
invariant-loop-id g l =
    let has = g.S.Source.has in
    record {
      keeps : Gains g.S.Source.one_by_one (has l.fn.source) (has l.source) (owed_from l.writes 0 l.fees);
      small : l.sum ≤ l.id-index * (2 ^ 64);
      same : (more : Part) → Grows (has l.source) more → follow more (owed_from l.writes l.sum (drop l.id-index l.fees)) ≡ follow more (owed_from l.writes 0 l.fees);
      asks : (more : Part) (k : Key) → Grows (has l.source) more → IsAsked more (owed_from l.writes l.sum (drop l.id-index l.fees)) k → IsAsked more (owed_from l.writes 0 l.fees) k;
      now : follow (has l.source) (owed_from l.writes l.sum (drop l.id-index l.fees)) ≡ follow (has l.source) (owed_from l.writes 0 l.fees);
    }
