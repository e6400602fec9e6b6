use Rattle.std.proofs.Common.{◌≡◌, drop, []}
use Rattle.circ_records.specs.declared.key.Key.{Key}
use Rattle.read_set.specs.Asks.{Gains, IsAsked, follow}
use Rattle.read_set.specs.Maps.{Part, Grows}
use Rattle.read_set.specs.Payments.{pay_rule_each}
use Rattle.message_meaning.proofs.payments.pay_all.Given as goal

-- what is left gives what all gives, and asks for nothing else, on what is had now and on more
abbrev pub invariant-loop-id : goal.invariant-loop-id
invariant-loop-id g l =
    let has = g.S.Source.has in
    record {
      keeps : Gains g.S.Source.one_by_one (has l.fn.source) (has l.source) (pay_rule_each l.ids (record { left = l.amount; writes = []; closed = [] }));
      same : (more : Part) → Grows (has l.source) more
          → follow more (pay_rule_each (drop l.id-index l.ids) l.done) ≡ follow more (pay_rule_each l.ids (record { left = l.amount; writes = []; closed = [] }));
      asks : (more : Part) (k : Key) → Grows (has l.source) more → IsAsked more (pay_rule_each (drop l.id-index l.ids) l.done) k → IsAsked more (pay_rule_each l.ids (record { left = l.amount; writes = []; closed = [] })) k;
      now : follow (has l.source) (pay_rule_each (drop l.id-index l.ids) l.done) ≡ follow (has l.source) (pay_rule_each l.ids (record { left = l.amount; writes = []; closed = [] }));
    }
