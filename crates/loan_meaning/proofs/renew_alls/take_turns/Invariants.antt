use Rattle.std.proofs.Common.{◌≡◌, ◌≤◌, drop}
use Rattle.read_set.specs.RenewAlls.{turns_rule, none_renewed}
use Rattle.loan_meaning.specs.Devices.Sums.{Runs}
use Rattle.circ_records.specs.declared.key.Key.{Key}
use Rattle.read_set.specs.Asks.{Gains, IsAsked, follow}
use Rattle.read_set.specs.Maps.{Part, Grows}
use Rattle.loan_meaning.proofs.renew_alls.take_turns.Given as goal

-- what is left gives what all gives, and asks for nothing else, on what is had now and on more
abbrev pub invariant-loop-item : goal.invariant-loop-item
invariant-loop-item g l =
    let has = g.S.Source.has in
    record {
      keeps : Gains g.S.Source.one_by_one (has l.fn.source) (has l.source) (turns_rule l.line.policy.now l.line.number l.forced l.request l.line.date l.items (none_renewed l.fn.member));
      few : l.done.made ≤ l.item-index;
      runs : Runs (has l.source) l.line.number l.fresh l.done l.sum;
      same : (more : Part) → Grows (has l.source) more
          → follow more (turns_rule l.line.policy.now l.line.number l.forced l.request l.line.date (drop l.item-index l.items) l.done) ≡ follow more (turns_rule l.line.policy.now l.line.number l.forced l.request l.line.date l.items (none_renewed l.fn.member));
      asks : (more : Part) (k : Key) → Grows (has l.source) more
          → IsAsked more (turns_rule l.line.policy.now l.line.number l.forced l.request l.line.date (drop l.item-index l.items) l.done) k → IsAsked more (turns_rule l.line.policy.now l.line.number l.forced l.request l.line.date l.items (none_renewed l.fn.member)) k;
      now : follow (has l.source) (turns_rule l.line.policy.now l.line.number l.forced l.request l.line.date (drop l.item-index l.items) l.done) ≡ follow (has l.source) (turns_rule l.line.policy.now l.line.number l.forced l.request l.line.date l.items (none_renewed l.fn.member));
    }
