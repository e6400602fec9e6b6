use Rattle.std.proofs.Common.{◌≡◌, ap, sym, subst, ◌∙◌, ◌+◌, drop, rules, false, []}
use Rattle.std.specs.Prelude.{◌==◌}
use Rattle.std.proofs.lemmas.Result.{err_from_is_err_and}
use Rattle.circ_records.specs.declared.key.Key.TheVariants as keys
use Rattle.read_set.specs.Lookups.{ask_after}
use Rattle.read_set.specs.Asks.{IsAsked, follow}
use Rattle.read_set.specs.Maps.{Part, Grows}
use Rattle.read_set.specs.Payments.{pay_rule_each, pay_one}
use Rattle.read_set.proofs.Following.{follow_more}
use Rattle.read_set.proofs.Gaining.{gains_step}
use Rattle.message_meaning.proofs.Paying.{step, stop_step, asks_here, asks_after}
use Rattle.message_meaning.proofs.payments.pay_all.Goals as goal

pub returns-in_err-found-clause-gives : goal.returns-in_err-found-clause-gives
returns-in_err-found-clause-gives g c =
    let p = err_from_is_err_and c.from_residual-in_err-found.result c.from_residual-in_err-found.ensures.1 in
    let has : Part = g.S.Source.has c.read_after.new.source in
    let left : (c.loop-id.done.left == 0) ≡ false = search rules in
    let stops = rw c.in_ok-clone.ensures.cases at c.in_err-found.ensures.gives in
    rw (p.1, p.2, ← c.loop-id.invariant.same has c.in_err-found.ensures.keeps.grows)
    (stop_step has c.args.ids.now c.loop-id.id-index c.id-item.result c.loop-id.done _ c.loop-id-test.true c.id-item.is left stops)

pub returns-in_err-found-clause-keeps : goal.returns-in_err-found-clause-keeps
returns-in_err-found-clause-keeps g c =
    let has : Part = g.S.Source.has c.read_after.new.source in
    let left : (c.loop-id.done.left == 0) ≡ false = search rules in
    let asked = rw c.in_ok-clone.ensures.cases at c.in_err-found.ensures.keeps in
    gains_step _ _ has (ask_after c.loop-id.done.writes (keys.Fee c.id-item.result)) (pay_rule_each c.args.ids.now (record { left = c.args.amount; writes = []; closed = [] })) c.loop-id.invariant.keeps asked
    (λ k a. c.loop-id.invariant.asks has k c.in_err-found.ensures.keeps.grows
    (asks_here has c.args.ids.now c.loop-id.id-index c.id-item.result c.loop-id.done k c.loop-id-test.true c.id-item.is left a))

pub loop-id-preserved : goal.loop-id-preserved
loop-id-preserved g c =
    let has : Part = g.S.Source.has c.read_after.new.source in
    let left : (c.loop-id.done.left == 0) ≡ false = search rules in
    let found = rw c.in_ok-clone.ensures.cases at c.in_ok-found.ensures.gives in
    let asked = rw c.in_ok-clone.ensures.cases at c.in_ok-found.ensures.keeps in
    let paid = c.in_ok-done.ensures ∙ ap (λ f. pay_one c.id-item.result c.loop-id.done f) c.known_fee.ensures in
    let same : (more : Part) → Grows has more
    → follow more (pay_rule_each (drop (c.loop-id.id-index + 1) c.args.ids.now) c.in_ok-done.done)
    ≡ follow more (pay_rule_each c.args.ids.now (record { left = c.args.amount; writes = []; closed = [] }))
    = λ more grows.
    ap (λ d. follow more (pay_rule_each (drop (c.loop-id.id-index + 1) c.args.ids.now) d)) paid
    ∙ sym (step more c.args.ids.now c.loop-id.id-index c.id-item.result c.loop-id.done c.in_ok-found.found c.loop-id-test.true c.id-item.is left
    (follow_more has more (ask_after c.loop-id.done.writes (keys.Fee c.id-item.result)) c.in_ok-found.found grows found))
    ∙ c.loop-id.invariant.same more (λ k r e. grows k r (c.in_ok-found.ensures.keeps.grows k r e)) in
    record {
      keeps =
          gains_step _ _ has (ask_after c.loop-id.done.writes (keys.Fee c.id-item.result)) (pay_rule_each c.args.ids.now (record { left = c.args.amount; writes = []; closed = [] })) c.loop-id.invariant.keeps asked
          (λ k a. c.loop-id.invariant.asks has k c.in_ok-found.ensures.keeps.grows
          (asks_here has c.args.ids.now c.loop-id.id-index c.id-item.result c.loop-id.done k c.loop-id-test.true c.id-item.is left a));
      same = same;
      asks = λ more k grows a.
          c.loop-id.invariant.asks more k (λ j r e. grows j r (c.in_ok-found.ensures.keeps.grows j r e))
          (asks_after more c.args.ids.now c.loop-id.id-index c.id-item.result c.loop-id.done c.in_ok-found.found k c.loop-id-test.true c.id-item.is left
          (follow_more has more (ask_after c.loop-id.done.writes (keys.Fee c.id-item.result)) c.in_ok-found.found grows found)
          (subst (λ d. IsAsked more (pay_rule_each (drop (c.loop-id.id-index + 1) c.args.ids.now) d) k) paid a));
      now = same has (λ k r e. e);
    }

pub returns-in_err-done-clause-keeps : goal.returns-in_err-done-clause-keeps
returns-in_err-done-clause-keeps g c =
    let has : Part = g.S.Source.has c.read_after.new.source in
    let left : (c.loop-id.done.left == 0) ≡ false = search rules in
    let asked = rw c.in_ok-clone.ensures.cases at c.in_ok-found.ensures.keeps in
    gains_step _ _ has (ask_after c.loop-id.done.writes (keys.Fee c.id-item.result)) (pay_rule_each c.args.ids.now (record { left = c.args.amount; writes = []; closed = [] })) c.loop-id.invariant.keeps asked
    (λ k a. c.loop-id.invariant.asks has k c.in_ok-found.ensures.keeps.grows
    (asks_here has c.args.ids.now c.loop-id.id-index c.id-item.result c.loop-id.done k c.loop-id-test.true c.id-item.is left a))
