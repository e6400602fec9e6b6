use Rattle.std.proofs.Common.{◌≡◌, refl, sym, ◌∙◌, ◌+◌, drop, arith}
use Rattle.std.proofs.lemmas.Result.{err_from_is_err_and}
use Rattle.read_set.specs.Asks.{follow}
use Rattle.read_set.specs.Maps.{Part, Grows}
use Rattle.read_set.specs.RenewAlls.{by_renew_all, none_renewed, turn_rule, turns_rule}
use Rattle.read_set.proofs.Following.{follow_more}
use Rattle.read_set.proofs.Gaining.{gains_none, gains_step}
use Rattle.loan_meaning.proofs.Sums.{run_none}
use Rattle.loan_meaning.proofs.Turning.{step, stop_step, asks_here, asks_after}
use Rattle.loan_meaning.proofs.renew_alls.take_turns.Goals as goal

pub returns-in_err-done-clause-gives : goal.returns-in_err-done-clause-gives
returns-in_err-done-clause-gives g c =
    let p = err_from_is_err_and c.from_residual-in_err-done.result c.from_residual-in_err-done.ensures.1 in
    let has : Part = g.S.Source.has c.take_turn.new.source in
    let stops = rw (c.asking-asked.ensures.policy, c.asking-asked.ensures.number, c.asking-asked.ensures.request, c.asking-asked.ensures.date, c.in_ok-ask_for.ensures) at c.in_err-done.ensures.gives in
    rw (p.1, p.2, ← c.loop-item.invariant.same has c.in_err-done.ensures.keeps.grows)
    (stop_step has c.args.line.now.policy.now c.args.line.now.number c.args.forced c.args.request.now c.args.line.now.date c.args.items.now c.loop-item.item-index c.item-item.result c.loop-item.done _ c.loop-item-test.true c.item-item.is stops)

pub returns-in_err-done-clause-keeps : goal.returns-in_err-done-clause-keeps
returns-in_err-done-clause-keeps g c =
    let has : Part = g.S.Source.has c.take_turn.new.source in
    let asked = rw (c.asking-asked.ensures.policy, c.asking-asked.ensures.number, c.asking-asked.ensures.request, c.asking-asked.ensures.date, c.in_ok-ask_for.ensures) at c.in_err-done.ensures.keeps in
    gains_step _ _ has (turn_rule c.args.line.now.policy.now c.args.line.now.number (by_renew_all c.args.forced c.args.request.now c.item-item.result) c.args.line.now.date c.loop-item.done) (turns_rule c.args.line.now.policy.now c.args.line.now.number c.args.forced c.args.request.now c.args.line.now.date c.args.items.now (none_renewed c.args.member)) c.loop-item.invariant.keeps asked
    (λ k a. c.loop-item.invariant.asks has k c.in_err-done.ensures.keeps.grows
    (asks_here has c.args.line.now.policy.now c.args.line.now.number c.args.forced c.args.request.now c.args.line.now.date c.args.items.now c.loop-item.item-index c.item-item.result c.loop-item.done k c.loop-item-test.true c.item-item.is a))

pub loop-item-preserved : goal.loop-item-preserved
loop-item-preserved g c =
    let has : Part = g.S.Source.has c.take_turn.new.source in
    let next = rw (c.asking-asked.ensures.policy, c.asking-asked.ensures.number, c.asking-asked.ensures.request, c.asking-asked.ensures.date, c.in_ok-ask_for.ensures) at c.in_ok-done.ensures.gives in
    let asked = rw (c.asking-asked.ensures.policy, c.asking-asked.ensures.number, c.asking-asked.ensures.request, c.asking-asked.ensures.date, c.in_ok-ask_for.ensures) at c.in_ok-done.ensures.keeps in
    let same : (more : Part) → Grows has more
    → follow more (turns_rule c.args.line.now.policy.now c.args.line.now.number c.args.forced c.args.request.now c.args.line.now.date (drop (c.loop-item.item-index + 1) c.args.items.now) c.in_ok-done.done)
    ≡ follow more (turns_rule c.args.line.now.policy.now c.args.line.now.number c.args.forced c.args.request.now c.args.line.now.date c.args.items.now (none_renewed c.args.member))
    = λ more grows.
    sym (step more c.args.line.now.policy.now c.args.line.now.number c.args.forced c.args.request.now c.args.line.now.date c.args.items.now c.loop-item.item-index c.item-item.result c.loop-item.done c.in_ok-done.done c.loop-item-test.true c.item-item.is
    (follow_more has more (turn_rule c.args.line.now.policy.now c.args.line.now.number (by_renew_all c.args.forced c.args.request.now c.item-item.result) c.args.line.now.date c.loop-item.done) c.in_ok-done.done grows next))
    ∙ c.loop-item.invariant.same more (λ k r e. grows k r (c.in_ok-done.ensures.keeps.grows k r e)) in
    record {
      keeps =
          gains_step _ _ has (turn_rule c.args.line.now.policy.now c.args.line.now.number (by_renew_all c.args.forced c.args.request.now c.item-item.result) c.args.line.now.date c.loop-item.done) (turns_rule c.args.line.now.policy.now c.args.line.now.number c.args.forced c.args.request.now c.args.line.now.date c.args.items.now (none_renewed c.args.member)) c.loop-item.invariant.keeps asked
          (λ k a. c.loop-item.invariant.asks has k c.in_ok-done.ensures.keeps.grows
          (asks_here has c.args.line.now.policy.now c.args.line.now.number c.args.forced c.args.request.now c.args.line.now.date c.args.items.now c.loop-item.item-index c.item-item.result c.loop-item.done k c.loop-item-test.true c.item-item.is a));
      few = omega (arith, c.in_ok-done.ensures.few, c.loop-item.invariant.few);
      runs = rw c.asking-asked.ensures.number at c.in_ok-done.ensures.runs;
      same = same;
      asks = λ more k grows a.
          c.loop-item.invariant.asks more k (λ j r e. grows j r (c.in_ok-done.ensures.keeps.grows j r e))
          (asks_after more c.args.line.now.policy.now c.args.line.now.number c.args.forced c.args.request.now c.args.line.now.date c.args.items.now c.loop-item.item-index c.item-item.result c.loop-item.done c.in_ok-done.done k c.loop-item-test.true c.item-item.is
          (follow_more has more (turn_rule c.args.line.now.policy.now c.args.line.now.number (by_renew_all c.args.forced c.args.request.now c.item-item.result) c.args.line.now.date c.loop-item.done) c.in_ok-done.done grows next) a);
      now = same has (λ k r e. e);
    }

pub loop-item-init : goal.loop-item-init
loop-item-init g c =
    let had : Part = g.S.Source.has c.args.source.now in
    let new = rw (c.as_slice.ensures, c.get.ensures) at c.in_ok-fresh.ensures in
    rw c.begin-done.ensures
    (record { keeps = gains_none had (turns_rule c.args.line.now.policy.now c.args.line.now.number c.args.forced c.args.request.now c.args.line.now.date c.args.items.now (none_renewed c.args.member)); few = omega arith; runs = run_none had c.args.line.now.number c.args.member c.in_ok-fresh.fresh new; same = λ more grows. refl; asks = λ more k grows a. a; now = refl })
