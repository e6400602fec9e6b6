use Rattle.std.proofs.Common.{◌≡◌, ◌<◌, ◌+◌, ap, arith, length, subst, sym, ◌∙◌}
use Rattle.read_set.specs.Plans.{Planned}
use Rattle.speculate.specs.Devices.Phases.{AreFresh, Stands, Waits}
use Rattle.speculate.proofs.Drives.{driven, line_there, new_fresh, new_stands, runs_none, runs_on}
use Rattle.speculate.proofs.Phases.{fresh_on}
use Rattle.speculate.proofs.driving.drive_in_order.Goals as goal

pub loop-position-init : goal.loop-position-init
loop-position-init g c =
    let plan = g.J.PlanName.plan in
    let b = c.args.board.now in
    record {
      stands = new_stands plan b c.plan-plan.ensures.reached c.requires;
      fresh = new_fresh plan b c.requires;
      few = omega arith;
      led = runs_none plan b;
    }

pub drive_line-requires : goal.drive_line-requires
drive_line-requires g c =
    let plan = g.J.PlanName.plan in
    let b = c.loop-position.board in
    let position = c.loop-position.position in
    let count = ap (λ (p : Planned). length p.readings) c.plan-plan.ensures.plan in
    let within : position < length plan.readings = omega (arith, count) in
    let is : c.first-first.result + position ≡ plan.first + position = ap (λ x. x + position) (c.first-first.ensures ∙ ap (λ (p : Planned). p.first) c.plan-plan.ensures.plan) in
    let waits : Waits plan b (plan.first + position) = record {
      stands = c.loop-position.invariant.stands;
      there = line_there plan b position c.loop-position.invariant.stands.reached within;
      fresh = c.loop-position.invariant.fresh.above (plan.first + position) (omega arith);
    } in
    (c.type_bounds.static-J, subst (λ n. Waits plan b n) (sym is) waits)

pub loop-position-preserved : goal.loop-position-preserved
loop-position-preserved g c =
    let plan = g.J.PlanName.plan in
    let b = c.loop-position.board in
    let new = c.drive_line.new.board in
    let position = c.loop-position.position in
    let line = c.first-first.result + position in
    let first : c.first-first.result ≡ plan.first = c.first-first.ensures ∙ ap (λ (p : Planned). p.first) c.plan-plan.ensures.plan in
    let count = ap (λ (p : Planned). length p.readings) c.plan-plan.ensures.plan in
    let here : plan.first + position ≡ line = omega arith in
    let next : line + 1 ≡ plan.first + (position + 1) = omega arith in
    record {
      stands = subst (λ n. Stands plan new n) next c.in_ok-drive_line.ensures.next;
      fresh = subst (λ n. AreFresh new n) next (fresh_on b new line (subst (λ n. AreFresh b n) here c.loop-position.invariant.fresh) c.drive_line.ensures.led.spares);
      few = omega (arith, count);
      led = runs_on plan c.args.board.now b new c.loop-position.invariant.led c.drive_line.ensures.led.led;
    }

pub returns-in_err-drive_line-clause-led : goal.returns-in_err-drive_line-clause-led
returns-in_err-drive_line-clause-led g c =
    runs_on g.J.PlanName.plan c.args.board.now c.loop-position.board c.drive_line.new.board c.loop-position.invariant.led c.drive_line.ensures.led.led

pub returns-clause-all : goal.returns-clause-all
returns-clause-all g c =
    let plan = g.J.PlanName.plan in
    let b = c.loop-position.board in
    let count = ap (λ (p : Planned). length p.readings) c.plan-plan.ensures.plan in
    let is : plan.first + c.loop-position.position ≡ plan.first + length plan.readings = omega (arith, count, c.loop-position.invariant.few) in
    driven plan b (subst (λ n. Stands plan b n) is c.loop-position.invariant.stands) (subst (λ n. AreFresh b n) is c.loop-position.invariant.fresh)
