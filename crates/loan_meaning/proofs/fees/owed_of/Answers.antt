use Rattle.std.proofs.Common.{◌≡◌, ap, refl, sym, subst, ◌∙◌, ◌+◌, drop, arith}
use Rattle.std.proofs.lemmas.Result.{err_from_is_err_and}
use Rattle.circ_records.specs.declared.key.Key.TheVariants as keys
use Rattle.read_set.specs.Asks.{IsAsked, follow}
use Rattle.read_set.specs.Maps.{Part, Grows}
use Rattle.read_set.specs.Lookups.{ask_after}
use Rattle.read_set.specs.Owing.{owed_at, owed_from}
use Rattle.read_set.specs.Fees.{rest_of}
use Rattle.read_set.proofs.Following.{follow_more}
use Rattle.read_set.proofs.Gaining.{gains_none, gains_step}
use Rattle.loan_meaning.proofs.Owing.{step, stop_step, asks_here, asks_after, small_step}
use Rattle.loan_meaning.proofs.fees.owed_of.Goals as goal

pub loop-id-init : goal.loop-id-init
loop-id-init g c =
    let has : Part = g.S.Source.has c.args.source.now in
    record { keeps = gains_none has (owed_from c.args.writes.now 0 c.args.fees.now); small = omega arith; same = λ more grows. refl; asks = λ more k grows a. a; now = refl }

pub returns-in_err-found-clause-gives : goal.returns-in_err-found-clause-gives
unfolding owed_at
returns-in_err-found-clause-gives g c =
    let p = err_from_is_err_and c.from_residual-in_err-found.result c.from_residual-in_err-found.ensures.1 in
    let has : Part = g.S.Source.has c.read_after.new.source in
    let stops = rw c.in_ok-clone.ensures.cases at c.in_err-found.ensures.gives in
    rw (p.1, p.2, ← c.loop-id.invariant.same has c.in_err-found.ensures.keeps.grows)
    (stop_step has c.args.writes.now c.args.fees.now c.loop-id.id-index c.id-item.result c.loop-id.sum _ c.loop-id-test.true c.id-item.is stops)

pub returns-in_err-found-clause-keeps : goal.returns-in_err-found-clause-keeps
unfolding owed_at
returns-in_err-found-clause-keeps g c =
    let has : Part = g.S.Source.has c.read_after.new.source in
    let asked = rw c.in_ok-clone.ensures.cases at c.in_err-found.ensures.keeps in
    gains_step _ _ has (ask_after c.args.writes.now (keys.Fee c.id-item.result)) (owed_from c.args.writes.now 0 c.args.fees.now) c.loop-id.invariant.keeps asked
    (λ k a. c.loop-id.invariant.asks has k c.in_err-found.ensures.keeps.grows
    (asks_here has c.args.writes.now c.args.fees.now c.loop-id.id-index c.id-item.result c.loop-id.sum k c.loop-id-test.true c.id-item.is a))

pub loop-id-preserved : goal.loop-id-preserved
loop-id-preserved g c =
    let has : Part = g.S.Source.has c.read_after.new.source in
    let found = rw c.in_ok-clone.ensures.cases at c.in_ok-found.ensures.gives in
    let asked = rw c.in_ok-clone.ensures.cases at c.in_ok-found.ensures.keeps in
    let rest_is = c.from.ensures ∙ c.rest_of.ensures ∙ ap rest_of c.known_fee.ensures in
    let same : (more : Part) → Grows has more
    → follow more (owed_from c.args.writes.now (c.loop-id.sum + c.from.result) (drop (c.loop-id.id-index + 1) c.args.fees.now)) ≡ follow more (owed_from c.args.writes.now 0 c.args.fees.now)
    = λ more grows.
    ap (λ r. follow more (owed_from c.args.writes.now (c.loop-id.sum + r) (drop (c.loop-id.id-index + 1) c.args.fees.now))) rest_is
    ∙ sym (step more c.args.writes.now c.args.fees.now c.loop-id.id-index c.id-item.result c.loop-id.sum c.in_ok-found.found c.loop-id-test.true c.id-item.is
    (follow_more has more (ask_after c.args.writes.now (keys.Fee c.id-item.result)) c.in_ok-found.found grows found))
    ∙ c.loop-id.invariant.same more (λ k r e. grows k r (c.in_ok-found.ensures.keeps.grows k r e)) in
    record {
      keeps =
          gains_step _ _ has (ask_after c.args.writes.now (keys.Fee c.id-item.result)) (owed_from c.args.writes.now 0 c.args.fees.now) c.loop-id.invariant.keeps asked
          (λ k a. c.loop-id.invariant.asks has k c.in_ok-found.ensures.keeps.grows
          (asks_here has c.args.writes.now c.args.fees.now c.loop-id.id-index c.id-item.result c.loop-id.sum k c.loop-id-test.true c.id-item.is a));
      small = small_step c.loop-id.sum c.loop-id.id-index c.from.result c.loop-id.invariant.small (rw c.from.ensures c.rest_of.type_inv);
      same = same;
      asks = λ more k grows a.
          c.loop-id.invariant.asks more k (λ j r e. grows j r (c.in_ok-found.ensures.keeps.grows j r e))
          (asks_after more c.args.writes.now c.args.fees.now c.loop-id.id-index c.id-item.result c.loop-id.sum c.in_ok-found.found k c.loop-id-test.true c.id-item.is
          (follow_more has more (ask_after c.args.writes.now (keys.Fee c.id-item.result)) c.in_ok-found.found grows found)
          (subst (λ r. IsAsked more (owed_from c.args.writes.now (c.loop-id.sum + r) (drop (c.loop-id.id-index + 1) c.args.fees.now)) k) rest_is a));
      now = same has (λ k r e. e);
    }
