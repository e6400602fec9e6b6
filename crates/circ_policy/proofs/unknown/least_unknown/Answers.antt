use Rattle.std.proofs.Common.{◌≡◌, ◌∷◌, ◌∙◌, true, false, refl, sym, map, string_bytes, arith}
use Rattle.std.proofs.lemmas.Grind.{common_steps}
use Rattle.circ_policy.specs.Order.{is_among}
use Rattle.circ_policy.proofs.Least.{least_unknown-first, least_unknown-known, rising_after}
use Rattle.circ_policy.proofs.unknown.least_unknown.Goals as goal

pub returns-then-not-is_among : goal.returns-then-not-is_among
returns-then-not-is_among c =
    let iter : c.loop-key.key-iterator ≡ (c.in-Some.key.now, c.in-Some.field-0-1.now) ∷ c.next.new.self = grind (arith, common_steps) in
    let off : is_among (map (λ k. k.now) c.args.known.now) (string_bytes c.in-Some.key.now) ≡ false = cc (c.as_str.ensures.value, c.is_among.ensures, c.if-not-is_among.true) in
    let first = least_unknown-first (map (λ k. k.now) c.args.known.now) c.in-Some.key.now (c.in-Some.key.now, c.in-Some.field-0-1.now) c.next.new.self refl off (rw iter at c.loop-key.invariant.rising) in
    sym first ∙ (rw iter at c.loop-key.invariant.same)

pub loop-key-preserved : goal.loop-key-preserved
loop-key-preserved c =
    let iter : c.loop-key.key-iterator ≡ (c.in-Some.key.now, c.in-Some.field-0-1.now) ∷ c.next.new.self = grind (arith, common_steps) in
    let on : is_among (map (λ k. k.now) c.args.known.now) (string_bytes c.in-Some.key.now) ≡ true = cc (c.as_str.ensures.value, c.is_among.ensures, c.if-not-is_among.false) in
    let skip = least_unknown-known (map (λ k. k.now) c.args.known.now) (c.in-Some.key.now, c.in-Some.field-0-1.now) c.next.new.self on in
    record {
      same = sym skip ∙ (rw iter at c.loop-key.invariant.same);
      rising = rising_after (c.in-Some.key.now, c.in-Some.field-0-1.now) c.next.new.self (rw iter at c.loop-key.invariant.rising);
    }
