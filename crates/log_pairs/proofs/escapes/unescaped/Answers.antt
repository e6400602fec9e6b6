use Rattle.std.proofs.Common.{◌≡◌, ◌-◌, ◌<◌, ◌++◌, ℕ, suc, List, length, drop, Option, Some, ap, sym, subst, arith, ◌∙◌}
use Rattle.std.specs.Prelude.{option_map}
use Rattle.std.proofs.lemmas.List.{take_rest}
use Rattle.log_pairs.specs.Escapes.{message_from, message_of, spelled}
use Rattle.log_pairs.proofs.Spelling.{is-some, passes}
use Rattle.log_pairs.proofs.escapes.unescaped.Goals as goal

pub loop-i-preserved-then-more-gt0 : goal.loop-i-preserved-then-more-gt0
loop-i-preserved-then-more-gt0 c =
    let l = c.loop-i in
    let below : l.i < length c.args.text.now = omega arith in
    let one : l.more ≡ suc (l.more - 1) = omega arith in
    ap (λ (o : Option (List ℕ)). option_map (λ (m : List ℕ). l.message.items ++ m) o) (sym (passes c.args.escapes l.more (l.more - 1) c.args.text.now l.i below one))
    ∙ l.invariant

pub loop-i-preserved : goal.loop-i-preserved
loop-i-preserved c =
    let l = c.loop-i in
    let below : l.i < length c.args.text.now = omega arith in
    let none : l.more ≡ 0 = omega arith in
    let it : spelled c.args.escapes (drop l.i c.args.text.now) ≡ Some (c.in-Some.byte, c.in-Some.behind) =
    ap (λ (t : List ℕ). spelled c.args.escapes t) (sym (take_rest c.args.text.now l.i)) ∙ sym c.in-Some.ensures in
    rw c.in_ok-push.ensures.items
    (is-some c.args.escapes c.args.text.now l.i c.in-Some.byte c.in-Some.behind l.message.items below it
    ∙ subst
    (λ (k : ℕ). option_map (λ (m : List ℕ). l.message.items ++ m) (message_from c.args.escapes k (drop l.i c.args.text.now)) ≡ message_of c.args.escapes c.args.text.now)
    none l.invariant)
