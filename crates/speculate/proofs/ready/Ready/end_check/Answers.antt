use Rattle.std.proofs.Common.{◌≡◌, ◌||◌, ap, sym, subst, ◌∙◌}
use Rattle.speculate.specs.Marks.{Puts, ended, has_position}
use Rattle.speculate.proofs.ready.Ready.end_check.Goals as goal
use Rattle.speculate.proofs.ready.Ready.end_check.Goals.{then-begins, else-begins}

pub put-requires : goal.put-requires
put-requires c = c.requires

pub put-requires-else-has : goal.put-requires-else-has
put-requires-else-has c = c.requires

pub returns-then-has : goal.returns-then-has
returns-then-has c =
    let r = c.args.self.now in
    let p = c.args.position in
    let is : c.if-begins.value ≡ (c.args.begins || has_position r.checking p) = elim c.if-begins.branch [
      | then-begins w ↦ w.value-is ∙ w.if-begins.true ∙ sym (ap (λ b. b || has_position r.checking p) w.if-begins.true)
      | else-begins w ↦ w.value-is ∙ w.has.ensures ∙ sym (ap (λ b. b || has_position r.checking p) w.if-begins.false)
    ] in
    subst (λ b. Puts r c.put.new.self p (ended b)) (sym c.if-has.true ∙ is) c.put.ensures

pub returns-else-has : goal.returns-else-has
returns-else-has c =
    let r = c.args.self.now in
    let p = c.args.position in
    let is : c.if-begins.value ≡ (c.args.begins || has_position r.checking p) = elim c.if-begins.branch [
      | then-begins w ↦ w.value-is ∙ w.if-begins.true ∙ sym (ap (λ b. b || has_position r.checking p) w.if-begins.true)
      | else-begins w ↦ w.value-is ∙ w.has.ensures ∙ sym (ap (λ b. b || has_position r.checking p) w.if-begins.false)
    ] in
    subst (λ b. Puts r c.put-else-has.new.self p (ended b)) (sym c.if-has.false ∙ is) c.put-else-has.ensures
