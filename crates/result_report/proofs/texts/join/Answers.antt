use Rattle.std.proofs.Common.{◌≡◌, ◌∷◌, ◌++◌, [], ◌*◌, ◌+◌, List, Some, length, take, refl, sym, ap, ◌∙◌, subst, append_assoc, append-nil, length-append, arith}
use Rattle.std.specs.Prelude.{slice_get}
use Rattle.std.specs.Vec.Iter.{into_iter_items}
use Rattle.result_report.specs.Stretches.{AreParts, stretch}
use Rattle.result_report.specs.Tables.{AreTexts}
use Rattle.result_report.specs.declared.texts.ResultTexts.{ResultTexts}
use Rattle.result_report.proofs.Parts.{stretch-few, stretch-next}
use Rattle.result_report.proofs.texts.join.Goals as goal

nothing-left : {X : Type 0} (l : List X) → length l ≡ 0 → l ≡ []
nothing-left [] h = refl
nothing-left (x ∷ xs) h = absurd (omega arith)

-- what follows some items
at-length : {X : Type 0} (xs : List X) (y : X) (ys : List X) → slice_get (xs ++ y ∷ ys) (length xs) ≡ Some y
at-length [] y ys = refl
at-length (x ∷ xs) y ys = at-length xs y ys

pub loop-part-init : goal.loop-part-init
loop-part-init c = (
  refl,
  (let gives = c.into_iter-part-iterator.ensures.into_iter_gives in let all = ap length gives.0 in omega (arith, gives.1, all, c.args.parts.ok.0)),
  λ lines told small heads was parts. let at : told + 0 ≡ told = omega arith in rw at was,
)

pub loop-part-preserved : goal.loop-part-preserved
loop-part-preserved c =
    let at = c.loop-part in
    let x = c.in-Some.part in
    let steps : into_iter_items at.part-iterator ≡ x ∷ into_iter_items c.next.new.self = c.in-Some.ensures.steps.0 in
    let all : at.yielded ++ x ∷ into_iter_items c.next.new.self ≡ into_iter_items c.into_iter-part-iterator.result = rw (← steps) at.invariant.0 in (
      append_assoc at.yielded (x ∷ []) _ ∙ all,
      let was = at.invariant.1 in
          let gone = c.in-Some.ensures.steps.1 in
          let short = ap length steps in
          omega arith,
      λ lines told small heads front parts.
          let k = told + length at.yielded in
          let few = stretch-few 4096 k lines in
          let here : slice_get (into_iter_items c.into_iter-part-iterator.result) (length at.yielded) ≡ Some x = ap (λ (ts : List ResultTexts). slice_get ts (length at.yielded)) (sym all) ∙ at-length at.yielded x (into_iter_items c.next.new.self) in
          let one : told + length (at.yielded ++ x ∷ []) ≡ k + 1 = omega (arith, length-append at.yielded (x ∷ [])) in
          subst (λ n. AreTexts (take (n * 4096) lines) c.add.new.self) (sym one)
          (subst (λ ls. AreTexts ls c.add.new.self) (stretch-next 4096 k lines)
          (c.in_ok-add.ensures (take (k * 4096) lines) (stretch k lines) (omega arith) heads (at.invariant.2 lines told small heads front parts) (parts (length at.yielded) x here))),
    )

pub returns : goal.returns
returns c lines told small heads front parts =
    let at = c.loop-part in
    let none = c.in-None.ensures.steps in
    let empty : into_iter_items at.part-iterator ≡ [] = nothing-left _ (sym at.invariant.1 ∙ none.0) in
    let all = sym (append-nil at.yielded) ∙ rw empty at at.invariant.0 ∙ c.into_iter-part-iterator.ensures.into_iter_gives.0 in
    let first = c.into_iter-part-iterator.ensures.into_iter_gives.0 in
    let same : AreParts told lines (into_iter_items c.into_iter-part-iterator.result) = subst (λ (ts : List ResultTexts). AreParts told lines ts) (sym first) parts in
    subst (λ n. AreTexts (take ((told + n) * 4096) lines) at.joined) (ap length all) (at.invariant.2 lines told small heads front same)
