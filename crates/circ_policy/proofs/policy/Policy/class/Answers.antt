use Rattle.std.proofs.Common.{rules, List, ℕ, nat_cmp, sym, ◌∙◌, ap, subst}
use Rattle.std.proofs.lemmas.Fn.{always_returns_same}
use Rattle.std.specs.BTreeMap.{is_at}
use Rattle.std.specs.Cmp.Lexicographic.{slice_cmp}
use Rattle.std.specs.Map.{lookup}
use Rattle.circ_policy.specs.Order.{HaveRisingNames}
use Rattle.circ_policy.specs.Policy.{class_of}
use Rattle.circ_policy.specs.declared.class.Class.{Class}
use Rattle.circ_policy.proofs.Names.{found, missing}
use Rattle.circ_policy.proofs.policy.Policy.class.Goals as goal

-- the closure compares the name of an entry with the one that is looked for
pub returns-in-Ok : goal.returns-in-Ok
unfolding class_of
returns-in-Ok c =
    let es : List (List ℕ × Class) = c.as_slice-classes.result.now in
    let same = c.as_slice-classes.ensures.value in
    let by = c.in-Ok.ensures.position (λ (e : List ℕ × Class). slice_cmp nat_cmp e.0 c.args.name.now) (always_returns_same _ _ _ (λ a r f' called. (search rules, search rules))) in
    let there = found es c.args.name.now c.in-Ok.position c.index-classes-position.result (subst HaveRisingNames (sym same) c.self.invariant.0) c.in-Ok.ensures.bound by in
    rw (← c.self.view_is) (sym there ∙ ap (λ (l : List (List ℕ × Class)). lookup (is_at (slice_cmp nat_cmp c.args.name.now)) l) same)

pub returns-in-Err : goal.returns-in-Err
unfolding class_of
returns-in-Err c =
    let es : List (List ℕ × Class) = c.as_slice-classes.result.now in
    let same = c.as_slice-classes.ensures.value in
    let by = c.in-Err.ensures.position (λ (e : List ℕ × Class). slice_cmp nat_cmp e.0 c.args.name.now) (always_returns_same _ _ _ (λ a r f' called. (search rules, search rules))) in
    let none = missing es c.args.name.now c.in-Err.field-0 (subst HaveRisingNames (sym same) c.self.invariant.0) c.in-Err.ensures.bound by in
    rw (← c.self.view_is) (sym none ∙ ap (λ (l : List (List ℕ × Class)). lookup (is_at (slice_cmp nat_cmp c.args.name.now)) l) same)
