use Rattle.std.proofs.Common.{◌∙◌, ◌≡◌, [], ap, length, rules, sym}
use Rattle.std.specs.Prelude.{◌==◌}
use Rattle.std.specs.Vec.{vec_len}
use Rattle.record_tables.specs.AllBroken.{no_tables}
use Rattle.std.proofs.lemmas.Result.{IfOk-weaker}
use Rattle.schema.specs.Texts.{texts_of}
use Rattle.record_tables.proofs.Checked.{broken-in-rows, broken-in-texts, no-faults, sizes-of-none, sizes-of-rows, some-faults, tables-of}
use Rattle.record_tables.proofs.check.check_base.Goals as goal

pub judge_tables-requires : goal.judge_tables-requires
judge_tables-requires c =
    let len : vec_len c.in_ok-broken.broken ≡ length c.in_ok-broken.broken.items = search rules in
    let none = sym c.in_ok-broken.ensures ∙ no-faults c.in_ok-broken.broken.items (ap (λ n. n == 0) (sym len) ∙ sym c.is_empty.ensures ∙ c.if-is_empty.true) in
    tables-of c.args.tables.now none

pub returns-then-is_empty-clause-broken : goal.returns-then-is_empty-clause-broken
returns-then-is_empty-clause-broken c =
    let len : vec_len c.in_ok-broken.broken ≡ length c.in_ok-broken.broken.items = search rules in
    let none = sym c.in_ok-broken.ensures ∙ no-faults c.in_ok-broken.broken.items (ap (λ n. n == 0) (sym len) ∙ sym c.is_empty.ensures ∙ c.if-is_empty.true) in
    IfOk-weaker c.judge_tables.result _ _ (λ check is. is ∙ broken-in-rows c.args.policy.now c.args.tables.now c.args.first none) c.judge_tables.ensures.broken

pub returns-then-is_empty-clause-sizes : goal.returns-then-is_empty-clause-sizes
returns-then-is_empty-clause-sizes c =
    let len : vec_len c.in_ok-broken.broken ≡ length c.in_ok-broken.broken.items = search rules in
    let none = sym c.in_ok-broken.ensures ∙ no-faults c.in_ok-broken.broken.items (ap (λ n. n == 0) (sym len) ∙ sym c.is_empty.ensures ∙ c.if-is_empty.true) in
    IfOk-weaker c.judge_tables.result _ _ (λ check is. sizes-of-rows c.args.tables.now check.sizes none is) c.judge_tables.ensures.sizes

pub returns-else-is_empty-clause-broken : goal.returns-else-is_empty-clause-broken
returns-else-is_empty-clause-broken c =
    let len : vec_len c.in_ok-broken.broken ≡ length c.in_ok-broken.broken.items = search rules in
    let some : no_tables (texts_of c.args.tables.now) ≡ [] → ⊥ =
    λ none. some-faults c.in_ok-broken.broken.items (ap (λ n. n == 0) (sym len) ∙ sym c.is_empty.ensures ∙ c.if-is_empty.false) (c.in_ok-broken.ensures ∙ none) in
    c.in_ok-broken.ensures ∙ broken-in-texts c.args.policy.now (texts_of c.args.tables.now) c.args.first some

pub returns-else-is_empty-clause-sizes : goal.returns-else-is_empty-clause-sizes
returns-else-is_empty-clause-sizes c =
    let len : vec_len c.in_ok-broken.broken ≡ length c.in_ok-broken.broken.items = search rules in
    let some : no_tables (texts_of c.args.tables.now) ≡ [] → ⊥ =
    λ none. some-faults c.in_ok-broken.broken.items (ap (λ n. n == 0) (sym len) ∙ sym c.is_empty.ensures ∙ c.if-is_empty.false) (c.in_ok-broken.ensures ∙ none) in
    sizes-of-none (texts_of c.args.tables.now) _ some
