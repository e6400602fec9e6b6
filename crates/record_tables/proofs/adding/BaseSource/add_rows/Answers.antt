use Rattle.std.proofs.Common.{◌≡◌, List, Some, None, rules, sym, refl, subst, ap, ◌∙◌}
use Rattle.std.specs.Prelude.{IsSome, is_some}
use Rattle.csv.specs.Records.{fields_of}
use Rattle.record_tables.specs.Base.{rule_of}
use Rattle.record_tables.specs.Read.{AreTold, rows_in, text_rows, up_to}
use Rattle.record_tables.specs.Rules.{broken}
use Rattle.record_tables.specs.Tables.{Row}
use Rattle.record_tables.proofs.Reading.{breaks-here, end-all, keeps-all, keeps-more, none-held, own-all, own-read, refused, start-at, step-at}
use Rattle.record_tables.proofs.adding.BaseSource.add_rows.Goals as goal

pub loop-row-init : goal.loop-row-init
loop-row-init c = record {
  named = c.in_ok-rows.ensures.table;
  at = start-at _ _ _ c.in_ok-rows.ensures.rows (
    rw c.in_ok-rows.ensures.count (λ rest. refl),
    c.requires,
    rw (none-held c.args.table (rows_in c.args.self.now.tables.now)) (λ item patron. search rules),
  );
}

pub loop-row-preserved : goal.loop-row-preserved
loop-row-preserved c =
    let whole : c.in_ok-broken.broken ≡ None = search rules in
    let inv = c.loop-row.invariant in
    let self = c.args.self.now in
    let rows = rows_in self.tables.now in
    let found = c.if-branch.true in
    record {
      named = c.in_ok-next.ensures.table ∙ inv.named;
      at = step-at _ _ _ (fields_of c.next.new.row) _ _ inv.at (c.in_ok-next.ensures.row found) (λ before added. let (keeps, tells, waits) = added in (
        keeps-more c.args.table (rule_of self.policy.now self.first c.args.table rows) c.loop-row.rows.count _ before (fields_of c.next.new.row)
            (sym (c.in_ok-broken.ensures.rule rows before tells waits) ∙ whole) (c.in_ok-next.ensures.count found) keeps,
        c.in_ok-broken.ensures.told whole rows before tells waits,
        c.in_ok-broken.ensures.waiting whole rows before waits,
      ));
    }

pub returns-in-Some-clause-err : goal.returns-in-Some-clause-err
returns-in-Some-clause-err c =
    let broke : c.in_ok-broken.broken ≡ Some c.in-Some.rule = search rules in
    let inv = c.loop-row.invariant in
    let self = c.args.self.now in
    let rows = rows_in self.tables.now in
    let rule = rule_of self.policy.now self.first c.args.table rows in
    let found = c.if-branch.true in
    let (keeps, tells, waits) = inv.at.added in
    rw (c.broken.ensures, c.in_ok-next.ensures.table ∙ inv.named) (λ (is : IsSome (text_rows c.args.table self.tables.now)).
    ap (broken c.args.table rule) (sym (own-read c.args.table self.tables.now))
    ∙ breaks-here c.args.table rule c.loop-row.rows.count _ _ _ _
    (fields_of c.next.new.row) c.in-Some.rule _ inv.at (c.in_ok-next.ensures.row found)
    (c.in_ok-next.ensures.count found) keeps
    (sym (c.in_ok-broken.ensures.rule rows inv.at.before tells waits) ∙ broke) is)

pub returns-in_err-next-clause-err : goal.returns-in_err-next-clause-err
returns-in_err-next-clause-err c =
    let inv = c.loop-row.invariant in
    refused _ _ c.args.table c.loop-row.rows.table c.args.self.now.tables.now _ _ _ c.from_residual-in_err-next.ensures.1 inv.named inv.at c.in_err-next.ensures.err

pub returns-clause-read : goal.returns-clause-read
returns-clause-read c = ap is_some (end-all _ _ _ c.loop-row.invariant.at (c.in_ok-next.ensures.end c.if-branch.false))

pub returns-clause-ok : goal.returns-clause-ok
returns-clause-ok c =
    let at = c.loop-row.invariant.at in
    let self = c.args.self.now in
    let rule = rule_of self.policy.now self.first c.args.table (rows_in self.tables.now) in
    ap (broken c.args.table rule) (own-all c.args.table self.tables.now _ _ at (c.in_ok-next.ensures.end c.if-branch.false))
    ∙ keeps-all c.args.table rule c.loop-row.rows.count at.before at.added.0

pub returns-clause-told : goal.returns-clause-told
returns-clause-told c =
    let at = c.loop-row.invariant.at in
    let tables = c.args.self.now.tables.now in
    subst (λ (xs : List Row). AreTold (up_to c.args.table (rows_in tables) xs) c.loop-row.records) (sym (own-all c.args.table tables _ _ at (c.in_ok-next.ensures.end c.if-branch.false))) at.added.1
