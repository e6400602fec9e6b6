use Rattle.std.proofs.Common.{◌≡◌, ◌∙◌, List, Some, Option, ap, refl}
use Rattle.csv.specs.Records.{fields_of}
use Rattle.record_tables.specs.Base.{own_rows, rule_of}
use Rattle.record_tables.specs.Read.{rows_in}
use Rattle.record_tables.proofs.Checked.{some-rows}
use Rattle.record_tables.proofs.Listing.{after-row, before-rows, counted-all, judged-all, listed-all}
use Rattle.record_tables.proofs.Reading.{own-read}
use Rattle.record_tables.proofs.adding.BaseSource.judge_rows.Goals as goal

pub loop-row-preserved : goal.loop-row-preserved
loop-row-preserved c =
    let found = c.if-branch.true in
    let self = c.args.self.now in
    let inv = c.loop-row.invariant in
    let named = c.in_ok-next_row.ensures.table ∙ inv.named in
    record {
      named = named;
      within = after-row c.args.table _ _ _ _ c.loop-row.rows.rows c.next_row.new.rows.rows (fields_of c.next_row.new.row) c.loop-row.rows.count c.next_row.new.rows.count _ c.loop-row.broken.items c.judge_row.new.broken.items
          inv.within (c.in_ok-next_row.ensures.row found) (c.in_ok-next_row.ensures.count found)
          (λ before h. rw named at (c.in_ok-judge_row.ensures.broken (rows_in self.tables.now) before (rw named h)))
          (λ before h. rw named at (c.in_ok-judge_row.ensures.seen (rows_in self.tables.now) before (rw named h)));
    }

pub returns-clause-broken : goal.returns-clause-broken
returns-clause-broken c = listed-all c.args.table _ _ _ c.loop-row.rows.rows c.loop-row.rows.count _ c.loop-row.broken.items c.loop-row.invariant.within (c.in_ok-next_row.ensures.end c.if-branch.false)

pub returns-clause-seen : goal.returns-clause-seen
returns-clause-seen c = judged-all c.args.table _ _ _ c.loop-row.rows.rows c.loop-row.rows.count _ c.loop-row.broken.items c.loop-row.invariant.within (c.in_ok-next_row.ensures.end c.if-branch.false)

pub returns-clause-count : goal.returns-clause-count
returns-clause-count c =
    c.count.ensures ∙ c.in_ok-next_row.ensures.same c.if-branch.false ∙ counted-all c.args.table _ _ _ c.loop-row.rows.rows c.loop-row.rows.count _ c.loop-row.broken.items c.loop-row.invariant.within (c.in_ok-next_row.ensures.end c.if-branch.false)
