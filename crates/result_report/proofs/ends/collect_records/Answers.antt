use Rattle.std.proofs.Common.{◌≡◌, ◌++◌, map, refl, sym, subst, rules}
use Rattle.std.specs.List.{range_with_len}
use Rattle.result_report.specs.Ends.{HasAt, lines_keys, numbers_of}
use Rattle.result_report.proofs.Collected.{line-more, numbers}
use Rattle.result_report.proofs.ends.collect_records.Goals as goal

pub loop-i-preserved : goal.loop-i-preserved
loop-i-preserved g c =
    let M = g.E.End.left c.args.end.now in
    let entered = g.E.End.entered c.args.end.now in
    let keys = map (λ e. e.0) (g.E.End.planned c.args.end.now).base in
    line-more entered M c.take_entries.new.records keys c.first-first.result c.loop-i.i _ refl
    (c.in_ok-take_entries.ensures (lines_keys entered (range_with_len c.first-first.result c.loop-i.i)) c.loop-i.invariant)

pub returns : goal.returns
returns g c =
    let M = g.E.End.left c.args.end.now in
    let entered = g.E.End.entered c.args.end.now in
    let plan = g.E.End.planned c.args.end.now in
    let keys = map (λ e. e.0) plan.base in
    let same = numbers _ c.readings.result.now plan c.plan.result.now c.plan-2.result.now _ _ c.plan.ensures c.plan-2.ensures c.first-first.ensures c.len-count.ensures.len c.readings.ensures.readings in
    let done : c.loop-i.i ≡ c.len-count.result = search rules in
    record {
      rising = c.in_ok-from_map.ensures.rising;
      same = subst (λ es. HasAt (keys ++ lines_keys entered (numbers_of plan)) M es) (sym c.in_ok-from_map.ensures.same)
          (subst (λ ns. HasAt (keys ++ lines_keys entered ns) M c.loop-i.records) same
          (subst (λ n. HasAt (keys ++ lines_keys entered (range_with_len c.first-first.result n)) M c.loop-i.records) done c.loop-i.invariant));
    }
