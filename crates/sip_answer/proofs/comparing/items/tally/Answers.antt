use Rattle.std.proofs.Common.{[], ℕ, List, ◌+◌, Some, arith, get_or, take, length-take}
use Rattle.std.specs.Borrow.{Bor}
use Rattle.std.specs.BTreeMap.{get_by}
use Rattle.std.specs.Cmp.Lexicographic.{slice_cmp}
use Rattle.std.specs.Ordering.{nat_cmp}
use Rattle.std.specs.Str.{bytes_eq}
use Rattle.std.proofs.lemmas.List.{take_more}
use Rattle.std.proofs.lemmas.List.Sums.{count_by-le-length}
use Rattle.std.proofs.lemmas.Map.Text.{btree_map_updates_str}
use Rattle.sip_answer.proofs.ItemLists.{tally_more}
use Rattle.sip_answer.proofs.comparing.items.tally.Goals as goal

abbrev nothing : Bor (List ℕ)
nothing = record { ref_ptr = (0, 0); now = [] }

pub overflow_add-before : goal.overflow_add-before
overflow_add-before c =
    let item = get_or c.args.items.now c.loop-item.item-index nothing in
    omega (arith, c.times_of-before.ensures, c.loop-item.invariant item.now, count_by-le-length (λ x. bytes_eq item.now x.now) (take c.loop-item.item-index c.args.items.now), length-take c.loop-item.item-index c.args.items.now)

pub loop-item-preserved : goal.loop-item-preserved
loop-item-preserved c = λ q.
    let item = get_or c.args.items.now c.loop-item.item-index nothing in
    rw (take_more c.args.items.now c.loop-item.item-index nothing c.loop-item-test.true)
    (tally_more (λ w. get_by (λ k. slice_cmp nat_cmp w k.now) c.loop-item.times) (λ w. get_by (λ k. slice_cmp nat_cmp w k.now) c.insert.new.self)
    item (take c.loop-item.item-index c.args.items.now) c.times_of-before.result c.loop-item.invariant c.times_of-before.ensures
    (btree_map_updates_str item.now c.loop-item.times c.insert.new.self (Some (c.times_of-before.result + 1)) c.in_ok-insert.ensures.updates) q)
