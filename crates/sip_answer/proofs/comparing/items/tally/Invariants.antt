use Rattle.std.proofs.Common.{◌≡◌, ℕ, List, take, unwrap_or}
use Rattle.std.specs.BTreeMap.{get_by}
use Rattle.std.specs.Cmp.Lexicographic.{slice_cmp}
use Rattle.std.specs.List.{count_by}
use Rattle.std.specs.Ordering.{nat_cmp}
use Rattle.std.specs.Str.{bytes_eq}
use Rattle.sip_answer.proofs.comparing.items.tally.Given as goal

-- how often each item is among those so far
abbrev pub invariant-loop-item : goal.invariant-loop-item
invariant-loop-item l = (q : List ℕ) → unwrap_or (get_by (λ k. slice_cmp nat_cmp q k.now) l.times) 0 ≡ count_by (λ x. bytes_eq q x.now) (take l.item-index l.items)
