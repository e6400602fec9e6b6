use Rattle.std.proofs.Common.{◌≡◌, ℕ, List, take}
use Rattle.std.specs.BTreeSet.{contains}
use Rattle.std.specs.Cmp.Lexicographic.{slice_cmp}
use Rattle.std.specs.Ordering.{nat_cmp}
use Rattle.read_set.specs.Ids.{has_id}
use Rattle.loan_meaning.proofs.lists.set_of.Given as goal

abbrev pub invariant-loop-id : goal.invariant-loop-id
invariant-loop-id l = (q : List ℕ) → contains (slice_cmp nat_cmp) l.set q ≡ has_id q (take l.id-index l.ids)
