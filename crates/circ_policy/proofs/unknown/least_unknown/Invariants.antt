use Rattle.std.proofs.Common.{◌≡◌, map}
use Rattle.std.specs.List.Sorted.{IsStrictlySortedBy}
use Rattle.std.specs.Map.{keys_of}
use Rattle.std.specs.String.{string_cmp}
use Rattle.toml.specs.View.{members_view, table_view}
use Rattle.circ_policy.specs.Order.{least_unknown}
use Rattle.circ_policy.proofs.unknown.least_unknown.Given as goal

-- what is left decides, and its keys rise
abbrev pub invariant-loop-key : goal.invariant-loop-key
invariant-loop-key l =
    record {
      same : least_unknown (map (λ k. k.now) l.known) (members_view l.key-iterator)
          ≡ least_unknown (map (λ k. k.now) l.known) (table_view l.table);
      rising : IsStrictlySortedBy string_cmp (keys_of l.key-iterator);
    }
