use Rattle.std.proofs.Common.{◌≡◌, ◌≤◌, [], Some, drop, length, option_map}
use Rattle.toml.specs.View.{items_view}
use Rattle.circ_policy.specs.Values.{date_in, day_set, each, text_of}
use Rattle.circ_policy.proofs.closed.listed_dates.Given as goal

-- what is left adds to the set, which has at most a key an item
abbrev pub invariant-loop-item : goal.invariant-loop-item
invariant-loop-item l =
    record {
      few : length l.dates.keys ≤ l.item-index;
      same : option_map (day_set l.dates.keys)
          (each (λ i. text_of date_in (Some i)) (items_view (drop l.item-index l.item-items)))
          ≡ option_map (day_set [])
          (each (λ i. text_of date_in (Some i)) (items_view l.item-items));
    }
