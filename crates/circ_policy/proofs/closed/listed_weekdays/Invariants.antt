use Rattle.std.proofs.Common.{◌≡◌, Some, false, drop, length, option_map, replicate}
use Rattle.toml.specs.View.{items_view}
use Rattle.circ_policy.specs.Values.{each, marked, text_of, weekday_in}
use Rattle.circ_policy.proofs.closed.listed_weekdays.Given as goal

-- what is left adds to what was marked
abbrev pub invariant-loop-item : goal.invariant-loop-item
invariant-loop-item l =
    record {
      seven : length l.flags ≡ 7;
      same : option_map (marked l.flags)
          (each (λ i. text_of weekday_in (Some i)) (items_view (drop l.item-index l.item-items)))
          ≡ option_map (marked (replicate 7 false))
          (each (λ i. text_of weekday_in (Some i)) (items_view l.item-items));
    }
