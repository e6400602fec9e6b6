use Rattle.std.proofs.Common.{◌≡◌, ◌++◌, map, nat_cmp, string_bytes}
use Rattle.std.specs.Cmp.Lexicographic.{slice_cmp}
use Rattle.std.specs.List.Sorted.{IsStrictlySortedBy}
use Rattle.std.specs.Map.{keys_of}
use Rattle.toml.specs.View.{members_view, table_view}
use Rattle.circ_policy.specs.Order.{in_byte_order}
use Rattle.circ_policy.specs.Reading.{class_in, entries}
use Rattle.circ_policy.proofs.Entries.{with_front}
use Rattle.circ_policy.proofs.sections.class_entries.Given as goal

-- what is left comes after what was read, and the names rise
abbrev pub invariant-loop-name : goal.invariant-loop-name
invariant-loop-name l =
    record {
      same : with_front l.classes.items (entries class_in (members_view l.name-iterator))
          ≡ entries class_in (in_byte_order (table_view l.table));
      rising : IsStrictlySortedBy (slice_cmp nat_cmp)
          (keys_of l.classes.items ++ map (λ e. string_bytes e.0) l.name-iterator);
    }
