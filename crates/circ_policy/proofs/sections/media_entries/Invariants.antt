use Rattle.std.proofs.Common.{◌≡◌}
use Rattle.toml.specs.View.{members_view, table_view}
use Rattle.circ_policy.specs.Order.{in_byte_order}
use Rattle.circ_policy.specs.Reading.{entries, media_in}
use Rattle.circ_policy.proofs.Entries.{with_front}
use Rattle.circ_policy.proofs.sections.media_entries.Given as goal

-- what is left comes after what was read, and its names rise
abbrev pub invariant-loop-name : goal.invariant-loop-name
invariant-loop-name l = with_front l.media.items (entries media_in (members_view l.name-iterator)) ≡ entries media_in (in_byte_order (table_view l.table))
