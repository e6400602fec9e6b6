use Rattle.std.proofs.Common.{◌≡◌, ◌∷◌, ◌∙◌, Ok, arith, rules, string_bytes, sym}
use Rattle.std.proofs.lemmas.Grind.{common_steps}
use Rattle.std.specs.List.Sorted.{IsStrictlySortedBy}
use Rattle.std.specs.Map.{keys_of}
use Rattle.std.specs.String.{string_cmp}
use Rattle.toml.specs.View.{view}
use Rattle.circ_policy.specs.Reading.{media_in}
use Rattle.circ_policy.proofs.Entries.{entries-more, entries-start}
use Rattle.circ_policy.proofs.sections.media_entries.Goals as goal

pub loop-name-init : goal.loop-name-init
loop-name-init c =
    let all : c.into_iter-name-iterator.result ≡ c.args.table.now.entries = grind (arith, common_steps) in
    let rising : IsStrictlySortedBy string_cmp (keys_of c.into_iter-name-iterator.result) = search rules in
    rw (c.new-media.ensures.items, all) (entries-start media_in c.args.table.now.entries (rw all at rising))

pub loop-name-preserved : goal.loop-name-preserved
loop-name-preserved c =
    let name = c.in-Some.name.now in
    let iter : c.loop-name.name-iterator ≡ (name, c.in-Some.value.now) ∷ c.next.new.self = grind (arith, common_steps) in
    let said : media_in (string_bytes name) (view c.in-Some.value.now) ≡ Ok c.in_ok-read_media_type.field-0 = rw c.as_str.ensures.value at c.in_ok-read_media_type.ensures in
    rw c.in_ok-push.ensures.items (sym (entries-more media_in c.loop-name.media.items (name, c.in-Some.value.now) c.next.new.self c.in_ok-read_media_type.field-0 said) ∙ (rw iter at c.loop-name.invariant))
