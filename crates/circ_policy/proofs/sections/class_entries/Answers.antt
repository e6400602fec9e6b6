use Rattle.std.proofs.Common.{◌≡◌, ◌∷◌, ◌∙◌, [], Ok, arith, map, rules, string_bytes, sym}
use Rattle.std.proofs.lemmas.Grind.{common_steps}
use Rattle.std.specs.List.Sorted.{IsStrictlySortedBy}
use Rattle.std.specs.Map.{keys_of}
use Rattle.std.specs.String.{string_cmp}
use Rattle.toml.specs.View.{view}
use Rattle.circ_policy.specs.Reading.{class_in}
use Rattle.circ_policy.proofs.Entries.{class_in-name, entries-more, entries-start, keys_of-last, rising_bytes}
use Rattle.circ_policy.proofs.sections.class_entries.Goals as goal

pub loop-name-init : goal.loop-name-init
loop-name-init c =
    let all : c.into_iter-name-iterator.result ≡ c.args.table.now.entries = grind (arith, common_steps) in
    let rising : IsStrictlySortedBy string_cmp (keys_of c.into_iter-name-iterator.result) = search rules in
    let none : c.new-classes.result.items ≡ [] = c.new-classes.ensures.items in
    record {
      same = rw (none, all) (entries-start class_in c.args.table.now.entries (rw all at rising));
      rising = rw none (rising_bytes c.into_iter-name-iterator.result rising);
    }

pub loop-name-preserved : goal.loop-name-preserved
loop-name-preserved c =
    let name = c.in-Some.name.now in
    let done = c.loop-name.classes.items in
    let more = map (λ e. string_bytes e.0) c.next.new.self in
    let iter : c.loop-name.name-iterator ≡ (name, c.in-Some.value.now) ∷ c.next.new.self = grind (arith, common_steps) in
    let said : class_in (string_bytes name) (view c.in-Some.value.now) ≡ Ok (c.in_ok-id.id, c.in_ok-id.class) = rw c.as_str.ensures.value at c.in_ok-id.ensures in
    let own = class_in-name (string_bytes name) (view c.in-Some.value.now) c.in_ok-id.id c.in_ok-id.class said in
    let rising = rw iter at c.loop-name.invariant.rising in
    let put = c.in_ok-push.ensures.items in
    record {
      same = rw put (sym (entries-more class_in done (name, c.in-Some.value.now) c.next.new.self (c.in_ok-id.id, c.in_ok-id.class) said) ∙ (rw iter at c.loop-name.invariant.same));
      rising = rw (put, keys_of-last done c.in_ok-id.id c.in_ok-id.class more, own) rising;
    }
