use Rattle.std.proofs.Common.{◌<◌, map, length, sym, ap, subst, ◌∙◌, rules, Option}
use Rattle.std.specs.Prelude.{option_map}
use Rattle.std.specs.List.Sorted.{IsBinarySearchResult, IsSearchInRange, IsStrictlySortedBy}
use Rattle.std.proofs.lemmas.Fn.{always_returns_same}
use Rattle.circ_records.specs.Keys.{key_cmp}
use Rattle.circ_records.specs.Records.{Entries, record_at}
use Rattle.circ_records.specs.declared.key.Key.{Key}
use Rattle.circ_records.specs.declared.record.Record.{Record}
use Rattle.read_set.specs.Settling.{Contents}
use Rattle.version_store.specs.declared.table.Place.{Place}
use Rattle.board_lines.specs.Notes.{contents_at, found_by}
use Rattle.board_lines.proofs.Searches.{search_found, found_nothing}
use Rattle.board_lines.proofs.reading.record_seen.Goals as goal

pub returns-in_default : goal.returns-in_default
returns-in_default g c =
    let ws = c.writes-writes.result.now in
    let k = c.args.key.now in
    let by = c.binary_search_by.ensures.position (λ (e : Key × Record). key_cmp e.0 k) (always_returns_same _ _ _ (λ a r f' called. (search rules, search rules))) in
    let rising = subst (λ (x : Entries). IsStrictlySortedBy key_cmp (map (λ (e : Key × Record). e.0) x)) (sym c.writes-writes.ensures.writes) c.writes-writes.ensures.rising in
    sym (found_nothing ws rising k c.in_default.field-0 (subst (λ r. IsBinarySearchResult (λ (e : Key × Record). key_cmp e.0 k) ws r) c.in_default.is by))
    ∙ ap (λ (x : Entries). record_at x k) c.writes-writes.ensures.writes
    ∙ ap (λ (x : Contents). record_at x.writes k) c.show.ensures
    ∙ ap (λ (o : Option (Place _)). found_by c.args.plan.now.base k (option_map contents_at o)) (sym c.in-Some.is)

pub returns-in-Ok : goal.returns-in-Ok
returns-in-Ok g c =
    let ws = c.writes-writes.result.now in
    let k = c.args.key.now in
    let by = c.binary_search_by.ensures.position (λ (e : Key × Record). key_cmp e.0 k) (always_returns_same _ _ _ (λ a r f' called. (search rules, search rules))) in
    let at : c.in-Ok.position < length ws = subst (λ r. IsSearchInRange r (length ws)) c.in-Ok.is c.binary_search_by.ensures.bound in
    let rising = subst (λ (x : Entries). IsStrictlySortedBy key_cmp (map (λ (e : Key × Record). e.0) x)) (sym c.writes-writes.ensures.writes) c.writes-writes.ensures.rising in
    sym (search_found ws rising k c.in-Ok.position c.index-writes-position.result at (subst (λ r. IsBinarySearchResult (λ (e : Key × Record). key_cmp e.0 k) ws r) c.in-Ok.is by c.index-writes-position.result))
    ∙ ap (λ (x : Entries). record_at x k) c.writes-writes.ensures.writes
    ∙ ap (λ (x : Contents). record_at x.writes k) c.show.ensures
    ∙ ap (λ (o : Option (Place _)). found_by c.args.plan.now.base k (option_map contents_at o)) (sym c.in-Some.is)

pub returns-then-writes-le-SCANNED_MAX : goal.returns-then-writes-le-SCANNED_MAX
returns-then-writes-le-SCANNED_MAX g c =
    c.found_in.ensures
    ∙ ap (λ (x : Entries). record_at x c.args.key.now) c.writes-writes.ensures.writes
    ∙ ap (λ (x : Contents). record_at x.writes c.args.key.now) c.show.ensures
    ∙ ap (λ (o : Option (Place _)). found_by c.args.plan.now.base c.args.key.now (option_map contents_at o)) (sym c.in-Some.is)
