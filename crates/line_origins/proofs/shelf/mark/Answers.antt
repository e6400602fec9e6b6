use Rattle.std.proofs.Common.{◌≡◌, ◌∙◌, Option, Some, ℕ, cond, take, ap}
use Rattle.std.specs.BTreeMap.{is_at}
use Rattle.std.specs.Map.{lookup}
use Rattle.std.specs.Ordering.{eq_by_cmp}
use Rattle.circ_records.specs.Keys.{key_cmp}
use Rattle.circ_records.specs.Records.{Entries}
use Rattle.circ_records.specs.declared.key.Key.{Key}
use Rattle.line_origins.specs.Origins.{written_by}
use Rattle.line_origins.proofs.Marking.{marked}
use Rattle.line_origins.proofs.shelf.mark.Goals as goal

pub loop-entry-preserved : goal.loop-entry-preserved
loop-entry-preserved c = λ (k : Key).
    let writes : Entries = c.args.writes.now in
    let before : Option ℕ = lookup (is_at (key_cmp k)) c.args.writers.entries in
    let step : lookup (is_at (key_cmp k)) c.insert.new.self.entries ≡ cond (eq_by_cmp key_cmp c.in_ok-clone.field-0 k) (Some c.args.line) (lookup (is_at (key_cmp k)) c.loop-entry.writers.entries) =
    c.in_ok-insert.ensures.updates.0 k in
    step
    ∙ ap (λ w. cond (eq_by_cmp key_cmp c.in_ok-clone.field-0 k) (Some c.args.line) w) (c.loop-entry.invariant k)
    ∙ ap (λ (j : Key). cond (eq_by_cmp key_cmp j k) (Some c.args.line) (written_by (take c.loop-entry.entry-index writes) c.args.line before k)) c.in_ok-clone.ensures.cases
    ∙ marked writes c.loop-entry.entry-index c.entry-item.result c.args.line before k c.loop-entry-test.true c.entry-item.is
