use Rattle.std.proofs.Common.{sym, ap, ◌∙◌}
use Rattle.std.specs.Prelude.{option_map}
use Rattle.std.specs.FinMap.{get, get-empty}
use Rattle.circ_records.specs.Keys.{key_cmp}
use Rattle.version_store.specs.Entries.{Line, Shown}
use Rattle.version_store.proofs.Sights.{position_none}
use Rattle.version_store.proofs.store.EntryStore.attempt_at.Goals as goal

pub returns-in_err-position : goal.returns-in_err-position
returns-in_err-position g c =
    rw c.from_residual.ensures (sym (ap (λ (l : Line). option_map (λ (e : Shown). e.attempt) (get l c.args.key.now)) (position_none c.args.self.now c.args.line (sym c.in_err-position.ensures))
    ∙ ap (option_map (λ (e : Shown). e.attempt)) (get-empty key_cmp c.args.key.now)))
