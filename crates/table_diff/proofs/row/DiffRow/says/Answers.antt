use Rattle.std.proofs.Common.{ℕ, List, ap, ◌∙◌}
use Rattle.table_diff.specs.Rows.{each, piece, value_at}
use Rattle.table_diff.proofs.Each.{all-texts, texts-step}
use Rattle.table_diff.proofs.row.DiffRow.says.Goals as goal

pub loop-place-preserved : goal.loop-place-preserved
loop-place-preserved c =
    texts-step (λ (place : ℕ) (column : List ℕ). piece column (value_at place c.args.self.now)) c.args.columns.now c.loop-place.place _ c.loop-place.text.items c.push_piece.new.text.items
    c.loop-place-test.true c.in_ok-push_piece.ensures c.loop-place.invariant

pub returns : goal.returns
returns c =
    c.loop-place.invariant
    ∙ ap (λ (l : List (List ℕ)). each
    (λ (place : ℕ) (column : List ℕ). piece column (value_at place c.args.self.now)) l)
    (all-texts c.args.columns.now c.loop-place.place c.loop-place-test.false)
