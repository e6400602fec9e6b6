use Rattle.std.proofs.Common.{◌≡◌, ◌∙◌, ◌≤◌, ℕ, List, length, take, ap, arith}
use Rattle.std.specs.List.{filter}
use Rattle.std.proofs.lemmas.List.{take_all}
use Rattle.page_text.specs.Page.{Piece, is_mark, written}
use Rattle.page_text.proofs.Marks.{marks}
use Rattle.page_text.proofs.page.Page.bytes.Goals as goal

pub returns-clause-marks : goal.returns-clause-marks
returns-clause-marks c =
    let pieces = c.as_slice-pieces.result.now in
    let all : take c.loop-piece.piece-index pieces ≡ pieces = take_all c.loop-piece.piece-index pieces (omega (arith, c.loop-piece-test.false)) in
    let whole : c.loop-piece.out.items ≡ written c.args.self.now =
    c.loop-piece.invariant ∙ ap (λ (ps : List Piece). written ps) (all ∙ c.as_slice-pieces.ensures.value ∙ c.self.view_is) in
    ap (λ (bytes : List ℕ). filter is_mark bytes) whole ∙ marks c.args.self.now
