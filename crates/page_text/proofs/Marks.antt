-- No text has a mark.
use Rattle.std.proofs.Common.{◌≡◌, ◌++◌, ◌∷◌, ℕ, List, [], refl, sym, ap, append-nil, arith, ◌∙◌}
use Rattle.std.specs.List.{filter, flat_map}
use Rattle.std.specs.Str.Lossy.{utf8_lossy}
use Rattle.std.proofs.lemmas.List.Elements.{filter-append}
use Rattle.page_text.specs.Page.{Piece, escaped, is_mark, markup_of, piece_written, spelled, written}

spelled-quiet : (b : ℕ) → filter is_mark (spelled b) ≡ []
spelled-quiet b = grind arith

quiet : (bs : List ℕ) → filter is_mark (flat_map spelled bs) ≡ []
quiet [] = refl
quiet (b ∷ bs) = filter-append is_mark (spelled b) (flat_map spelled bs) ∙ ap (λ (front : List ℕ). front ++ filter is_mark (flat_map spelled bs)) (spelled-quiet b) ∙ quiet bs

piece : (p : Piece) → filter is_mark (piece_written p) ≡ filter is_mark p.markup
piece p =
    filter-append is_mark p.markup (escaped p.text)
    ∙ ap (λ (rest : List ℕ). filter is_mark p.markup ++ rest) (quiet (utf8_lossy p.text))
    ∙ append-nil (filter is_mark p.markup)

-- the marks of a page are those of its markup
pub marks : (ps : List Piece) → filter is_mark (written ps) ≡ filter is_mark (markup_of ps)
marks [] = refl
marks (p ∷ ps) =
    filter-append is_mark (piece_written p) (written ps)
    ∙ ap (λ (front : List ℕ). front ++ filter is_mark (written ps)) (piece p)
    ∙ ap (λ (rest : List ℕ). filter is_mark p.markup ++ rest) (marks ps)
    ∙ sym (filter-append is_mark p.markup (markup_of ps))
