use Rattle.std.proofs.Common.{◌≡◌, ◌++◌, ◌∷◌, [], Some, refl, rules}
use Rattle.std.proofs.lemmas.Bool.Decides.{Decides-eqb}
use Rattle.std.proofs.lemmas.Slice.Eq.{strip_prefix_is}
use Rattle.journal_table.specs.Layout.{comma, joined}
use Rattle.journal_table.proofs.row_text.RowTexts.next.Goals as goal

pub returns : goal.returns
returns c =
    let at : c.in_ok-text.text.now ≡ c.args.connection.now ++ c.in_ok-rest.rest.now = strip_prefix_is Decides-eqb c.in_ok-text.text.now c.args.connection.now (Some c.in_ok-rest.rest) c.in_ok-rest.ensures.cases in
    let first : c.in_ok-rest.rest.now ≡ (comma ∷ []) ++ c.in_ok-rest-2.rest.now = strip_prefix_is Decides-eqb c.in_ok-rest.rest.now (comma ∷ []) (Some c.in_ok-rest-2.rest) c.in_ok-rest-2.ensures.cases in
    let between : c.in_ok-rest-2.rest.now ≡ c.args.request.now ++ c.in_ok-rest-3.rest.now = strip_prefix_is Decides-eqb c.in_ok-rest-2.rest.now c.args.request.now (Some c.in_ok-rest-3.rest) c.in_ok-rest-3.ensures.cases in
    let second : c.in_ok-rest-3.rest.now ≡ (comma ∷ []) ++ c.in_ok-rest-4.rest.now = strip_prefix_is Decides-eqb c.in_ok-rest-3.rest.now (comma ∷ []) (Some c.in_ok-rest-4.rest) c.in_ok-rest-4.ensures.cases in
    let last : c.in_ok-rest-4.rest.now ≡ c.args.response.now = search rules in
    let whole : c.in_ok-text.text.now ≡ joined c.args.connection.now c.args.request.now c.args.response.now = rw (at, first, between, second, last) refl in
    record { joins = whole; first = search rules; second = search rules }
