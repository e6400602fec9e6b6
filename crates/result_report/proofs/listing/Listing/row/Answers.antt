use Rattle.std.proofs.Common.{◌∙◌, ◌∷◌, [], List, ℕ, ap, ap₂, decimal, refl, arith}
use Rattle.std.specs.Option.{option_map}
use Rattle.csv_table.specs.Text.{with_row}
use Rattle.result_report.proofs.listing.Listing.row.Goals as goal

pub returns-clause-ok : goal.returns-clause-ok
returns-clause-ok c = record {
  text = c.in_ok-row.ensures.ok
      ∙ ap₂ (λ (number connection : List ℕ). option_map
      (with_row (number ∷ connection ∷ c.args.words.now ∷ [])) c.args.self.now.table)
      (c.as_bytes.ensures.value ∙ (c.format-number.ensures.text ∙ ap decimal c.parts-line.ensures.number)) c.parts-line.ensures.connection;
  count = refl;
}

pub overflow_add-self : goal.overflow_add-self
overflow_add-self c = omega (arith, c.requires.few)
