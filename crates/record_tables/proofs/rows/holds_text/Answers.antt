use Rattle.std.proofs.Common.{refl, sym, ◌∙◌}
use Rattle.record_tables.proofs.Reading.{header-alone, holds-read}
use Rattle.record_tables.proofs.rows.holds_text.Goals as goal

pub returns-then-is_empty : goal.returns-then-is_empty
returns-then-is_empty c = header-alone c.args.text.now _ refl (sym c.is_empty.ensures ∙ c.if-is_empty.true)

pub returns-else-is_empty : goal.returns-else-is_empty
returns-else-is_empty c = holds-read c.args.text.now _ _ refl refl (sym c.is_empty.ensures ∙ c.if-is_empty.false)
