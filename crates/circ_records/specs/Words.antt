-- The words by which faults name a rule.
use Rattle.std.specs.Prelude.{ℕ, List, codes}
use Rattle.circ_records.specs.declared.rule.BaseRule.{BaseRule}
use Rattle.circ_records.specs.declared.rule.BaseRule.TheVariants as rule

-- the rules of a base (FORMATS.md, section 5)
abbrev pub rule_word : BaseRule → List ℕ
rule_word rule.Text = codes "text"
rule_word rule.Value = codes "value"
rule_word rule.Double = codes "double"
rule_word rule.Class = codes "class"
rule_word rule.Media = codes "media"
rule_word rule.Patron = codes "patron"
rule_word rule.Item = codes "item"
rule_word rule.Lent = codes "lent"
rule_word rule.Paid = codes "paid"
rule_word rule.Number = codes "number"
rule_word rule.Borrower = codes "borrower"
rule_word rule.Queue = codes "queue"
