-- The words that name the rules of a journal.
use Rattle.std.specs.Prelude.{ℕ, List, codes}
use Rattle.journal_table.specs.declared.error.JournalRule.{JournalRule}
use Rattle.journal_table.specs.declared.error.JournalRule.TheVariants as rule

abbrev pub rule_word : JournalRule → List ℕ
rule_word rule.Lines = codes "lines"
rule_word rule.Number = codes "number"
rule_word rule.Sequence = codes "sequence"
rule_word rule.Connection = codes "connection"
