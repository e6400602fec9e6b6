-- The faults of a run: their numbers and their texts, as the program prints them, and those of what
-- is read.
use Rattle.std.specs.Prelude.{ℕ, List, ◌++◌, codes, decimal, string_bytes}
use Rattle.circ_policy.specs.declared.error.PolicyError.{PolicyError}
use Rattle.circ_policy.specs.declared.error.PolicyError.TheVariants as policy
use Rattle.circ_records.specs.Words.{rule_word}
use Rattle.schema.specs.Names.{table_word}
use Rattle.record_tables.specs.declared.fault.BaseError.{BaseError}
use Rattle.record_tables.specs.declared.fault.BaseError.TheVariants as base
use Rattle.journal_table.specs.Words as journal_words
use Rattle.journal_table.specs.declared.error.JournalError.{JournalError}
use Rattle.journal_table.specs.declared.error.JournalError.TheVariants as journal
use Rattle.speculate.specs.declared.steps.BoardFault.{BoardFault}
use Rattle.speculate.specs.declared.steps.BoardFault.TheVariants as board
use Rattle.replay_run.specs.declared.fault.Fault.{Fault}
use Rattle.replay_run.specs.declared.fault.Fault.TheVariants as faults

abbrev pub fault_number : Fault → ℕ
fault_number faults.BadWorkers = 1
fault_number faults.PolicyText = 2
fault_number (faults.PolicyRule key) = 3
fault_number (faults.BaseTable table) = 4
fault_number (faults.BaseRule table row rule values) = 5
fault_number faults.JournalTable = 6
fault_number (faults.JournalRule row rule) = 7
fault_number (faults.Attempts line) = 8
fault_number faults.ClockSpent = 9
fault_number faults.Memory = 10

abbrev pub fault_text : Fault → List ℕ
fault_text faults.BadWorkers = codes "workers must be 1 to 64"
fault_text faults.PolicyText = codes "policy is not TOML"
fault_text (faults.PolicyRule key) = codes "policy rule " ++ string_bytes key
fault_text (faults.BaseTable table) = codes "base table " ++ table_word table
fault_text (faults.BaseRule table row rule values) = codes "base rule " ++ table_word table ++ codes " row " ++ decimal row ++ codes " " ++ rule_word rule
fault_text faults.JournalTable = codes "journal table"
fault_text (faults.JournalRule row rule) = codes "journal row " ++ decimal row ++ codes " " ++ journal_words.rule_word rule
fault_text (faults.Attempts line) = codes "attempts spent at line " ++ decimal line
fault_text faults.ClockSpent = codes "clock spent"
fault_text faults.Memory = codes "memory"

-- the fault of a refused policy, base, journal or step
abbrev pub policy_fault : PolicyError → Fault
policy_fault policy.Text = faults.PolicyText
policy_fault (policy.Rule key) = faults.PolicyRule key
policy_fault policy.Memory = faults.Memory

abbrev pub base_fault : BaseError → Fault
base_fault (base.Table table) = faults.BaseTable table
base_fault (base.Rule table row rule values) = faults.BaseRule table row rule values
base_fault base.Memory = faults.Memory

abbrev pub journal_fault : JournalError → Fault
journal_fault journal.Table = faults.JournalTable
journal_fault (journal.Rule row rule) = faults.JournalRule row rule
journal_fault journal.Memory = faults.Memory

abbrev pub board_fault : BoardFault → Fault
board_fault (board.Attempts line) = faults.Attempts line
board_fault board.ClockSpent = faults.ClockSpent
board_fault board.Memory = faults.Memory
