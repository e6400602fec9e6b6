-- What a row changes in a record that an earlier table gave, and the rule that it breaks there.
use Rattle.std.specs.Prelude.{◌≡◌, ℕ, List, ◌++◌, ◌∷◌, [], length, Option, Some, None, is_some, nat_le, cond, option_map, if◌then◌else◌}
use Rattle.std.specs.Ordering.{eq_by_cmp}
use Rattle.circ_records.specs.Coherent.{is_loan_of}
use Rattle.circ_records.specs.Keys.{key_cmp}
use Rattle.circ_records.specs.Records.{Entries, record_at}
use Rattle.circ_records.specs.declared.changes.ListChange.{ListChange}
use Rattle.circ_records.specs.declared.changes.ListChange.TheVariants as change
use Rattle.circ_records.specs.declared.rule.BaseRule.{BaseRule}
use Rattle.circ_records.specs.declared.rule.BaseRule.TheVariants as rule
use Rattle.circ_records.specs.declared.holds.TheConstants.{QUEUE_MAX}
use Rattle.circ_records.specs.declared.key.Key.{Key}
use Rattle.circ_records.specs.declared.record.Item.{Item}
use Rattle.circ_records.specs.declared.record.Record.{Record}
use Rattle.circ_records.specs.declared.record.Record.TheVariants as record_of

-- a record after a change: a row of loans or fees is last in its patron's list, a hold last in its
-- item's queue
abbrev pub changed : ListChange → Record → Record
changed (change.Borrows item) (record_of.Patron p) =
    record_of.Patron (record p { loans = p.loans ++ item ∷ [] })
changed (change.Owes fee) (record_of.Patron p) =
    record_of.Patron (record p { fees = p.fees ++ fee ∷ [] })
changed (change.Lent loan) (record_of.Item i) = record_of.Item (record i { loan = Some loan })
changed (change.Awaited hold) (record_of.Item i) =
    record_of.Item (record i { holds = i.holds ++ hold ∷ [] })
changed c r = r

-- a map in which the record at a key was changed, and no other
abbrev pub IsChanged : Key → ListChange → Entries → Entries → Type 0
IsChanged key c old new =
    (q : Key) → record_at new q ≡ cond (eq_by_cmp key_cmp key q)
    (option_map (changed c) (record_at old q)) (record_at old q)

-- the rule that a hold of a patron breaks on an item
abbrev pub broken_hold : List ℕ → Item → Option BaseRule
broken_hold patron item =
    if is_loan_of patron item.loan then Some rule.Borrower
    else if nat_le QUEUE_MAX (length item.holds) then Some rule.Queue
    else None

-- the rule that a change breaks, by the record at its key: it isn't of the right kind, or the item
-- isn't free
abbrev pub broken_by : ListChange → Option Record → Option BaseRule
broken_by (change.Borrows item) (Some (record_of.Patron p)) = None
broken_by (change.Borrows item) o = Some rule.Patron
broken_by (change.Owes fee) (Some (record_of.Patron p)) = None
broken_by (change.Owes fee) o = Some rule.Patron
broken_by (change.Lent loan) (Some (record_of.Item i)) =
    if is_some i.loan then Some rule.Lent else None
broken_by (change.Lent loan) o = Some rule.Item
broken_by (change.Awaited hold) (Some (record_of.Item i)) = broken_hold hold.patron i
broken_by (change.Awaited hold) o = Some rule.Item
