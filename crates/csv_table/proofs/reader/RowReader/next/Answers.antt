use Rattle.std.proofs.Common.{◌<◌, ◌≤◌, ℕ, arith, inl, refl, sym, ◌∙◌}
use Rattle.csv.specs.Records.{fields_of}
use Rattle.csv_table.proofs.Steps.{reads-end, reads-refused, reads-row}
use Rattle.csv_table.proofs.reader.RowReader.next.Goals as goal

no-more : (a b : ℕ) → a < b → a ≤ b
no-more a b h = omega arith

pub invariant_of-self : goal.invariant_of-self
invariant_of-self c =
    let was = c.deref_mut.ensures.value in
    let is = rw (← was) at (c.self.invariant c.in-Within.is) in
    let read = rw c.in-Ok-true.field-0-test at (c.in-Ok-true.ensures.reads is.trim (inl is.first)) in
    let goes = reads-row c.deref_mut.result.now c.read_byte_record.new.self (fields_of c.read_byte_record.new.row) is read (c.in-Ok-true.ensures.ready is.trim) c.in-Ok-true.ensures.flexible in
    λ _. goes.reading

pub returns-in-Ok-true-clause-row : goal.returns-in-Ok-true-clause-row
returns-in-Ok-true-clause-row c =
    let was = c.deref_mut.ensures.value in
    let is = rw (← was) at (c.self.invariant c.in-Within.is) in
    let read = rw c.in-Ok-true.field-0-test at (c.in-Ok-true.ensures.reads is.trim (inl is.first)) in
    let goes = reads-row c.deref_mut.result.now c.read_byte_record.new.self (fields_of c.read_byte_record.new.row) is read (c.in-Ok-true.ensures.ready is.trim) c.in-Ok-true.ensures.flexible in
    λ _. rw (← c.self.view_is, c.in-Within.is, ← was) goes.row

pub returns-in-Ok-true-clause-shorter : goal.returns-in-Ok-true-clause-shorter
returns-in-Ok-true-clause-shorter c =
    let was = c.deref_mut.ensures.value in
    let is = rw (← was) at (c.self.invariant c.in-Within.is) in
    let read = rw c.in-Ok-true.field-0-test at (c.in-Ok-true.ensures.reads is.trim (inl is.first)) in
    let goes = reads-row c.deref_mut.result.now c.read_byte_record.new.self (fields_of c.read_byte_record.new.row) is read (c.in-Ok-true.ensures.ready is.trim) c.in-Ok-true.ensures.flexible in
    λ _. rw (← c.self.view_is, c.in-Within.is, ← was) goes.shorter

pub returns-in-Ok-false-clause-end : goal.returns-in-Ok-false-clause-end
returns-in-Ok-false-clause-end c =
    let was = c.deref_mut.ensures.value in
    let is = rw (← was) at (c.self.invariant c.in-Within.is) in
    let read = rw c.in-Ok-false.field-0-test at (c.in-Ok-false.ensures.reads is.trim (inl is.first)) in
    λ _. (rw (← c.self.view_is, c.in-Within.is, ← was) (reads-end c.deref_mut.result.now c.read_byte_record.new.self (fields_of c.read_byte_record.new.row) is read), refl)

pub returns-in-Err-clause-table : goal.returns-in-Err-clause-table
returns-in-Err-clause-table c =
    let was = c.deref_mut.ensures.value in
    let is = rw (← was) at (c.self.invariant c.in-Within.is) in
    λ e. rw (← c.self.view_is, c.in-Within.is, ← was)
    (reads-refused c.deref_mut.result.now c.read_byte_record.new.self c.in-Err.e.kind is (c.in-Err.ensures.why (inl is.first)) (sym c.from-e.ensures ∙ e))

pub returns-in-Ok-true-clause-size : goal.returns-in-Ok-true-clause-size
returns-in-Ok-true-clause-size c =
    let was = c.deref_mut.ensures.value in
    let is = rw (← was) at (c.self.invariant c.in-Within.is) in
    let read = rw c.in-Ok-true.field-0-test at (c.in-Ok-true.ensures.reads is.trim (inl is.first)) in
    let goes = reads-row c.deref_mut.result.now c.read_byte_record.new.self (fields_of c.read_byte_record.new.row) is read (c.in-Ok-true.ensures.ready is.trim) c.in-Ok-true.ensures.flexible in
    rw (← c.self.view_is, c.in-Within.is, ← was) (no-more _ _ goes.shorter)
