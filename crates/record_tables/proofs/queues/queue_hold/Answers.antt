use Rattle.std.proofs.Common.{◌∙◌, ap, refl}
use Rattle.circ_records.specs.declared.holds.Hold.{Hold}
use Rattle.record_tables.proofs.Judged.{hold-by}
use Rattle.record_tables.proofs.Telling.{tells-hold}
use Rattle.record_tables.proofs.Waiting.{waiting-more}
use Rattle.record_tables.proofs.queues.queue_hold.Goals as goal

pub returns-then-not-branch-clause-rule : goal.returns-then-not-branch-clause-rule
returns-then-not-branch-clause-rule c = λ r row says tells are.
    rw c.if-not-branch.true at (hold-by r row c.args.records.now c.args.waiting.now c.args.item c.args.hold c.in_ok-insert.field-0 _ says.0 says.1 says.2 tells are (rw (c.in_ok-clone.ensures.cases, c.in_ok-clone-2.ensures.cases) at c.in_ok-insert.ensures.added) refl)

pub returns-then-not-has_patron-clause-rule : goal.returns-then-not-has_patron-clause-rule
returns-then-not-has_patron-clause-rule c = λ r row says tells are.
    rw (c.if-not-branch.false, c.if-not-has_patron.true) at (hold-by r row c.args.records.now c.args.waiting.now c.args.item c.args.hold c.in_ok-insert.field-0 c.has_patron.result says.0 says.1 says.2 tells are (rw (c.in_ok-clone.ensures.cases, c.in_ok-clone-2.ensures.cases) at c.in_ok-insert.ensures.added) c.has_patron.ensures)

pub returns-clause-rule : goal.returns-clause-rule
returns-clause-rule c = λ r row says tells are.
    c.in_ok-broken.ensures.rule
    ∙ rw (c.if-not-branch.false, c.if-not-has_patron.false) at
    (hold-by r row c.args.records.now c.args.waiting.now c.args.item c.args.hold c.in_ok-insert.field-0 c.has_patron.result says.0 says.1 says.2 tells are (rw (c.in_ok-clone.ensures.cases, c.in_ok-clone-2.ensures.cases) at c.in_ok-insert.ensures.added) c.has_patron.ensures)

pub returns-clause-told : goal.returns-clause-told
returns-clause-told c = λ last r before row says tells.
    tells-hold r before row c.args.records.now c.change.new.self tells (rw (says.1, says.2) at (c.in_ok-broken.ensures.ok last))

pub returns-clause-waiting : goal.returns-clause-waiting
returns-clause-waiting c = λ last holds row says are.
    waiting-more holds row c.args.waiting.now c.insert.new.self c.args.item c.args.hold.patron says.1 (ap (λ (h : Hold). h.patron) says.2) are (rw (c.in_ok-clone.ensures.cases, c.in_ok-clone-2.ensures.cases) at c.in_ok-insert.ensures.updates.0)
