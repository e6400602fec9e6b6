use Rattle.record_tables.proofs.adding.BaseSource.judge_row.Goals as goal

pub returns-in_ok-push-clause-seen : goal.returns-in_ok-push-clause-seen
returns-in_ok-push-clause-seen c =
    λ r before seen. rw c.table-2.ensures at (c.in_ok-note.ensures r before (rw c.table-2.ensures seen))

pub returns-in_default-clause-seen : goal.returns-in_default-clause-seen
returns-in_default-clause-seen c =
    λ r before seen. rw c.table-2.ensures at (c.in_ok-note.ensures r before (rw c.table-2.ensures seen))
