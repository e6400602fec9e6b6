use Rattle.tests_of_runs.proofs.threads.begins_nothing_that_was_held_when_a_fault_was_left.Given as goal

-- the plan that was just made
abbrev pub ghosts-hold_one : goal.ghosts-hold_one
ghosts-hold_one g a = record { plan = a.plan.now }
