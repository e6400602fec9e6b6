use Rattle.tests_of_runs.proofs.threads.begins_nothing_behind_a_fault_whoever_has_the_lock.Given as goal

-- the plan that was just made
abbrev pub ghosts-begin_at_once : goal.ghosts-begin_at_once
ghosts-begin_at_once g a = record { plan = a.plan.now }
