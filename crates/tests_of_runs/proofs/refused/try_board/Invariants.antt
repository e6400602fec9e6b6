use Rattle.tests_of_runs.proofs.refused.try_board.Given as goal

-- the plan that was just made
abbrev pub ghosts-try_over : goal.ghosts-try_over
ghosts-try_over g a = record { plan = a.plan.now }
