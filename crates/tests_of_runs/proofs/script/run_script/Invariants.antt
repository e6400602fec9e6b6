use Rattle.tests_of_runs.proofs.script.run_script.Given as goal

-- the plan that was just made
abbrev pub ghosts-play_script : goal.ghosts-play_script
ghosts-play_script g a = record { plan = a.plan.now }
