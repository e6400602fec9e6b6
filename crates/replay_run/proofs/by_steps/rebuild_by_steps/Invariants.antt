use Rattle.replay_run.proofs.by_steps.rebuild_by_steps.Given as goal

-- the plan that was just made
abbrev pub ghosts-run_steps : goal.ghosts-run_steps
ghosts-run_steps g a = record { plan = a.plan.now }
