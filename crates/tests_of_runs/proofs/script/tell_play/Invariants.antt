use Rattle.tests_of_runs.proofs.script.tell_play.Given as goal

-- the plan that was just made
abbrev pub ghosts-play_on : goal.ghosts-play_on
ghosts-play_on g a = record { plan = a.plan.now }
