use Rattle.std.proofs.lemmas.Result.{IfOk-at_ok}
use Rattle.clap.specs.Words.{app_of}
use Rattle.command_line.proofs.Ending.{refusal_goes}
use Rattle.command_line.proofs.parts.read.Goals as goal

pub returns-in_ok-chosen-in-Ok-clause-given : goal.returns-in_ok-chosen-in-Ok-clause-given
returns-in_ok-chosen-in-Ok-clause-given g c = record {
  command = c.in_ok-command.command;
  is = c.in_ok-command.was;
  found = c.in-Ok.matches;
  parsed = c.in-Ok.ensures.parsed;
  matches = c.in-Ok.ensures.matches;
  given = c.in_ok-chosen-in-Ok.ensures;
}

pub returns-in-Err-clause-accepts : goal.returns-in-Err-clause-accepts
returns-in-Err-clause-accepts g c = λ taken. c.of_error.ensures.memory (c.in-Err.ensures.passes (IfOk-at_ok _ c.in_ok-command.was taken))

pub returns-in_ok-chosen-in-Ok-clause-ends : goal.returns-in_ok-chosen-in-Ok-clause-ends
returns-in_ok-chosen-in-Ok-clause-ends g c = rw c.in_ok-command.was (λ simple. c.in-Ok.ensures.kinds simple)

pub returns-in-Err-clause-ends : goal.returns-in-Err-clause-ends
returns-in-Err-clause-ends g c =
    rw c.in_ok-command.was (λ simple. refusal_goes (app_of c.in_ok-command.command) _ _ _ c.of_error.ensures.memory (c.in-Err.ensures.kinds simple) c.of_error.ensures.kind)
