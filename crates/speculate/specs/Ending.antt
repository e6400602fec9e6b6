-- Which replies refuse a step, so that the worker has to end.
use Rattle.std.specs.Prelude.{Result, Ok, Err}
use Rattle.board_lines.specs.declared.reply.Reply.{Reply}
use Rattle.board_lines.specs.declared.reply.Reply.TheVariants as replies
use Rattle.speculate.specs.declared.steps.BoardFault.{BoardFault}
use Rattle.speculate.specs.declared.steps.BoardFault.TheVariants as faults

abbrev pub ended_by : {J : Type 0} → Reply J → Result (Unit {0}) BoardFault
ended_by (replies.Attempts line) = Err (faults.Attempts line)
ended_by replies.ClockSpent = Err faults.ClockSpent
ended_by replies.Memory = Err faults.Memory
ended_by _ = Ok tt
