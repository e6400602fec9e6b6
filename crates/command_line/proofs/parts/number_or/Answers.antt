use Rattle.std.proofs.Common.{subst}
use Rattle.std.specs.Str.Parse.{ParsesUnsigned, ExplainsUnsignedError, HasUnsignedDigitsIfOk}
use Rattle.clap.specs.Words.{found_of, one_text}
use Rattle.clap.proofs.WalkLemmas.{one_text-rows}
use Rattle.command_line.specs.CommandLine.{Counts}
use Rattle.command_line.proofs.Getters.{counts}
use Rattle.command_line.proofs.parts.number_or.Goals as goal

pub returns : goal.returns
returns c =
    let f = found_of c.args.matches.now in
    let read = counts c.args.default _ (λ bs r. ParsesUnsigned 32 10 bs r × ExplainsUnsignedError 10 bs r × HasUnsignedDigitsIfOk bs r) (λ u x h. h.0)
    (one_text f c.args.id.now) c.get_one.result c.get_one.ensures.none c.get_one.ensures.value in
    subst (λ o. Counts c.args.default o c.unwrap_or.result) (one_text-rows f c.args.id.now) (rw c.unwrap_or.ensures read)
