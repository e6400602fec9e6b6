use Rattle.std.proofs.Common.{refl, ◌≡◌, true}
use Rattle.std.proofs.lemmas.Result.{IfErr-weaker, IfOk-weaker}
use Rattle.clap.specs.Words.{found_of, is_simple, is_simple_and_free}
use Rattle.command_line.specs.CommandLine.{GivesOptions, HasPaths, sip_replay_line}
use Rattle.command_line.proofs.Ending.{ends_by}
use Rattle.command_line.proofs.Getters.{given_by, still_accepts}
use Rattle.command_line.proofs.words.options.Goals as goal

is_line_free : is_simple_and_free sip_replay_line ≡ true
unfolding sip_replay_line
is_line_free = refl

is_line_simple : is_simple sip_replay_line ≡ true
unfolding sip_replay_line
is_line_simple = refl

pub returns-clause-given : goal.returns-clause-given
returns-clause-given g c =
    IfOk-weaker c.read.result _ _ (λ chosen.
    given_by GivesOptions (λ m. HasPaths (found_of m)) c.command.result sip_replay_line _ chosen c.command.ensures.line c.command.ensures.paths is_line_simple) c.read.ensures.given

pub returns-clause-accepts : goal.returns-clause-accepts
returns-clause-accepts g c =
    IfErr-weaker c.read.result _ _ (λ e. still_accepts c.command.result sip_replay_line _ e c.command.ensures.line) c.read.ensures.accepts

pub returns-clause-ends : goal.returns-clause-ends
returns-clause-ends g c = ends_by c.command.result sip_replay_line _ c.read.result c.command.ensures.line is_line_free c.read.ensures.memory c.read.ensures.ends
