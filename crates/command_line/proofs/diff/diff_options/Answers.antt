use Rattle.std.proofs.Common.{refl, ◌≡◌, true}
use Rattle.std.proofs.lemmas.Result.{IfErr-weaker, IfOk-weaker}
use Rattle.clap.specs.Words.{found_of, is_simple, is_simple_and_free}
use Rattle.command_line.specs.Diff.{GivesDiff, HasFolders, sip_diff_line}
use Rattle.command_line.proofs.Ending.{ends_by}
use Rattle.command_line.proofs.Getters.{given_by, still_accepts}
use Rattle.command_line.proofs.diff.diff_options.Goals as goal

is_line_free : is_simple_and_free sip_diff_line ≡ true
unfolding sip_diff_line
is_line_free = refl

is_line_simple : is_simple sip_diff_line ≡ true
unfolding sip_diff_line
is_line_simple = refl

pub returns-clause-given : goal.returns-clause-given
returns-clause-given g c =
    IfOk-weaker c.read.result _ _ (λ chosen.
    given_by GivesDiff (λ m. HasFolders (found_of m)) c.command.result sip_diff_line _ chosen c.command.ensures.line c.command.ensures.folders is_line_simple) c.read.ensures.given

pub returns-clause-accepts : goal.returns-clause-accepts
returns-clause-accepts g c =
    IfErr-weaker c.read.result _ _ (λ e. still_accepts c.command.result sip_diff_line _ e c.command.ensures.line) c.read.ensures.accepts

pub returns-clause-ends : goal.returns-clause-ends
returns-clause-ends g c = ends_by c.command.result sip_diff_line _ c.read.result c.command.ensures.line is_line_free c.read.ensures.memory c.read.ensures.ends
