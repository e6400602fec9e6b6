use Rattle.std.proofs.Common.{codes}
use Rattle.clap.specs.Words.{found_of}
use Rattle.command_line.proofs.Getters.{all_of_rows, of_rows}
use Rattle.command_line.proofs.diff.DiffOptionsChosen.chosen.Goals as goal

pub returns : goal.returns
returns c =
    let f = found_of c.args.matches.now in
    λ has. record {
      left = of_rows f (codes "left") _ (c.in_ok-left.ensures has.left);
      right = of_rows f (codes "right") _ (c.in_ok-right.ensures has.right);
      leave = all_of_rows f (codes "leave") _ c.in_ok-leave.ensures;
    }
