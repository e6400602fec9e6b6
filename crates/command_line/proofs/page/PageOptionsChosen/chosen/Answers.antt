use Rattle.std.proofs.Common.{codes}
use Rattle.clap.specs.Words.{found_of}
use Rattle.command_line.proofs.Getters.{of_rows}
use Rattle.command_line.proofs.page.PageOptionsChosen.chosen.Goals as goal

pub returns : goal.returns
returns c =
    let f = found_of c.args.matches.now in
    λ has. record {
      journal = of_rows f (codes "journal") _ (c.in_ok-journal.ensures has.journal);
      base = of_rows f (codes "base") _ c.in_ok-base.ensures;
      out = of_rows f (codes "out") _ (c.in_ok-out.ensures has.out);
      why = of_rows f (codes "why") _ c.in_ok-why.ensures;
      limit = c.number_or.ensures;
    }
