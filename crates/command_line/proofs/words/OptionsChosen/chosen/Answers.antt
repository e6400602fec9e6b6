use Rattle.std.proofs.Common.{codes}
use Rattle.clap.specs.Words.{found_of}
use Rattle.command_line.proofs.Getters.{of_rows, says_rows}
use Rattle.command_line.proofs.words.OptionsChosen.chosen.Goals as goal

pub returns : goal.returns
returns c =
    let f = found_of c.args.matches.now in
    λ has. record {
      policy = of_rows f (codes "policy") _ (c.in_ok-policy.ensures has.policy);
      base = of_rows f (codes "base") _ (c.in_ok-base.ensures has.base);
      journal = of_rows f (codes "journal") _ (c.in_ok-journal.ensures has.journal);
      out = of_rows f (codes "out") _ (c.in_ok-out.ensures has.out);
      workers = c.number_or.ensures;
      explain = says_rows f (codes "explain") _ c.get_flag.ensures.none c.get_flag.ensures.value c.get_flag.ensures.other;
      check = says_rows f (codes "check") _ c.get_flag-2.ensures.none c.get_flag-2.ensures.value c.get_flag-2.ensures.other;
      as_recorded = says_rows f (codes "as-recorded") _ c.get_flag-3.ensures.none c.get_flag-3.ensures.value c.get_flag-3.ensures.other;
    }
