use Rattle.std.proofs.Common.{◌++◌, ◌∷◌, [], inl, inr, refl}
use Rattle.outside.specs.Events.{Tell}
use Rattle.journal_run.specs.Counts.{counts_line}
use Rattle.journal_run.specs.Sums.{made_sums}
use Rattle.journal_run.proofs.ending.end.Goals as goal

pub returns-then-is_err : goal.returns-then-is_err
returns-then-is_err g c = (_ ∷ [], c.tell.ensures.told.1, inr (c.tell.ensures.told.0, refl, c.tell.ensures.status))

pub returns : goal.returns
returns g c = (
  Tell (c.as_str.result.now ++ counts_line c.tally.result (made_sums c.args.making.now)) c.tell-taken.result ∷ [],
  rw (c.counts_line-counts.ensures) at c.tell-taken.ensures,
  inl (c.tally.result, c.as_str.result.now, c.tell-taken.result, c.tally.ensures, refl, rw (c.counts_line-counts.ensures) at c.status.ensures),
)
