-- Why a journal is of no use, and of what use it is.
use Rattle.std.proofs.Common.{◌≡◌, ◌==◌, ◌≤◌, ◌∷◌, ℕ, List, [], Bool, true, false, length, inl, inr, refl, sym, ap, arith, ◌∙◌}
use Rattle.std.specs.Prelude.{◌⊎◌}
use Rattle.log_pairs.specs.Pairs.{Pair, Said, pairs_of}
use Rattle.journal_run.specs.Counts.{is_too_odd}
use Rattle.journal_run.specs.Making.{Closes}
use Rattle.journal_run.specs.Sums.{Sums}
use Rattle.journal_run.specs.Printing.{FailsToPrint}
use Rattle.journal_run.specs.Run.{FindsNothing, HasCause, IsWanted}
use Rattle.journal_run.specs.Stops.{IsFailure, IsPastEnd, IsUseless}
use Rattle.journal_run.specs.declared.making.JournalRows.{JournalRows}
use Rattle.journal_run.specs.declared.making.Making.{Making}
use Rattle.journal_run.specs.declared.stop.JournalStop.{JournalStop}
use Rattle.journal_run.specs.declared.stop.JournalStop.TheVariants as stops
use Rattle.journal_run.specs.declared.stop.MakingError.{MakingError}
use Rattle.journal_run.specs.declared.stop.MakingError.TheVariants as errors
use Rattle.journal_run.specs.declared.tally.LogTally.{LogTally}

-- a cause of one kind that is one of another
pub caused : (f g : MakingError → Type 0) → ((error : MakingError) → f error → g error) → (stop : JournalStop) → IsFailure f stop → IsFailure g stop
caused f g each (stops.Source errors.Memory) h = tt
caused f g each (stops.Source (errors.Refused told)) h = each (errors.Refused told) h
caused f g each (stops.Source (errors.File told)) h = each (errors.File told) h
caused f g each (stops.Useless why) h = absurd h
caused f g each stops.Output h = tt

-- where an error has a cause, so has the stop by it
pub failing : (f : MakingError → Type 0) (error : MakingError) → f error → IsFailure f (stops.Source error)
failing f errors.Memory h = tt
failing f (errors.Refused told) h = h
failing f (errors.File told) h = h

-- one cause alone is one of two
pub either : (force : Bool) (counts : LogTally → Type 0) (nothing : Type 0) (f g : MakingError → Type 0) (stop : JournalStop) → ((error : MakingError) → f error → g error)
    → HasCause force counts ⊥ f stop → HasCause force counts nothing g stop
either force counts nothing f g (stops.Source error) each h = caused f g each (stops.Source error) h
either force counts nothing f g (stops.Useless why) each (calm, inl odd) = (calm, inl odd)
either force counts nothing f g (stops.Useless why) each (calm, inr none) = absurd none
either force counts nothing f g stops.Output each h = tt

-- what is past the end, and goes on
pub past-end : (after more : ℕ) → after ≤ more → (error : MakingError) → IsPastEnd after error → IsPastEnd more error
past-end after more least errors.Memory h = absurd h
past-end after more least (errors.Refused told) (past, says) = (omega (arith, past, least), says)
past-end after more least (errors.File told) h = absurd h

pub useless-quiet : (stop : JournalStop) → IsUseless stop → FailsToPrint [] stop []
useless-quiet (stops.Source error) u = refl
useless-quiet (stops.Useless why) u = refl
useless-quiet stops.Output u = absurd u

none-of : (ps : List Pair) → length ps ≡ 0 → ps ≡ []
none-of [] e = refl
none-of (p ∷ ps) e = cc e

-- no pair is whole at the end, so nothing was found
pub nothing-found : (force : Bool) (counts : LogTally → Type 0) (at_end : Type 0) (cause : MakingError → Type 0) (first : JournalRows) (said : List Said) (taken : List Pair) (m : Making) (stop : JournalStop)
    → Closes first said taken m → IsUseless stop → force ≡ false → at_end → m.exchanges ≡ 0 → HasCause force counts (FindsNothing at_end [] said) cause stop
nothing-found force counts at_end cause first said taken m (stops.Source error) c u calm end is = absurd u
nothing-found force counts at_end cause first said taken m (stops.Useless why) c u calm end is = (calm, inr (end, refl, none-of (pairs_of said) (sym (ap (λ (t : Sums). t.exchanges) c.sums) ∙ is)))
nothing-found force counts at_end cause first said taken m stops.Output c u calm end is = absurd u

pub wanted : (force : Bool) (counts : LogTally → Type 0) (old new : ℕ) → new ≡ old → (force ≡ true) ⊎ ((old == 0) ≡ false)
    → (force ≡ true) ⊎ ((tally : LogTally) × counts tally × (is_too_odd tally ≡ false)) → IsWanted force counts new
wanted force counts old new e (inl forced) good = inl forced
wanted force counts old new e (inr some) (inl forced) = inl forced
wanted force counts old new e (inr some) (inr good) = inr (rw e some, good)
