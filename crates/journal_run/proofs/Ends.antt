-- How a run ends.
use Rattle.std.proofs.Common.{◌≡◌, ◌++◌, ◌∷◌, ℕ, List, [], Bool, Option, inl, inr, refl, subst}
use Rattle.std.specs.Prelude.{◌⊎◌}
use Rattle.log_pairs.specs.Pairs.{Said}
use Rattle.outside.proofs.Steps.{both}
use Rattle.outside.specs.Events.{Did, Event, Tell}
use Rattle.journal_run.specs.Run.{IsBrokenOff, IsJournal, IsPrinted, IsWanted, ReportsCounts, TellsStop}
use Rattle.journal_run.specs.Sums.{Sums, made_sums}
use Rattle.journal_run.specs.Stops.{status_of, stop_text}
use Rattle.journal_run.specs.declared.making.JournalRows.{JournalRows}
use Rattle.journal_run.specs.declared.making.Making.{Making}
use Rattle.journal_run.specs.declared.stop.JournalStop.{JournalStop}
use Rattle.journal_run.specs.declared.stop.JournalStop.TheVariants as stops
use Rattle.journal_run.specs.declared.stop.MakingError.{MakingError}
use Rattle.journal_run.specs.declared.stop.MakingError.TheVariants as errors
use Rattle.journal_run.specs.declared.tally.LogTally.{LogTally}
use Rattle.std.specs.Borrow.{Bor}

-- one report of a stop
pub tells-stop : (stop : JournalStop) (status : ℕ) (taken : Bool) → status ≡ status_of stop → TellsStop stop status (Tell (stop_text stop) taken ∷ [])
tells-stop (stops.Source error) status taken is = (taken, refl, is)
tells-stop (stops.Useless why) status taken is = ([], [], taken, refl, refl, refl, is)
tells-stop stops.Output status taken is = (taken, refl, is)

-- all was printed, and its counts are reported
pub journal-printed : (first : JournalRows) (force : Bool) (counts : LogTally → Type 0) (fails : MakingError → Type 0) (at_end : Type 0) (start found : Option (List Said)) (status : ℕ) (m : Making) (old mid new : Option (List Event))
    → IsPrinted first old mid start found m → at_end → IsWanted force counts m.exchanges → Did (ReportsCounts counts (made_sums m) status) mid new
    → Did (IsJournal first force counts fails at_end start found status) old new
journal-printed first force counts fails at_end start found status m old mid new (said, is, within, (es, p, prints), sums) ended wanted (fs, q, reports) = (
  es ++ fs,
  both es fs old mid new p q,
  inl (
    said,
    es,
    fs,
    is,
    ended,
    within,
    subst (λ (s : Sums). IsWanted force counts s.exchanges) sums wanted,
    prints,
    subst (λ (s : Sums). ReportsCounts counts s status fs) sums reports,
    refl,
  ),
)

-- the run was stopped, and that is reported
pub journal-stopped : (first : JournalRows) (force : Bool) (counts : LogTally → Type 0) (fails : MakingError → Type 0) (at_end : Type 0) (start found : Option (List Said)) (status : ℕ) (stop : JournalStop) (old mid new : Option (List Event))
    → IsBrokenOff first force counts fails at_end old mid start found stop → Did (TellsStop stop status) mid new → Did (IsJournal first force counts fails at_end start found status) old new
journal-stopped first force counts fails at_end start found status stop old mid new (said, later, is, cause, (es, p, breaks)) (fs, q, tells) =
    (es ++ fs, both es fs old mid new p q, inr (said, later, stop, es, fs, is, cause, breaks, tells, refl))

-- the journal is of no use, or memory runs out for saying so
pub journal-useless : (first : JournalRows) (force : Bool) (counts : LogTally → Type 0) (fails : MakingError → Type 0) (at_end : Type 0) (start found : Option (List Said)) (status : ℕ) (why : Bor (List ℕ)) (old mid new : Option (List Event))
    → IsBrokenOff first force counts fails at_end old mid start found (stops.Useless why)
    → Did (λ events. TellsStop (stops.Useless why) status events ⊎ TellsStop (stops.Source errors.Memory) status events) mid new
    → Did (IsJournal first force counts fails at_end start found status) old new
journal-useless first force counts fails at_end start found status why old mid new (said, later, is, cause, (es, p, breaks)) (fs, q, inl tells) =
    (es ++ fs, both es fs old mid new p q, inr (said, later, stops.Useless why, es, fs, is, cause, breaks, tells, refl))
journal-useless first force counts fails at_end start found status why old mid new (said, later, is, cause, (es, p, breaks)) (fs, q, inr tells) =
    (es ++ fs, both es fs old mid new p q, inr (said, later, stops.Source errors.Memory, es, fs, is, tt, breaks, tells, refl))
