-- What a check lists, and what a run is refused for.
use Rattle.std.proofs.Common.{◌≡◌, ℕ, List, [], ◌∷◌, ◌++◌, Result, Ok, Err, length, map, refl, subst, sym, ap, ◌∙◌}
use Rattle.std.specs.Prelude.{option_map}
use Rattle.std.specs.List.{slice_get}
use Rattle.std.specs.Result.{result_err}
use Rattle.std.proofs.lemmas.List.{append_assoc, append-nil}
use Rattle.command_line.specs.declared.chosen.Options.{Options}
use Rattle.circ_policy.specs.Terms.{Terms}
use Rattle.record_tables.specs.Base.{base_of}
use Rattle.circ_records.specs.Records.{Entries}
use Rattle.record_tables.specs.declared.fault.BaseError.{BaseError}
use Rattle.journal_table.specs.Entry.{Entry}
use Rattle.journal_table.specs.Journal.{journal_of}
use Rattle.journal_table.specs.declared.error.JournalError.{JournalError}
use Rattle.replay_run.specs.Faults.{base_fault}
use Rattle.read_set.specs.declared.way.Way.{Way}
use Rattle.replay_run.specs.Judgements.{first_read, judgement_on, with_base, with_policy}
use Rattle.replay_run.specs.declared.fault.Fault.{Fault}
use Rattle.record_tables.specs.AllBroken.{broken_rules}
use Rattle.record_tables.specs.declared.sizes.TableSizes.{TableSizes}
use Rattle.record_tables.proofs.First.{first-is-the-fault}
use Rattle.whole_run.specs.Checking.{AreLines, FirstIsRefused, IsRefusedFor, IsText, checked_line, count_line, faults_of, faults_of_journal, listed}
use Rattle.run_stops.specs.Seeing.{IsOf}
use Rattle.run_stops.specs.Telling.{remedy_of}
use Rattle.run_stops.specs.declared.stop.RunError.{RunError}

refused-for : (way : Way) (policy : Terms) (read : Result (List Entry) JournalError)
    (base : Result Entries BaseError) (broken : List BaseError)
    → slice_get broken 0 ≡ result_err base
    → IsRefusedFor (with_base way policy read base) (slice_get (map base_fault broken ++ faults_of_journal read) 0)
refused-for way policy read (Err e) [] h = cc h
refused-for way policy read (Err e) (x ∷ xs) h = ap (option_map base_fault) h
refused-for way policy (Ok lines) (Ok entries) [] h = refl
refused-for way policy (Err e) (Ok entries) [] h = refl
refused-for way policy read (Ok entries) (x ∷ xs) h = cc h

pub first-is-refused : FirstIsRefused
unfolding judgement_on
first-is-refused way bytes policy texts journal is =
    let read = journal_of journal in
    subst (λ p. IsRefusedFor (with_policy way texts read p) (slice_get (faults_of policy texts read) 0)) (sym is)
    (refused-for way policy read (base_of policy texts (first_read read)) (broken_rules policy texts (first_read read)) (first-is-the-fault policy texts (first_read read)))

-- one line more
pub lines-more : (o : Options) (faults : List Fault) (fault : Fault) (stop : RunError)
    (text : List ℕ) → AreLines o faults text → IsOf fault stop
    → AreLines o (faults ++ fault ∷ []) (text ++ remedy_of o stop)
lines-more o [] fault stop text are of = (stop, [], of, refl, ap (λ t. t ++ remedy_of o stop) are ∙ sym (append-nil (remedy_of o stop)))
lines-more o (f ∷ fs) fault stop text (s, more, is, rest, same) of =
    (s, more ++ remedy_of o stop, is, lines-more o fs fault stop more rest of, ap (λ t. t ++ remedy_of o stop) same ∙ append_assoc (remedy_of o s) more (remedy_of o stop))

-- the text of a check
pub text-of-none : (o : Options) (faults : List Fault) (sizes : TableSizes) (lines : ℕ)
    (text : List ℕ) → faults ≡ [] → text ≡ checked_line sizes lines
    → IsText o faults sizes lines text
text-of-none o faults sizes lines text none is = subst (λ (fs : List Fault). IsText o fs sizes lines text) (sym none) is

pub text-of-some : (o : Options) (faults : List Fault) (sizes : TableSizes) (lines : ℕ)
    (told text : List ℕ) → (faults ≡ [] → ⊥) → AreLines o (listed faults) told
    → text ≡ told ++ count_line (length faults) (length (listed faults)) → IsText o faults sizes lines text
text-of-some o [] sizes lines told text some are is = absurd (some refl)
text-of-some o (f ∷ fs) sizes lines told text some are is = (told, are, is)
