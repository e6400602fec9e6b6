-- What is printed, one after the other.
use Rattle.std.proofs.Common.{◌≡◌, ◌+◌, ℕ, List, [], ◌∷◌, ◌++◌, length, Bool, false, true, Option, refl, sym, ap, subst, append_assoc, ◌∙◌}
use Rattle.csv_table.specs.Text.{table_text}
use Rattle.journal_table.specs.Journal.{header}
use Rattle.log_pairs.proofs.Journals.{joined}
use Rattle.log_pairs.specs.Pairs.{Pair}
use Rattle.log_pairs.specs.Rows.{rows_from}
use Rattle.outside.proofs.Steps.{both}
use Rattle.outside.specs.Events.{Did, Event, Print, Tell}
use Rattle.journal_run.specs.Printing.{BreaksOff, FailsToPrint, Prints, head_to_print, shown, to_print}
use Rattle.journal_run.specs.declared.making.Making.{Making}
use Rattle.journal_run.specs.declared.stop.JournalStop.{JournalStop}

prints-more : (a b : List ℕ) (xs ys : List Event) → Prints a xs → Prints b ys → Prints (a ++ b) (xs ++ ys)
prints-more a b [] ys is more = subst (λ (t : List ℕ). Prints (t ++ b) ys) (sym is) more
prints-more a b (Print text true ∷ xs) ys (rest, is, then_more) more =
    (rest ++ b, ap (λ (t : List ℕ). t ++ b) is ∙ append_assoc text rest b, prints-more rest b xs ys then_more more)
prints-more a b (Print text false ∷ xs) ys none more = absurd none
prints-more a b (Tell text taken ∷ xs) ys prints more = prints-more a b xs ys prints more
prints-more a b (_ ∷ xs) ys none more = absurd none

-- one after the other
pub printed-both : (a b : List ℕ) (old mid new : Option (List Event)) → Did (Prints a) old mid → Did (Prints b) mid new → Did (Prints (a ++ b)) old new
printed-both a b old mid new (xs, p, f) (ys, q, g) = (xs ++ ys, both xs ys old mid new p q, prints-more a b xs ys f g)

pub printed-none : (log : Option (List Event)) → Did (Prints []) log log
printed-none log = ([], refl, refl)

-- nothing is printed before this stop
pub quiet : (bytes : List ℕ) (stop : JournalStop) (log : Option (List Event)) → FailsToPrint [] stop [] → Did (BreaksOff bytes stop) log log
quiet bytes stop log fails = ([], refl, ([], [], bytes, [], [], refl, refl, fails, refl))

-- a run that breaks off after these bytes, at this text, of more
pub broken : (done text rest all : List ℕ) (stop : JournalStop) (old mid new : Option (List Event)) → all ≡ done ++ (text ++ rest) → Did (Prints done) old mid
    → Did (FailsToPrint text stop) mid new → Did (BreaksOff all stop) old new
broken done text rest all stop old mid new is (xs, p, f) (ys, q, g) = (xs ++ ys, both xs ys old mid new p q, (done, text, rest, xs, ys, is, f, g, refl))

-- the same, where more was printed before
pub broken-later : (first all whole : List ℕ) (rest : List ℕ) (stop : JournalStop) (old mid new : Option (List Event)) → whole ≡ first ++ (all ++ rest) → Did (Prints first) old mid
    → Did (BreaksOff all stop) mid new → Did (BreaksOff whole stop) old new
broken-later first all whole rest stop old mid new is (xs, p, f) (ys, q, (done, text, left, printed, failed, at, g, h, e)) = (
  xs ++ ys,
  both xs ys old mid new p q,
  (
    first ++ done,
    text,
    left ++ rest,
    xs ++ printed,
    failed,
    is ∙ ap (λ (t : List ℕ). first ++ (t ++ rest)) at ∙ longer first done text left rest,
    prints-more first done xs printed f g,
    h,
    ap (λ (es : List Event). xs ++ es) e ∙ sym (append_assoc xs printed failed),
  ),
)
  where
    longer : (first done text left rest : List ℕ) → first ++ ((done ++ (text ++ left)) ++ rest) ≡ (first ++ done) ++ (text ++ (left ++ rest))
    longer first done text left rest = simp append_assoc

-- ROWS

-- what was printed, and what is to be printed next
pub shown-more : (first : ℕ) (taken : List Pair) (m : Making) → m.number ≡ first + length taken → (m.begun ≡ false → taken ≡ [])
    → shown true first (taken ++ m.ready.items) ≡ shown m.begun first taken ++ to_print m
shown-more first taken m number begun = by m.begun begun
  where
    later : table_text (header ∷ rows_from first (taken ++ m.ready.items)) ≡ table_text (header ∷ rows_from first taken) ++ table_text (rows_from m.number m.ready.items)
    later = joined first taken m.ready.items ∙ ap (λ (n : ℕ). table_text (header ∷ rows_from first taken) ++ table_text (rows_from n m.ready.items)) (sym number)

    by : (b : Bool) → (b ≡ false → taken ≡ []) → shown true first (taken ++ m.ready.items) ≡ shown b first taken ++ (head_to_print b ++ table_text (rows_from m.number m.ready.items))
    by true none = later
    by false none = later ∙ ap (λ (ps : List Pair). table_text (header ∷ rows_from first ps) ++ table_text (rows_from m.number m.ready.items)) (none refl)
