-- The deeds of a journal's lines, one after the other.
use Rattle.std.proofs.Common.{◌≡◌, ◌∙◌, ℕ, zero, suc, List, [], ◌∷◌, ◌++◌, Option, Some, length, map, take, refl, sym, ap}
use Rattle.std.specs.Prelude.{slice_get}
use Rattle.std.specs.List.{AllByRecursion}
use Rattle.circ_policy.specs.declared.due_form.DueForm.{DueForm}
use Rattle.journal_table.specs.Entry.{Entry}
use Rattle.journal_table.specs.Readings.{NumberedReading, reading_at, readings_of}
use Rattle.sip_answer.specs.declared.deed.Deed.{Deed}
use Rattle.sip_reader.specs.Reading.{reading}
use Rattle.read_set.specs.Plans.{deed_read, deeds_of}
use Rattle.read_set.specs.declared.way.Way.TheVariants as ways

-- one more that fits
pub all-more : {A : Type 0} (P : A → Type 0) (xs : List A) (x : A) → AllByRecursion P xs → P x → AllByRecursion P (xs ++ x ∷ [])
all-more P [] x all p = (p, tt)
all-more P (y ∷ ys) x all p = (all.0, all-more P ys x all.1 p)

-- the next element goes to the end of those before it
take-next : {A : Type 0} (xs : List A) (i : ℕ) (x : A) → slice_get xs i ≡ Some x → take i xs ++ x ∷ [] ≡ take (suc i) xs
take-next [] i x e = cc e
take-next (y ∷ ys) zero x e = let same : y ≡ x = cc e in ap (λ z. z ∷ []) (sym same)
take-next (y ∷ ys) (suc i) x e = ap (λ zs. y ∷ zs) (take-next ys i x e)

-- what the response of the line at a position says
told-at : (form : DueForm) (lines : List Entry) (i : ℕ) (line : Entry) → slice_get lines i ≡ Some line
    → slice_get (map (λ (x : Entry). deed_read form (Some (reading x.request)) x.response) lines) i ≡ Some (deed_read form (slice_get (map reading_at (readings_of lines)) i) line.response)
told-at form [] i line e = cc e
told-at form (x ∷ rest) zero line e = let same : x ≡ line = cc e in ap (λ (y : Entry). Some (deed_read form (Some (reading x.request)) y.response)) same
told-at form (x ∷ rest) (suc i) line e = told-at form rest i line e

pub told-next : (form : DueForm) (lines : List Entry) (read : List NumberedReading) (items : List (Option Deed)) (i : ℕ) (line : Entry) (o : Option Deed) → slice_get lines i ≡ Some line
    → o ≡ deed_read form (slice_get (map reading_at read) i) line.response
    → (read ≡ readings_of lines → items ≡ take i (deeds_of ways.AsRecorded form lines))
    → read ≡ readings_of lines → items ++ o ∷ [] ≡ take (suc i) (deeds_of ways.AsRecorded form lines)
unfolding deeds_of
told-next form lines read items i line o at is before same =
    ap (λ (xs : List (Option Deed)). xs ++ o ∷ []) (before same)
    ∙ take-next (map (λ (x : Entry). deed_read form (Some (reading x.request)) x.response) lines) i o
    (told-at form lines i line at ∙ ap (λ (r : List NumberedReading). Some (deed_read form (slice_get (map reading_at r) i) line.response)) (sym same) ∙ ap (λ x. Some x) (sym is))

pub as-many-told : (form : DueForm) (lines : List Entry) → length (deeds_of ways.AsRecorded form lines) ≡ length lines
unfolding deeds_of
as-many-told form [] = refl
as-many-told form (line ∷ rest) = ap suc (as-many-told form rest)
