-- The pairs of item and patron of rows of holds, as a row is added.
use Rattle.std.proofs.Common.{◌≡◌, ℕ, List, [], ◌∷◌, ◌++◌, Bool, true, false, cond, refl, sym, ap, ◌∙◌}
use Rattle.std.specs.Prelude.{◌&&◌, ◌||◌}
use Rattle.std.specs.BTreeSet.{BTreeSet, contains}
use Rattle.std.specs.Cmp.Lexicographic.{slice_cmp}
use Rattle.std.specs.Ordering.{is_eq, nat_cmp, ordering_then}
use Rattle.std.specs.declared.cmp.Ordering.{Ordering}
use Rattle.std.specs.declared.cmp.Ordering.TheVariants.{Less, Equal, Greater}
use Rattle.std.proofs.lemmas.List.Folds.{list_any-append}
use Rattle.record_tables.specs.Read.{AreWaiting, pair_cmp}
use Rattle.record_tables.specs.Rules.{has_hold}
use Rattle.record_tables.specs.Tables.{Row, field}
use Rattle.circ_records.specs.Texts.{is_same}
use Rattle.circ_records.proofs.SameTexts.{tie-text}

tie-both : (p q : Ordering) → is_eq (ordering_then p q) ≡ (is_eq p && is_eq q)
tie-both Less q = refl
tie-both Equal q = refl
tie-both Greater q = refl

-- whether pairs tie, and whether they are the same texts
pub same-pair : (item patron a b : List ℕ)
    → is_eq (pair_cmp (item, patron) (a, b)) ≡ (is_same a item && is_same b patron)
same-pair item patron a b =
    tie-both (slice_cmp nat_cmp item a) (slice_cmp nat_cmp patron b)
    ∙ ap (λ t. t && is_eq (slice_cmp nat_cmp patron b)) (tie-text item a)
    ∙ ap (λ t. is_same a item && t) (tie-text patron b)

cond-or : (t b : Bool) → cond t true b ≡ (b || (t || false))
cond-or true true = refl
cond-or true false = refl
cond-or false true = refl
cond-or false false = refl

-- a row of holds more
pub waiting-more : (holds : List Row) (row : Row) (old new : BTreeSet (List ℕ × List ℕ))
    (item patron : List ℕ) → item ≡ field 0 row → patron ≡ field 1 row
    → AreWaiting holds old → ((q : List ℕ × List ℕ)
    → contains pair_cmp new q ≡ cond (is_eq (pair_cmp (item, patron) q)) true
    (contains pair_cmp old q))
    → AreWaiting (holds ++ row ∷ []) new
waiting-more holds row old new item patron i p waiting updates = λ a b.
    let test = λ (r : Row). is_same a (field 0 r) && is_same b (field 1 r) in
    updates (a, b)
    ∙ ap (λ t. cond t true (contains pair_cmp old (a, b))) (same-pair item patron a b)
    ∙ ap (λ t. cond (is_same a item && is_same b patron) true t) (waiting a b)
    ∙ ap (λ (t : List ℕ). cond (is_same a t && is_same b patron) true (has_hold a b holds)) i
    ∙ ap (λ (t : List ℕ). cond (is_same a (field 0 row) && is_same b t) true (has_hold a b holds)) p
    ∙ cond-or (is_same a (field 0 row) && is_same b (field 1 row)) (has_hold a b holds)
    ∙ sym (list_any-append test holds (row ∷ []))
