-- Look-ups among rows.
use Rattle.std.proofs.Common.{◌≡◌, ℕ, List, [], ◌∷◌, ◌++◌, Bool, true, false, cond, Option, Some, None, map, refl, sym, ap, ◌∙◌}
use Rattle.std.specs.Prelude.{is_some, option_map, ◌==◌, ◌||◌}
use Rattle.std.specs.Option.{option_or}
use Rattle.std.specs.List.{find}
use Rattle.std.specs.Cmp.Lexicographic.{pointwise}
use Rattle.circ_records.proofs.SameTexts.{same-text}
use Rattle.record_tables.specs.Rules.{has_row}
use Rattle.record_tables.specs.Tables.{Row, field}
use Rattle.record_tables.specs.Told.{row_with, rows_with}
use Rattle.circ_records.specs.Texts.{is_same}

pub is_some-map : {A B : Type 0} (f : A → B) (o : Option A) → is_some (option_map f o) ≡ is_some o
is_some-map f None = refl
is_some-map f (Some x) = refl

-- whether one of two is there
pub is_some-either : {A B : Type 0} (f g : A → B) (a b : Option A) → is_some (option_or (option_map f a) (option_map g b)) ≡ (is_some a || is_some b)
is_some-either f g None b = is_some-map g b
is_some-either f g (Some x) b = refl

pub none-of : {A : Type 0} (o : Option A) → is_some o ≡ false → o ≡ None
none-of None e = refl
none-of (Some x) e = cc

pub or-cond : {A : Type 0} (b : Bool) (x : A) (o p : Option A)
    → option_or (cond b (Some x) o) p ≡ cond b (Some x) (option_or o p)
or-cond true x o p = refl
or-cond false x o p = refl

-- the first that passes among these and those
pub find-append : {A : Type 0} (test : A → Bool) (xs ys : List A)
    → find test (xs ++ ys) ≡ option_or (find test xs) (find test ys)
find-append test [] ys = refl
find-append test (x ∷ xs) ys =
    ap (cond (test x) (Some x)) (find-append test xs ys) ∙ sym (or-cond (test x) x (find test xs) (find test ys))

or-new : {A : Type 0} (b : Bool) (x : A) (o : Option A) → (b ≡ true → o ≡ None)
    → option_or o (cond b (Some x) None) ≡ cond b (Some x) o
or-new true x o h = ap (λ p. option_or p (Some x)) (h refl)
or-new false x None h = refl
or-new false x (Some y) h = refl

-- the row of a text among rows to which one of a new text was added
pub row_with-new : (column : ℕ) (q : List ℕ) (rows : List Row) (row : Row)
    → has_row column (field column row) rows ≡ false
    → row_with column q (rows ++ row ∷ [])
    ≡ cond (pointwise ◌==◌ q (field column row)) (Some row) (row_with column q rows)
row_with-new column q rows row new =
    find-append (λ (r : Row). pointwise ◌==◌ q (field column r)) rows (row ∷ [])
    ∙ or-new (pointwise ◌==◌ q (field column row)) row (row_with column q rows)
    (λ e. ap (λ t. row_with column t rows) (same-text q (field column row) e) ∙ none-of _ new)

pub or-none : {A : Type 0} (o : Option A) → option_or o None ≡ o
or-none None = refl
or-none (Some x) = refl

-- what is listed from the rows of a text, as a row is added
pub listed-more : {X : Type 0} (f : Row → X) (column : ℕ) (q : List ℕ) (rows : List Row) (row : Row)
    → map f (rows_with column q (rows ++ row ∷ []))
    ≡ cond (is_same q (field column row)) (map f (rows_with column q rows) ++ f row ∷ [])
    (map f (rows_with column q rows))
listed-more f column q [] row = by (is_same q (field column row))
  where
    by : (b : Bool) → map f (cond b (row ∷ []) []) ≡ cond b (f row ∷ []) []
    by true = refl
    by false = refl
listed-more {X} f column q (x ∷ xs) row =
    by (is_same q (field column x)) (is_same q (field column row)) (listed-more f column q xs row)
  where
    by : (a b : Bool) → map f (rows_with column q (xs ++ row ∷ []))
        ≡ cond b (map f (rows_with column q xs) ++ f row ∷ []) (map f (rows_with column q xs))
        → map f (cond a (x ∷ rows_with column q (xs ++ row ∷ [])) (rows_with column q (xs ++ row ∷ [])))
        ≡ cond b (map f (cond a (x ∷ rows_with column q xs) (rows_with column q xs)) ++ f row ∷ [])
        (map f (cond a (x ∷ rows_with column q xs) (rows_with column q xs)))
    by true true e = ap (λ (l : List X). f x ∷ l) e
    by true false e = ap (λ (l : List X). f x ∷ l) e
    by false b e = e
