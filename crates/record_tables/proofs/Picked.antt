-- Rows that are picked by the text in a column.
use Rattle.std.proofs.Common.{◌≡◌, ◌∙◌, ℕ, List, [], ◌∷◌, ◌++◌, Bool, true, false, cond, Option, Some, None, refl, sym, ap}
use Rattle.circ_records.proofs.SameTexts.{same-itself, tie}
use Rattle.std.proofs.lemmas.List.Elements.{filter-append}
use Rattle.std.proofs.lemmas.Map.Text.{is_eq-slice_cmp}
use Rattle.std.specs.Cmp.Lexicographic.{nat_list_eq_equiv}
use Rattle.std.specs.FinMap.{nat_cmp-IsAntisymmetric, slice_cmp-IsAntisymmetric}
use Rattle.std.specs.List.{AllByRecursion, cons_option, filter, filter_map, find, flat_map}
use Rattle.std.specs.Ordering.{is_eq}
use Rattle.std.specs.Prelude.{◌||◌, ◌&&◌, not}
use Rattle.circ_records.specs.Coherent.{are_distinct, has_id}
use Rattle.circ_records.specs.Keys.{key_cmp}
use Rattle.circ_records.specs.Records.{AreRising, Entries, record_at}
use Rattle.record_tables.specs.Tables.{Row, field}
use Rattle.record_tables.specs.Told.{rows_with}
use Rattle.circ_records.specs.Texts.{is_same}
use Rattle.circ_records.specs.declared.key.Key.{Key}
use Rattle.circ_records.specs.declared.record.Record.{Record}
use Rattle.record_tables.proofs.Entries.{all-from, given, gives-at, itself}

-- texts of the same bytes are one
pub same : (a b : List ℕ) → is_same a b ≡ true → a ≡ b
same a b e = slice_cmp-IsAntisymmetric nat_cmp-IsAntisymmetric a b (tie _ (is_eq-slice_cmp a b ∙ e))

pub same-back : (a b : List ℕ) → is_same a b ≡ is_same b a
same-back a b = nat_list_eq_equiv.symm a b

abbrev pub head : {A : Type 0} → List A → Option A
head [] = None
head (x ∷ xs) = Some x

head-cond : {A : Type 0} (b : Bool) (x : A) (xs : List A) → cond b (Some x) (head xs) ≡ head (cond b (x ∷ xs) xs)
head-cond true x xs = refl
head-cond false x xs = refl

-- the first that passes is the first of those that do
pub first-picked : {A : Type 0} (test : A → Bool) (xs : List A) → find test xs ≡ head (filter test xs)
first-picked test [] = refl
first-picked test (x ∷ xs) =
    ap (λ o. cond (test x) (Some x) o) (first-picked test xs) ∙ head-cond (test x) x (filter test xs)

filter-flat : {A B : Type 0} (test : B → Bool) (f : A → List B) (xs : List A)
    → filter test (flat_map f xs) ≡ flat_map (λ x. filter test (f x)) xs
filter-flat test f [] = refl
filter-flat test f (x ∷ xs) =
    filter-append test (f x) (flat_map f xs) ∙ ap (λ ys. filter test (f x) ++ ys) (filter-flat test f xs)

filter-all : {A : Type 0} (test : A → Bool) (xs : List A) → AllByRecursion (λ x. test x ≡ true) xs → filter test xs ≡ xs
filter-all test [] all = refl
filter-all test (x ∷ xs) all = rw all.0 (ap (λ ys. x ∷ ys) (filter-all test xs all.1))

filter-none : {A : Type 0} (test : A → Bool) (xs : List A) → AllByRecursion (λ x. test x ≡ false) xs
    → filter test xs ≡ []
filter-none test [] all = refl
filter-none test (x ∷ xs) all = rw all.0 (filter-none test xs all.1)

-- Keys of one kind: they tie where their ids are the same
abbrev pub IsKind : (List ℕ → Key) → Type 0
IsKind key_of = (a b : List ℕ) → is_same a b ≡ is_eq (key_cmp (key_of a) (key_of b))

-- each row that an entry gives has the id of its key in a column
abbrev pub Carries : (List ℕ → Key) → ℕ → (Key × Record → List Row) → Type 0
Carries key_of column rows = (x : Key × Record) → AllByRecursion (λ row. key_of (field column row) ≡ x.0) (rows x)

picks-own : (key_of : List ℕ → Key) → IsKind key_of → (column : ℕ) (rows : Key × Record → List Row)
    → Carries key_of column rows
    → (id : List ℕ) (o : Option Record) → given (λ x. rows_with column id (rows x)) (key_of id) o
    ≡ given rows (key_of id) o
picks-own key_of kind column rows carries id None = refl
picks-own key_of kind column rows carries id (Some r) =
    filter-all (λ (row : Row). is_same id (field column row)) (rows (key_of id, r))
    (all-from (λ (row : Row). key_of (field column row) ≡ key_of id) (λ (row : Row). is_same id (field column row) ≡ true) (rows (key_of id, r))
    (λ row is. kind id (field column row) ∙ ap (λ k. is_eq (key_cmp (key_of id) k)) is ∙ itself (key_of id)) (carries (key_of id, r)))

-- the rows that have an id there are those of the entry at its key
pub picked : (key_of : List ℕ → Key) → IsKind key_of → (column : ℕ) (rows : Key × Record → List Row)
    → Carries key_of column rows
    → (id : List ℕ) (es : Entries) → AreRising es
    → rows_with column id (flat_map rows es) ≡ given rows (key_of id) (record_at es (key_of id))
picked key_of kind column rows carries id es rising =
    filter-flat (λ (row : Row). is_same id (field column row)) rows es
    ∙ gives-at (λ x. rows_with column id (rows x)) (key_of id) es rising
    (λ x at other. filter-none (λ (row : Row). is_same id (field column row)) (rows x)
    (all-from (λ (row : Row). key_of (field column row) ≡ x.0) (λ (row : Row). is_same id (field column row) ≡ false) (rows x)
    (λ row is. kind id (field column row) ∙ ap (λ k. is_eq (key_cmp (key_of id) k)) is ∙ other) (carries x)))
    ∙ picks-own key_of kind column rows carries id (record_at es (key_of id))

-- the rows that each entry gives with a text in a column
pub picked-each : (column : ℕ) (rows : Key × Record → List Row) (text : List ℕ) (es : Entries)
    → rows_with column text (flat_map rows es) ≡ flat_map (λ x. rows_with column text (rows x)) es
picked-each column rows text es = filter-flat (λ (row : Row). is_same text (field column row)) rows es

-- a row for an id of a list has it in a column
abbrev pub RowsOf : ℕ → (List ℕ → Option Row) → Type 0
RowsOf column row_of = (id : List ℕ) (row : Row) → row_of id ≡ Some row → field column row ≡ id

not-listed : (column : ℕ) (row_of : List ℕ → Option Row) → RowsOf column row_of
    → (id x : List ℕ) (o : Option Row) (rest : List Row) → row_of x ≡ o → is_same id x ≡ false
    → rows_with column id (cons_option o rest) ≡ rows_with column id rest
not-listed column row_of says id x None rest is other = refl
not-listed column row_of says id x (Some row) rest is other = let there = says x row is in rw there (rw other refl)

listed-first : (column : ℕ) (row_of : List ℕ → Option Row) → RowsOf column row_of
    → (id : List ℕ) (o : Option Row) (rest : List Row) → row_of id ≡ o
    → rows_with column id rest ≡ []
    → rows_with column id (cons_option o rest) ≡ cons_option o []
listed-first column row_of says id None rest is none = none
listed-first column row_of says id (Some row) rest is none =
    let there = says id row is in rw there (rw (same-itself id, none) refl)

pub parts : (a b : Bool) → (not a && b) ≡ true → (a ≡ false) × (b ≡ true)
parts true b e = cc
parts false b e = (refl, e)

-- of the rows of a list that has each id once, an id has one, where it is listed
pub once : (column : ℕ) (row_of : List ℕ → Option Row) → RowsOf column row_of
    → (id : List ℕ) (ids : List (List ℕ)) → are_distinct ids ≡ true
    → rows_with column id (filter_map row_of ids) ≡ cond (has_id id ids) (cons_option (row_of id) []) []
once column row_of says id [] distinct = refl
once column row_of says id (x ∷ xs) distinct =
    let rest = parts (has_id x xs) (are_distinct xs) distinct in
    by (is_same id x) refl (once column row_of says id xs rest.1)
  where
    by : (b : Bool) → is_same id x ≡ b → rows_with column id (filter_map row_of xs)
        ≡ cond (has_id id xs) (cons_option (row_of id) []) []
        → rows_with column id (cons_option (row_of x) (filter_map row_of xs)) ≡ cond (b || has_id id xs) (cons_option (row_of id) []) []
    by true e more =
        let is : id ≡ x = same id x e in
        let new : has_id id xs ≡ false = ap (λ y. has_id y xs) is ∙ (parts (has_id x xs) (are_distinct xs) distinct).0 in
        ap (λ y. rows_with column id (cons_option (row_of y) (filter_map row_of xs))) (sym is)
        ∙ listed-first column row_of says id (row_of id) (filter_map row_of xs) refl
        (more ∙ ap (λ b. cond b (cons_option (row_of id) []) []) new)
    by false e more = not-listed column row_of says id x (row_of x) (filter_map row_of xs) refl e ∙ more
