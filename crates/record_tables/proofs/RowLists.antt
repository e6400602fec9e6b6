-- The lists that are made from rows with an id.
use Rattle.std.proofs.Common.{◌≡◌, ◌≤◌, ◌<◌, ℕ, suc, List, [], ◌∷◌, ◌++◌, Bool, true, false, cond, not, Option, Some, None, length, map, refl, subst, sym, ap, ◌∙◌, append-nil, append_assoc, arith}
use Rattle.std.specs.Prelude.{is_some, ◌&&◌, ◌||◌, nat_le}
use Rattle.std.specs.List.{AllByRecursion, list_all}
use Rattle.std.proofs.lemmas.Bool.{leb-false}
use Rattle.circ_records.specs.declared.holds.TheConstants.{QUEUE_MAX}
use Rattle.circ_records.specs.Coherent.{are_distinct, has_id}
use Rattle.record_tables.specs.Rules.{has_hold, has_row, is_borrower, is_full, is_of_patron}
use Rattle.record_tables.specs.Tables.{Row, field}
use Rattle.record_tables.specs.Told.{hold_in, queue_of, row_with, rows_with}
use Rattle.circ_records.specs.Texts.{is_same}
use Rattle.circ_records.specs.declared.holds.Hold.{Hold}
use Rattle.circ_records.proofs.SameTexts.{same-text, same-itself}
use Rattle.record_tables.proofs.RowsKept.{KeptFrom, Once, OnceHeld}

-- the rows with an id, as a row is added
rows_with-more : (column : ℕ) (q : List ℕ) (rows : List Row) (row : Row)
    → rows_with column q (rows ++ row ∷ [])
    ≡ cond (is_same q (field column row)) (rows_with column q rows ++ row ∷ [])
    (rows_with column q rows)
rows_with-more column q [] row = by (is_same q (field column row))
  where
    by : (b : Bool) → cond b (row ∷ []) [] ≡ cond b (row ∷ []) []
    by b = refl
rows_with-more column q (x ∷ xs) row =
    by (is_same q (field column x)) (is_same q (field column row)) (rows_with-more column q xs row)
  where
    by : (a b : Bool) → rows_with column q (xs ++ row ∷ [])
        ≡ cond b (rows_with column q xs ++ row ∷ []) (rows_with column q xs)
        → cond a (x ∷ rows_with column q (xs ++ row ∷ [])) (rows_with column q (xs ++ row ∷ []))
        ≡ cond b (cond a (x ∷ rows_with column q xs) (rows_with column q xs) ++ row ∷ [])
        (cond a (x ∷ rows_with column q xs) (rows_with column q xs))
    by true true e = ap (λ (l : List Row). x ∷ l) e
    by true false e = ap (λ (l : List Row). x ∷ l) e
    by false b e = e

-- whether the row that is found has an id in a column
abbrev pub is_at : ℕ → List ℕ → Option Row → Bool
is_at column id None = false
is_at column id (Some row) = is_same id (field column row)

-- what isn't in a column isn't listed from it
not-listed : (c d : ℕ) (id q : List ℕ) (rows : List Row) → has_row d q rows ≡ false
    → has_id q (map (field d) (rows_with c id rows)) ≡ false
not-listed c d id q [] e = refl
not-listed c d id q (row ∷ rows) e =
    by (is_same id (field c row)) (is_same q (field d row)) refl e (λ f. not-listed c d id q rows f)
  where
    by : (a b : Bool) → is_same q (field d row) ≡ b → is_some (cond b (Some row) (row_with d q rows)) ≡ false
        → (has_row d q rows ≡ false → has_id q (map (field d) (rows_with c id rows)) ≡ false)
        → has_id q (map (field d) (cond a (row ∷ rows_with c id rows) (rows_with c id rows))) ≡ false
    by a true s f rest = cc f
    by true false s f rest = ap (λ x. x || has_id q (map (field d) (rows_with c id rows))) s ∙ rest f
    by false false s f rest = rest f

-- what is once in a column is listed from the one row that has it
pub listed-once : (c d : ℕ) (id q : List ℕ) (rows : List Row) → Once d rows
    → has_id q (map (field d) (rows_with c id rows)) ≡ is_at c id (row_with d q rows)
listed-once c d id q [] o = refl
listed-once c d id q (row ∷ rows) o =
    by (is_same id (field c row)) refl (is_same q (field d row)) refl (listed-once c d id q rows o.1)
  where
    by : (a : Bool) → is_same id (field c row) ≡ a → (b : Bool) → is_same q (field d row) ≡ b
        → has_id q (map (field d) (rows_with c id rows)) ≡ is_at c id (row_with d q rows)
        → has_id q (map (field d) (cond a (row ∷ rows_with c id rows) (rows_with c id rows)))
        ≡ is_at c id (cond b (Some row) (row_with d q rows))
    by true p true s rest = ap (λ x. x || has_id q (map (field d) (rows_with c id rows))) s ∙ sym p
    by true p false s rest = ap (λ x. x || has_id q (map (field d) (rows_with c id rows))) s ∙ rest
    by false p true s rest = not-listed c d id q rows (subst (λ (t : List ℕ). has_row d t rows ≡ false) (sym (same-text q (field d row) s)) o.0) ∙ sym p
    by false p false s rest = rest

-- and each is listed once
pub distinct-once : (c d : ℕ) (id : List ℕ) (rows : List Row) → Once d rows
    → are_distinct (map (field d) (rows_with c id rows)) ≡ true
distinct-once c d id [] o = refl
distinct-once c d id (row ∷ rows) o = by (is_same id (field c row)) (distinct-once c d id rows o.1)
  where
    by : (a : Bool) → are_distinct (map (field d) (rows_with c id rows)) ≡ true
        → are_distinct (map (field d) (cond a (row ∷ rows_with c id rows) (rows_with c id rows)))
        ≡ true
    by true rest = ap (λ x. not x && are_distinct (map (field d) (rows_with c id rows))) (not-listed c d id (field d row) rows o.0) ∙ rest
    by false rest = rest

-- QUEUES

-- the patrons of a queue
pub queue-patrons : (rows : List Row) → map (λ (h : Hold). h.patron) (map hold_in rows) ≡ map (field 1) rows
queue-patrons [] = refl
queue-patrons (row ∷ rows) = ap (λ (l : List (List ℕ)). field 1 row ∷ l) (queue-patrons rows)

pub held-listed : (id patron : List ℕ) (rows : List Row)
    → has_id patron (map (field 1) (rows_with 0 id rows)) ≡ has_hold id patron rows
held-listed id patron [] = refl
held-listed id patron (row ∷ rows) = by (is_same id (field 0 row)) (held-listed id patron rows)
  where
    by : (a : Bool) → has_id patron (map (field 1) (rows_with 0 id rows)) ≡ has_hold id patron rows
        → has_id patron (map (field 1) (cond a (row ∷ rows_with 0 id rows) (rows_with 0 id rows))) ≡ (a && is_same patron (field 1 row) || has_hold id patron rows)
    by true e = ap (λ x. is_same patron (field 1 row) || x) e
    by false e = e

pub distinct-held : (id : List ℕ) (rows : List Row) → OnceHeld rows
    → are_distinct (map (field 1) (rows_with 0 id rows)) ≡ true
distinct-held id [] o = refl
distinct-held id (row ∷ rows) o = by (is_same id (field 0 row)) refl (distinct-held id rows o.1)
  where
    by : (a : Bool) → is_same id (field 0 row) ≡ a → are_distinct (map (field 1) (rows_with 0 id rows)) ≡ true
        → are_distinct (map (field 1) (cond a (row ∷ rows_with 0 id rows) (rows_with 0 id rows))) ≡ true
    by true e rest =
        let none : has_hold id (field 1 row) rows ≡ false = subst (λ (t : List ℕ). has_hold t (field 1 row) rows ≡ false) (sym (same-text id (field 0 row) e)) o.0 in
        ap (λ x. not x && are_distinct (map (field 1) (rows_with 0 id rows))) (held-listed id (field 1 row) rows ∙ none) ∙ rest
    by false e rest = rest

-- the borrower isn't in the queue
pub borrower-apart : (loans : List Row) (id : List ℕ) (loan : Row) (rows : List Row) → row_with 1 id loans ≡ Some loan
    → AllByRecursion (λ (row : Row). is_borrower (field 1 row) (field 0 row) loans ≡ false) rows
    → has_hold id (field 0 loan) rows ≡ false
unfolding is_borrower
borrower-apart loans id loan [] lent a = refl
borrower-apart loans id loan (row ∷ rows) lent a = by (is_same id (field 0 row)) refl (is_same (field 0 loan) (field 1 row)) refl (borrower-apart loans id loan rows lent a.1)
  where
    by : (b : Bool) → is_same id (field 0 row) ≡ b → (c : Bool) → is_same (field 0 loan) (field 1 row) ≡ c → has_hold id (field 0 loan) rows ≡ false → (b && c || has_hold id (field 0 loan) rows) ≡ false
    by true p true s rest =
        let i : row_with 1 (field 0 row) loans ≡ Some loan = subst (λ (t : List ℕ). row_with 1 t loans ≡ Some loan) (same-text id (field 0 row) p) lent in
        let refused : is_of_patron (field 1 row) (Some loan) ≡ false = subst (λ (o : Option Row). is_of_patron (field 1 row) o ≡ false) i a.0 in
        let itself : is_same (field 1 row) (field 0 loan) ≡ true = subst (λ (t : List ℕ). is_same t (field 0 loan) ≡ true) (same-text (field 0 loan) (field 1 row) s) (same-itself (field 0 loan)) in
        cc
    by true p false s rest = rest
    by false p c s rest = rest

-- a fact of each hold of a queue
pub queue-all : (test : Hold → Bool) (id : List ℕ) (rows : List Row)
    → AllByRecursion (λ (row : Row). test (hold_in row) ≡ true) rows
    → list_all test (queue_of id rows) ≡ true
queue-all test id [] a = refl
queue-all test id (row ∷ rows) a = by (is_same id (field 0 row)) (queue-all test id rows a.1)
  where
    by : (b : Bool) → list_all test (queue_of id rows) ≡ true
        → list_all test (map hold_in (cond b (row ∷ rows_with 0 id rows) (rows_with 0 id rows)))
        ≡ true
    by true e = ap (λ x. x && list_all test (queue_of id rows)) a.0 ∙ e
    by false e = e

-- at most 9,999 wait
longer : (rows : List Row) (row : Row) → length (rows ++ row ∷ []) ≡ suc (length rows)
longer [] row = refl
longer (x ∷ xs) row = ap suc (longer xs row)

few-more : (id : List ℕ) (before : List Row) (row : Row)
    → length (rows_with 0 id before) ≤ QUEUE_MAX → is_full (field 0 row) before ≡ false
    → length (rows_with 0 id (before ++ row ∷ [])) ≤ QUEUE_MAX
unfolding is_full
few-more id before row few free = subst (λ (l : List Row). length l ≤ QUEUE_MAX) (sym (rows_with-more 0 id before row)) (by (is_same id (field 0 row)) refl)
  where
    by : (b : Bool) → is_same id (field 0 row) ≡ b
        → length (cond b (rows_with 0 id before ++ row ∷ []) (rows_with 0 id before)) ≤ QUEUE_MAX
    by true e =
        let below : nat_le QUEUE_MAX (length (rows_with 0 id before)) ≡ false = subst (λ (t : List ℕ). nat_le QUEUE_MAX (length (rows_with 0 t before)) ≡ false) (sym (same-text id (field 0 row) e)) free in
        let less : length (rows_with 0 id before) < QUEUE_MAX = leb-false QUEUE_MAX (length (rows_with 0 id before)) below in
        let more : length (rows_with 0 id before ++ row ∷ []) ≡ suc (length (rows_with 0 id before)) = longer (rows_with 0 id before) row in
        omega arith
    by false e = few

pub few-rows : (id : List ℕ) (before rows : List Row) → length (rows_with 0 id before) ≤ QUEUE_MAX
    → KeptFrom (λ (b : List Row) (row : Row). is_full (field 0 row) b ≡ false) before rows
    → length (rows_with 0 id (before ++ rows)) ≤ QUEUE_MAX
few-rows id before [] few k =
    subst (λ (l : List Row). length (rows_with 0 id l) ≤ QUEUE_MAX) (sym (append-nil before)) few
few-rows id before (row ∷ rows) few k =
    subst (λ (l : List Row). length (rows_with 0 id l) ≤ QUEUE_MAX) (append_assoc before (row ∷ []) rows) (few-rows id (before ++ row ∷ []) rows (few-more id before row few k.0) k.1)

pub as-many : (rows : List Row) → length (map hold_in rows) ≡ length rows
as-many [] = refl
as-many (row ∷ rows) = ap suc (as-many rows)
