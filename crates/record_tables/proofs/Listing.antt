-- The list of broken rules, as a loop over the rows makes it.
use Rattle.std.proofs.Common.{◌≡◌, ℕ, suc, ◌+◌, List, [], ◌∷◌, ◌++◌, Some, None, Option, length, refl, sym, ap, ◌∙◌, arith, subst}
use Rattle.std.specs.Prelude.{option_map}
use Rattle.std.proofs.lemmas.List.{append_assoc, append-nil, length-append}
use Rattle.record_tables.specs.Tables.{Row}
use Rattle.record_tables.specs.declared.fault.BaseError.{BaseError}
use Rattle.circ_records.specs.declared.rule.BaseRule.{BaseRule}
use Rattle.schema.specs.declared.table_name.TableName.{TableName}
use Rattle.record_tables.specs.AllBroken.{broken_rows, broken_rows_from, row_fault}

-- Within a table: some rows were judged, by this rule, and the others are left. What is listed,
-- with what these add, is all that is due.
pub record IsWithin (table : TableName) (rule : List Row → Row → Option BaseRule) (rows : List Row) (Judged : List Row → Type 0) (left : Option (List Row)) (count : ℕ) (old now : List BaseError) : Type 0 where
  pub before : List Row
  pub rest : List Row
  pub all : rows ≡ before ++ rest
  pub left_over : left ≡ Some rest
  pub judged : Judged before
  pub counted : count ≡ length before
  pub due : now ++ broken_rows_from table rule (suc count) before rest ≡ old ++ broken_rows table rule rows

some-same : {A : Type 0} (x y : A) → Some x ≡ Some y → x ≡ y
some-same x y e = cc e

first-left : (rest : List Row) (new : Option (List Row)) (row : Row)
    → Some rest ≡ option_map (λ rest. row ∷ rest) new
    → (more : List Row) × (new ≡ Some more) × (rest ≡ row ∷ more)
first-left rest None row e = cc e
first-left rest (Some more) row e = (more, refl, some-same _ _ e)

-- before the first row
pub before-rows : (table : TableName) (rule : List Row → Row → Option BaseRule) (rows : List Row)
    (Judged : List Row → Type 0) (left : Option (List Row)) (old : List BaseError)
    → left ≡ Some rows → Judged [] → IsWithin table rule rows Judged left 0 old old
before-rows table rule rows Judged left old is judged =
    record { before = []; rest = rows; all = refl; left_over = is; judged = judged; counted = refl; due = refl }

one-more : (before : List Row) (row : Row) (more : List Row) → before ++ (row ∷ more) ≡ (before ++ row ∷ []) ++ more
one-more before row more = sym (append_assoc before (row ∷ []) more)

one-longer : (before : List Row) (row : Row) → length before + 1 ≡ length (before ++ row ∷ [])
one-longer before row = sym (length-append before (row ∷ []))

-- after one row more, which was judged
pub after-row : (table : TableName) (rule : List Row → Row → Option BaseRule) (rows : List Row)
    (Judged More : List Row → Type 0) (left new : Option (List Row)) (row : Row) (count m : ℕ)
    (old now next : List BaseError) → IsWithin table rule rows Judged left count old now → left ≡ option_map (λ rest. row ∷ rest) new → m ≡ count + 1
    → ((before : List Row) → Judged before → next ≡ now ++ row_fault table m row (rule before row))
    → ((before : List Row) → Judged before → More (before ++ row ∷ []))
    → IsWithin table rule rows More new m old next
after-row table rule rows Judged More left new row count m old now next w was more lists after =
    let (rest, is, front) = first-left w.rest new row (sym w.left_over ∙ was) in
    let number : m ≡ suc count = omega (arith, more) in
    let from = broken_rows_from table rule (suc m) (w.before ++ row ∷ []) rest in
    let step : next ++ from ≡ now ++ broken_rows_from table rule (suc count) w.before (row ∷ rest) =
    ap (λ xs. xs ++ from) (lists w.before w.judged) ∙ append_assoc now (row_fault table m row (rule w.before row)) from
    ∙ ap (λ k. now ++ (row_fault table k row (rule w.before row)
    ++ broken_rows_from table rule (suc k) (w.before ++ row ∷ []) rest)) number in
    record {
      before = w.before ++ row ∷ [];
      rest = rest;
      all = w.all ∙ ap (λ xs. w.before ++ xs) front ∙ one-more w.before row rest;
      left_over = is;
      judged = after w.before w.judged;
      counted = more ∙ ap (λ k. k + 1) w.counted ∙ one-longer w.before row;
      due = step ∙ ap (λ xs. now ++ broken_rows_from table rule (suc count) w.before xs) (sym front) ∙ w.due;
    }

module _ (table : TableName) (rule : List Row → Row → Option BaseRule) (rows : List Row) (Judged : List Row → Type 0) (left : Option (List Row)) (count : ℕ) (old now : List BaseError) where
  none-left : (w : IsWithin table rule rows Judged left count old now) → left ≡ Some [] → w.rest ≡ []
  none-left w end = some-same _ _ (sym w.left_over ∙ end)

  all-judged : (w : IsWithin table rule rows Judged left count old now) → left ≡ Some [] → w.before ≡ rows
  all-judged w end = sym (append-nil w.before) ∙ ap (λ xs. w.before ++ xs) (sym (none-left w end)) ∙ sym w.all

  -- after the last row: all that is due is listed
  pub listed-all : IsWithin table rule rows Judged left count old now → left ≡ Some []
      → now ≡ old ++ broken_rows table rule rows
  listed-all w end = sym (append-nil now) ∙ ap (λ xs. now ++ broken_rows_from table rule (suc count) w.before xs) (sym (none-left w end)) ∙ w.due

  -- all rows were judged
  pub judged-all : IsWithin table rule rows Judged left count old now → left ≡ Some [] → Judged rows
  judged-all w end = subst Judged (all-judged w end) w.judged

  -- and counted
  pub counted-all : IsWithin table rule rows Judged left count old now → left ≡ Some [] → count ≡ length rows
  counted-all w end = w.counted ∙ ap (λ (xs : List Row). length xs) (all-judged w end)
