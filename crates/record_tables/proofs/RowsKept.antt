-- What holds of rows none of which breaks a rule.
use Rattle.std.proofs.Common.{◌≡◌, ℕ, suc, List, [], ◌∷◌, ◌++◌, Bool, true, false, cond, Option, Some, None, refl, subst, ap, ◌∙◌}
use Rattle.std.proofs.lemmas.Bool.{or_left, or_right}
use Rattle.std.specs.Prelude.{is_some, option_map, ◌&&◌, ◌||◌}
use Rattle.std.specs.List.{AllByRecursion, find}
use Rattle.std.specs.Option.{option_or}
use Rattle.std.proofs.lemmas.List.Folds.{list_any-append}
use Rattle.record_tables.specs.Rules.{broken_from, has_hold, has_row}
use Rattle.record_tables.specs.Tables.{Row, field}
use Rattle.circ_records.specs.Texts.{is_same}
use Rattle.record_tables.specs.declared.fault.BaseError.{BaseError}
use Rattle.record_tables.specs.declared.fault.BaseError.TheVariants as error
use Rattle.circ_records.specs.declared.rule.BaseRule.{BaseRule}
use Rattle.schema.specs.declared.table_name.TableName.{TableName}
use Rattle.circ_records.proofs.SameTexts.{same-text, same-itself}

-- a fact of each row after the rows before it
abbrev pub KeptFrom : (List Row → Row → Type 0) → List Row → List Row → Type 0
KeptFrom P before [] = Unit {0}
KeptFrom P before (row ∷ rows) = P before row × KeptFrom P (before ++ row ∷ []) rows

first-none : (g : BaseRule → BaseError) (o : Option BaseRule) (p : Option BaseError)
    → option_or (option_map g o) p ≡ None → (o ≡ None) × (p ≡ None)
first-none g None p e = (refl, e)
first-none g (Some r) p e = cc e

pub kept-from : (table : TableName) (rule : List Row → Row → Option BaseRule)
    (P : List Row → Row → Type 0)
    → ((before : List Row) (row : Row) → rule before row ≡ None → P before row)
    → (n : ℕ) (before rows : List Row) → broken_from table rule n before rows ≡ None → KeptFrom P before rows
kept-from table rule P h n before [] e = tt
kept-from table rule P h n before (row ∷ rows) e =
    let f = first-none (λ r. error.Rule table n r row) (rule before row) (broken_from table rule (suc n) (before ++ row ∷ []) rows) e in
    (h before row f.0, kept-from table rule P h (suc n) (before ++ row ∷ []) rows f.1)

-- a fact of each row
pub each : (P : List Row → Row → Type 0) (Q : Row → Type 0)
    → ((before : List Row) (row : Row) → P before row → Q row) → (before rows : List Row)
    → KeptFrom P before rows → AllByRecursion Q rows
each P Q h before [] k = tt
each P Q h before (row ∷ rows) k = (h before row k.0, each P Q h (before ++ row ∷ []) rows k.1)

pub kept-less : (P Q : List Row → Row → Type 0)
    → ((before : List Row) (row : Row) → P before row → Q before row) → (before rows : List Row)
    → KeptFrom P before rows → KeptFrom Q before rows
kept-less P Q h before [] k = tt
kept-less P Q h before (row ∷ rows) k = (h before row k.0, kept-less P Q h (before ++ row ∷ []) rows k.1)

-- of the row that is found
pub found : (test : Row → Bool) (Q : Row → Type 0) (rows : List Row) (row : Row)
    → find test rows ≡ Some row → AllByRecursion Q rows → Q row × (test row ≡ true)
found test Q [] row e a = cc e
found test Q (x ∷ xs) row e a = by (test x) refl e (λ f. found test Q xs row f a.1)
  where
    by : (b : Bool) → test x ≡ b → cond b (Some x) (find test xs) ≡ Some row
        → (find test xs ≡ Some row → Q row × (test row ≡ true)) → Q row × (test row ≡ true)
    by true t f rest = let same : x ≡ row = cc f in (subst Q same a.0, subst (λ (r : Row). test r ≡ true) same t)
    by false t f rest = rest f

-- IDS THAT OCCUR ONCE IN A COLUMN

-- a row's text wasn't in the column before
abbrev pub Fresh : ℕ → List Row → Row → Type 0
Fresh column before row = has_row column (field column row) before ≡ false

-- nor is it there later
abbrev pub Once : ℕ → List Row → Type 0
Once column [] = Unit {0}
Once column (row ∷ rows) = (has_row column (field column row) rows ≡ false) × Once column rows

has_row-more : (column : ℕ) (text : List ℕ) (rows : List Row) (row : Row) → has_row column text (rows ++ row ∷ []) ≡ (has_row column text rows || is_same text (field column row))
has_row-more column text [] row = by (is_same text (field column row))
  where
    by : (b : Bool) → is_some (cond b (Some row) None) ≡ b
    by true = refl
    by false = refl
has_row-more column text (x ∷ xs) row = by (is_same text (field column x)) (has_row-more column text xs row)
  where
    by : (b : Bool) → has_row column text (xs ++ row ∷ []) ≡ (has_row column text xs || is_same text (field column row))
        → is_some (cond b (Some x) (find (λ (r : Row). is_same text (field column r)) (xs ++ row ∷ []))) ≡ (is_some (cond b (Some x) (find (λ (r : Row). is_same text (field column r)) xs)) || is_same text (field column row))
    by true e = refl
    by false e = e

apart : (column : ℕ) (text : List ℕ) (before rows : List Row) → has_row column text before ≡ true
    → KeptFrom (Fresh column) before rows → has_row column text rows ≡ false
apart column text before [] there k = refl
apart column text before (row ∷ rows) there k =
    by (is_same text (field column row)) refl
    (apart column text (before ++ row ∷ []) rows (has_row-more column text before row ∙ or_left (has_row column text before) (is_same text (field column row)) there) k.1)
  where
    by : (b : Bool) → is_same text (field column row) ≡ b → has_row column text rows ≡ false
        → is_some (cond b (Some row) (find (λ (r : Row). is_same text (field column r)) rows))
        ≡ false
    by true e rest =
        let same : has_row column (field column row) before ≡ true = subst (λ (t : List ℕ). has_row column t before ≡ true) (same-text text (field column row) e) there in
        let fresh : has_row column (field column row) before ≡ false = k.0 in
        cc
    by false e rest = rest

pub once : (column : ℕ) (before rows : List Row) → KeptFrom (Fresh column) before rows → Once column rows
once column before [] k = tt
once column before (row ∷ rows) k = (
  apart column (field column row) (before ++ row ∷ []) rows
      (has_row-more column (field column row) before row ∙ or_right (has_row column (field column row) before) (is_same (field column row) (field column row)) (same-itself (field column row))) k.1,
  once column (before ++ row ∷ []) rows k.1,
)

-- HOLDS THAT OCCUR ONCE

abbrev pub FreshHold : List Row → Row → Type 0
FreshHold before row = has_hold (field 0 row) (field 1 row) before ≡ false

abbrev pub OnceHeld : List Row → Type 0
OnceHeld [] = Unit {0}
OnceHeld (row ∷ rows) = (has_hold (field 0 row) (field 1 row) rows ≡ false) × OnceHeld rows

has_hold-more : (item patron : List ℕ) (rows : List Row) (row : Row) → has_hold item patron (rows ++ row ∷ []) ≡ (has_hold item patron rows || (is_same item (field 0 row) && is_same patron (field 1 row) || false))
has_hold-more item patron rows row =
    list_any-append (λ (r : Row). is_same item (field 0 r) && is_same patron (field 1 r)) rows (row ∷ [])

both-same : (a b : Bool) → (a && b) ≡ true → (a ≡ true) × (b ≡ true)
both-same true b e = (refl, e)
both-same false b e = cc e

pub held-apart : (item patron : List ℕ) (before rows : List Row)
    → has_hold item patron before ≡ true → KeptFrom FreshHold before rows
    → has_hold item patron rows ≡ false
held-apart item patron before [] there k = refl
held-apart item patron before (row ∷ rows) there k =
    by (is_same item (field 0 row) && is_same patron (field 1 row)) refl
    (held-apart item patron (before ++ row ∷ []) rows
    (has_hold-more item patron before row ∙ or_left (has_hold item patron before) (is_same item (field 0 row) && is_same patron (field 1 row) || false) there) k.1)
  where
    by : (b : Bool) → (is_same item (field 0 row) && is_same patron (field 1 row)) ≡ b → has_hold item patron rows ≡ false → (b || has_hold item patron rows) ≡ false
    by true e rest =
        let p = both-same (is_same item (field 0 row)) (is_same patron (field 1 row)) e in
        let i : has_hold (field 0 row) patron before ≡ true = subst (λ (t : List ℕ). has_hold t patron before ≡ true) (same-text item (field 0 row) p.0) there in
        let same : has_hold (field 0 row) (field 1 row) before ≡ true = subst (λ (t : List ℕ). has_hold (field 0 row) t before ≡ true) (same-text patron (field 1 row) p.1) i in
        let fresh : has_hold (field 0 row) (field 1 row) before ≡ false = k.0 in
        cc
    by false e rest = rest

itself : (a b : Bool) → a ≡ true → b ≡ true → (a && b || false) ≡ true
itself true b p q = ap (λ c. c || false) q
itself false b p q = cc p

pub once-held : (before rows : List Row) → KeptFrom FreshHold before rows → OnceHeld rows
once-held before [] k = tt
once-held before (row ∷ rows) k = (
  held-apart (field 0 row) (field 1 row) (before ++ row ∷ []) rows
      (has_hold-more (field 0 row) (field 1 row) before row
      ∙ or_right (has_hold (field 0 row) (field 1 row) before) (is_same (field 0 row) (field 0 row) && is_same (field 1 row) (field 1 row) || false)
      (itself (is_same (field 0 row) (field 0 row)) (is_same (field 1 row) (field 1 row)) (same-itself (field 0 row)) (same-itself (field 1 row)))) k.1,
  once-held (before ++ row ∷ []) rows k.1,
)
