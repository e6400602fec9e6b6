-- Reading the rows one after the other, as a loop does.
use Rattle.std.proofs.Common.{◌≡◌, ℕ, suc, ◌+◌, ◌≤◌, List, [], ◌∷◌, ◌++◌, Option, Some, Result, Ok, Err, None, Bool, true, false, cond, length, get_or, refl, subst, sym, ap, ◌∙◌, append_assoc, arith}
use Rattle.std.proofs.lemmas.List.{append-nil, length-append}
use Rattle.std.proofs.lemmas.Bool.{eqb-true, ltb-false}
use Rattle.std.specs.Prelude.{◌==◌, nat_lt, not, option_map, is_some}
use Rattle.csv_table.specs.declared.TableError.{TableError}
use Rattle.csv_table.specs.declared.TableError.TheVariants as table
use Rattle.journal_table.specs.Entry.{Entry, Numbered, NumberedFrom}
use Rattle.journal_table.specs.Journal.{◌>>=◌, Fails, line_at, lines_from, lines_of, numbered_line}
use Rattle.journal_table.specs.Number.{number_of}
use Rattle.journal_table.specs.Refusal.{table_refusal}
use Rattle.journal_table.specs.Stops.{Stops, unless_no_table}
use Rattle.journal_table.specs.declared.TheConstants.{CONNECTION_LIMIT, LINE_LIMIT}
use Rattle.journal_table.specs.declared.error.JournalError.{JournalError}
use Rattle.journal_table.specs.declared.error.JournalError.TheVariants as error

-- the lines of the rows that are left
abbrev pub lines_left : ℕ → Option ℕ → Option (List (List (List ℕ))) → Result (List Entry) JournalError
lines_left row before None = Err error.Table
lines_left row before (Some rows) = lines_from row before rows

-- what was read before, and what is still read
abbrev pub with_front : List Entry → Result (List Entry) JournalError → Result (List Entry) JournalError
with_front front read = read >>= λ rest. Ok (front ++ rest)

regroup : (front : List Entry) (line : Entry) (read : Result (List Entry) JournalError)
    → with_front front (read >>= λ rest. Ok (line ∷ rest)) ≡ with_front (front ++ line ∷ []) read
regroup front line (Ok rest) = ap Ok (simp append_assoc)
regroup front line (Err e) = refl

-- before any row
pub begins : (rows : Option (List (List (List ℕ)))) → with_front [] (lines_left 1 None rows) ≡ lines_of rows
begins None = refl
begins (Some rows) = by (lines_from 1 None rows)
  where
    by : (read : Result (List Entry) JournalError) → with_front [] read ≡ read
    by (Ok lines) = refl
    by (Err e) = refl

-- a row that gives a line
row-read : (front : List Entry) (before : Option ℕ) (fields : List (List ℕ)) (line : Entry)
    (new : Option (List (List (List ℕ)))) → line_at (length front + 1) before fields ≡ Ok line
    → with_front front (lines_left (length front + 1) before (option_map (λ rest. fields ∷ rest) new))
    ≡ with_front (front ++ line ∷ []) (lines_left (length (front ++ line ∷ []) + 1) (Some line.number) new)
row-read front before fields line None at = refl
row-read front before fields line (Some rest) at =
    let more : length (front ++ line ∷ []) ≡ length front + 1 = simp length-append in
    let next : length (front ++ line ∷ []) + 1 ≡ suc (length front + 1) = omega arith in
    rw (next, at) (regroup front line (lines_from (suc (length front + 1)) (Some line.number) rest))

pub goes_on : (old new : Option (List (List (List ℕ)))) (front : List Entry) (before : Option ℕ)
    (fields : List (List ℕ)) (line : Entry) (total : Result (List Entry) JournalError)
    → old ≡ option_map (λ rest. fields ∷ rest) new → line_at (length front + 1) before fields ≡ Ok line
    → with_front front (lines_left (length front + 1) before old) ≡ total
    → with_front (front ++ line ∷ []) (lines_left (length (front ++ line ∷ []) + 1) (Some line.number) new) ≡ total
goes_on old new front before fields line total was at so_far =
    sym (row-read front before fields line new at) ∙ (rw was at so_far)

-- a row that breaks a rule
row-broken : (front : List Entry) (before : Option ℕ) (fields : List (List ℕ)) (e : JournalError)
    (new : Option (List (List (List ℕ)))) → line_at (length front + 1) before fields ≡ Err e
    → with_front front (lines_left (length front + 1) before
    (option_map (λ rest. fields ∷ rest) new)) ≡ unless_no_table e new
row-broken front before fields e None at = refl
row-broken front before fields e (Some rest) at = rw at refl

stops : (old new : Option (List (List (List ℕ)))) (front : List Entry) (before : Option ℕ)
    (fields : List (List ℕ)) (e : JournalError) (total : Result (List Entry) JournalError)
    → old ≡ option_map (λ rest. fields ∷ rest) new → line_at (length front + 1) before fields ≡ Err e
    → with_front front (lines_left (length front + 1) before old) ≡ total → total ≡ unless_no_table e new
stops old new front before fields e total was at so_far = sym so_far ∙ rw was (row-broken front before fields e new at)

no-table : (new : Option (List (List (List ℕ)))) → unless_no_table error.Table new ≡ Err error.Table
no-table None = refl
no-table (Some rest) = refl

pub ends : (e : JournalError) (rows old new : Option (List (List (List ℕ)))) (front : List Entry)
    (before : Option ℕ) (fields : List (List ℕ))
    → old ≡ option_map (λ rest. fields ∷ rest) new → Fails e (line_at (length front + 1) before fields)
    → with_front front (lines_left (length front + 1) before old) ≡ lines_of rows → Stops e rows new
ends error.Memory rows old new front before fields was fails so_far = tt
ends error.Table rows old new front before fields was fails so_far =
    stops old new front before fields error.Table (lines_of rows) was fails so_far ∙ no-table new
ends (error.Rule row r) rows old new front before fields was fails so_far =
    stops old new front before fields (error.Rule row r) (lines_of rows) was fails so_far

-- rows that turn out to be no table
pub ends-refused : (e : TableError) (rows old new : Option (List (List (List ℕ))))
    (front : List Entry) (before : Option ℕ) → (e ≡ table.Table → old ≡ None)
    → with_front front (lines_left (length front + 1) before old) ≡ lines_of rows → Stops (table_refusal e) rows new
ends-refused table.Table rows old new front before refused so_far = sym so_far ∙ rw (refused refl) refl
ends-refused table.Memory rows old new front before refused so_far = tt

-- no row is left
pub is_done : (front : List Entry) (before : Option ℕ) (old : Option (List (List (List ℕ))))
    (total : Result (List Entry) JournalError) → old ≡ Some []
    → with_front front (lines_left (length front + 1) before old) ≡ total → total ≡ Ok front
is_done front before old total end so_far = sym so_far ∙ rw end (ap Ok (append-nil front))

-- a row that is passed over
pub still-some : {X : Type 0} (f : X → X) (old new : Option X) (b : Bool) → old ≡ option_map f new
    → b ≡ is_some old → b ≡ is_some new
still-some f old None b e h = h ∙ rw e refl
still-some f old (Some x) b e h = h ∙ rw e refl

pub none-of : {X : Type 0} (o : Option X) → is_some o ≡ false → o ≡ None
none-of None e = refl
none-of (Some x) e = cc e

-- what a reading that was stopped by a rule says, once the rest is known
pub told : (e : JournalError) (rows rest : Option (List (List (List ℕ)))) → is_some rest ≡ true
    → lines_of rows ≡ unless_no_table e rest → lines_of rows ≡ Err e
told e rows None some h = cc some
told e rows (Some more) some h = h

pub told-no-table : (e : JournalError) (rows rest : Option (List (List (List ℕ)))) → rest ≡ None
    → lines_of rows ≡ unless_no_table e rest → lines_of rows ≡ Err error.Table
told-no-table e rows rest none h = h ∙ rw none refl

-- what two steps that succeed did
pub bind-ok : {A B : Type 0} (r : Result A JournalError) (f : A → Result B JournalError) (y : B)
    → (r >>= f) ≡ Ok y → (x : A) × (r ≡ Ok x) × (f x ≡ Ok y)
bind-ok (Ok x) f y h = (x, refl, h)
bind-ok (Err e) f y h = cc h

pub guard-ok : {A : Type 0} (b : Bool) (e : JournalError) (r : Result A JournalError) (x : A)
    → cond b (Err e) r ≡ Ok x → (b ≡ false) × (r ≡ Ok x)
guard-ok true e r x h = cc h
guard-ok false e r x h = (refl, h)

number-after : (row n : ℕ) (fields : List (List ℕ)) (o : Option ℕ) (line : Entry)
    → numbered_line row (Some n) fields o ≡ Ok line → line.number ≡ n + 1
number-after row n fields None line h = cc h
number-after row n fields (Some m) line h =
    let (next, rest) = guard-ok (not (m == n + 1)) _ _ line h in
    let (short, is) = guard-ok (nat_lt CONNECTION_LIMIT (length (get_or fields 1 []))) _ _ line rest in
    let one : m ≡ n + 1 = eqb-true m (n + 1) (not-not _ next) in
    let same : line.number ≡ m = ok-number _ line is in
    same ∙ one
  where
    not-not : (b : Bool) → not b ≡ false → b ≡ true
    not-not true e = refl
    not-not false e = cc e

    ok-number : (a b : Entry) → ◌≡◌ {A = Result Entry JournalError} (Ok a) (Ok b) → b.number ≡ a.number
    ok-number a b e = let same : a ≡ b = cc e in ap (λ (l : Entry). l.number) (sym same)

line-after : (row n : ℕ) (fields : List (List ℕ)) (line : Entry)
    → line_at row (Some n) fields ≡ Ok line → line.number ≡ n + 1
line-after row n fields line h =
    let (below, rest) = guard-ok (nat_lt LINE_LIMIT row) _ _ line h in
    number-after row n fields (number_of (get_or fields 0 [])) line rest

numbered-from : (rows : List (List (List ℕ))) (row n : ℕ) (lines : List Entry)
    → lines_from row (Some n) rows ≡ Ok lines → NumberedFrom (n + 1) lines
numbered-from [] row n lines h = let none : lines ≡ [] = cc h in rw none tt
numbered-from (fields ∷ rows) row n lines h =
    let (line, at, more) = bind-ok (line_at row (Some n) fields) _ lines h in
    let (rest, below, is) = bind-ok (lines_from (suc row) (Some line.number) rows) _ lines more in
    let whole : line ∷ rest ≡ lines = cc is in
    let number = line-after row n fields line at in
    rw (← whole) (number, subst (λ (m : ℕ). NumberedFrom (m + 1) rest) number (numbered-from rows (suc row) line.number rest below))

-- the lines of a journal are numbered without gaps
pub numbered : (rows : List (List (List ℕ))) (lines : List Entry) → lines_from 1 None rows ≡ Ok lines → Numbered lines
numbered [] lines h = let none : lines ≡ [] = cc h in rw none tt
numbered (fields ∷ rows) lines h =
    let (line, at, more) = bind-ok (line_at 1 None fields) _ lines h in
    let (rest, below, is) = bind-ok (lines_from 2 (Some line.number) rows) _ lines more in
    let whole : line ∷ rest ≡ lines = cc is in
    rw (← whole) (numbered-from rows 2 line.number rest below)

pub numbered-lines : (rows : Option (List (List (List ℕ)))) (lines : List Entry)
    → lines_of rows ≡ Ok lines → Numbered lines
numbered-lines None lines h = cc h
numbered-lines (Some rows) lines h = numbered rows lines h

-- each row that gives a line is within the limit
few-from : (rows : List (List (List ℕ))) (row : ℕ) (before : Option ℕ) (lines : List Entry)
    → row ≤ LINE_LIMIT + 1 → lines_from row before rows ≡ Ok lines
    → row + length lines ≤ LINE_LIMIT + 1
few-from [] row before lines start h = let none : lines ≡ [] = cc h in rw none (omega arith)
few-from (fields ∷ rows) row before lines start h =
    let (line, at, more) = bind-ok (line_at row before fields) _ lines h in
    let (rest, below, is) = bind-ok (lines_from (suc row) (Some line.number) rows) _ lines more in
    let whole : line ∷ rest ≡ lines = cc is in
    let within = guard-ok (nat_lt LINE_LIMIT row) _ _ line at in
    let row_fits : row ≤ LINE_LIMIT = ltb-false LINE_LIMIT row within.0 in
    let so_many = few-from rows (suc row) (Some line.number) rest (omega arith) below in
    rw (← whole) (omega arith)

-- a journal has at most LINE_LIMIT lines
pub few-lines : (rows : Option (List (List (List ℕ)))) (lines : List Entry)
    → lines_of rows ≡ Ok lines → length lines ≤ LINE_LIMIT
few-lines None lines h = cc h
few-lines (Some rows) lines h = let all = few-from rows 1 None lines (omega arith) h in omega arith
