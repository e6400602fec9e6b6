-- A table that is read row by row.
use Rattle.std.proofs.Common.{◌≡◌, ℕ, suc, ◌+◌, List, [], ◌∷◌, ◌++◌, Option, Some, None, Result, Ok, Err, length, refl, sym, ap, ◌∙◌, add-one, append_assoc, arith, eqb-true}
use Rattle.std.proofs.lemmas.List.{append-nil}
use Rattle.std.specs.Prelude.{◌==◌, codes, false, true, IsSome, IfErr, IfOk, option_map}
use Rattle.std.specs.Option.{option_or}
use Rattle.std.specs.Result.{IsErrAnd}
use Rattle.csv.specs.Writing.{fields_text, is_blank}
use Rattle.csv_table.specs.Rows.{rows_under}
use Rattle.csv_table.proofs.Written.{written-back}
use Rattle.record_tables.specs.Base.{Fails, holds_rows_of, own_rows, table_rows}
use Rattle.record_tables.specs.Read.{StopsIn, rows_in, some_rows, text_rows, up_to}
use Rattle.record_tables.specs.Rules.{broken, broken_from}
use Rattle.record_tables.specs.Tables.{Row, Rows}
use Rattle.schema.specs.Names.{holds_header}
use Rattle.record_tables.specs.declared.fault.BaseError.{BaseError}
use Rattle.record_tables.specs.declared.fault.BaseError.TheVariants as error
use Rattle.circ_records.specs.declared.rule.BaseRule.{BaseRule}
use Rattle.schema.specs.declared.table_name.TableName.{TableName}
use Rattle.schema.specs.declared.table_name.TableName.TheVariants as table
use Rattle.schema.specs.declared.tables.Tables.{Tables}

-- where a table is read: some rows were added, and the others are left, where all of it is a table
pub record IsAt (all left : Option (List Row)) (Added : List Row → Type 0) : Type 0 where
  pub before : List Row
  pub split : all ≡ option_map (λ rest. before ++ rest) left
  pub added : Added before

-- n rows break no rule: the first that does is among those after them
abbrev pub Keeps : TableName → (List Row → Row → Option BaseRule) → ℕ → List Row → Type 0
Keeps name rule n before =
    (rest : List Row) → broken name rule (before ++ rest) ≡ broken_from name rule (suc n) before rest

-- before the first row
pub start-at : (all left : Option (List Row)) (Added : List Row → Type 0) → left ≡ all → Added [] → IsAt all left Added
start-at all None Added same none = record { before = []; split = sym same; added = none }
start-at all (Some xs) Added same none = record { before = []; split = sym same; added = none }

-- after a row that was read
pub step-at : (all left new : Option (List Row)) (row : Row) (Added More : List Row → Type 0)
    → IsAt all left Added → left ≡ option_map (λ rest. row ∷ rest) new
    → ((before : List Row) → Added before → More (before ++ row ∷ [])) → IsAt all new More
step-at all left new row Added More at was more = record {
  before = at.before ++ row ∷ [];
  split = at.split ∙ ap (option_map (λ rest. at.before ++ rest)) was ∙ by new;
  added = more at.before at.added;
}
  where
    by : (new : Option (List Row)) → option_map (λ rest. at.before ++ rest)
        (option_map (λ rest. row ∷ rest) new)
        ≡ option_map (λ rest. (at.before ++ row ∷ []) ++ rest) new
    by None = refl
    by (Some rest) = ap Some (sym (append_assoc at.before (row ∷ []) rest))

pub keeps-more : (name : TableName) (rule : List Row → Row → Option BaseRule) (n m : ℕ)
    (before : List Row) (row : Row) → rule before row ≡ None → m ≡ n + 1 → Keeps name rule n before
    → Keeps name rule m (before ++ row ∷ [])
keeps-more name rule n m before row none count keeps rest =
    ap (broken name rule) (append_assoc before (row ∷ []) rest) ∙ keeps (row ∷ rest)
    ∙ ap (λ o. option_or (option_map (λ r. error.Rule name (suc n) r row) o)
    (broken_from name rule (suc (suc n)) (before ++ row ∷ []) rest)) none
    ∙ ap (λ k. broken_from name rule (suc k) (before ++ row ∷ []) rest) (sym (count ∙ add-one n))

-- nobody waits before the first row
pub none-held : (name : TableName) (rows : Rows) → (up_to name rows []).holds ≡ []
none-held table.Patrons rows = refl
none-held table.Items rows = refl
none-held table.Loans rows = refl
none-held table.Fees rows = refl
none-held table.Closed rows = refl
none-held table.Holds rows = refl

-- a row that breaks a rule is the first, where all of it is a table
pub breaks-here : (name : TableName) (rule : List Row → Row → Option BaseRule) (n m : ℕ)
    (all left new : Option (List Row)) (row : Row) (r : BaseRule) (Added : List Row → Type 0)
    (at : IsAt all left Added)
    → left ≡ option_map (λ rest. row ∷ rest) new → m ≡ n + 1 → Keeps name rule n at.before
    → rule at.before row ≡ Some r → IsSome all
    → broken name rule (some_rows all) ≡ Some (error.Rule name m r row)
breaks-here name rule n m all left None row r Added at was count keeps some is =
    let none : all ≡ None = at.split ∙ ap (option_map (λ rest. at.before ++ rest)) was in cc
breaks-here name rule n m all left (Some rest) row r Added at was count keeps some is =
    ap (λ o. broken name rule (some_rows o)) (at.split ∙ ap (option_map (λ rest. at.before ++ rest)) was) ∙ keeps (row ∷ rest)
    ∙ ap (λ o. option_or (option_map (λ r. error.Rule name (suc n) r row) o)
    (broken_from name rule (suc (suc n)) (at.before ++ row ∷ []) rest)) some
    ∙ ap (λ k. Some (error.Rule name k r row)) (sym (count ∙ add-one n))

-- at the end
pub end-all : (all left : Option (List Row)) (Added : List Row → Type 0) (at : IsAt all left Added)
    → left ≡ Some [] → all ≡ Some at.before
end-all all left Added at end =
    at.split ∙ ap (option_map (λ rest. at.before ++ rest)) end ∙ ap Some (append-nil at.before)

-- the rows of one of the texts
pub own-read : (name : TableName) (t : Tables) → some_rows (text_rows name t) ≡ own_rows name (rows_in t)
own-read table.Patrons t = refl
own-read table.Items t = refl
own-read table.Loans t = refl
own-read table.Fees t = refl
own-read table.Closed t = refl
own-read table.Holds t = refl

pub own-all : (name : TableName) (t : Tables) (left : Option (List Row)) (Added : List Row → Type 0)
    (at : IsAt (text_rows name t) left Added) → left ≡ Some []
    → own_rows name (rows_in t) ≡ at.before
own-all name t left Added at end = sym (own-read name t) ∙ ap some_rows (end-all (text_rows name t) left Added at end)

pub keeps-all : (name : TableName) (rule : List Row → Row → Option BaseRule) (n : ℕ)
    (before : List Row) → Keeps name rule n before → broken name rule before ≡ None
keeps-all name rule n before keeps = ap (broken name rule) (sym (append-nil before)) ∙ keeps []

-- a text that is refused
left-none : (name t : TableName) (left : Option (List Row))
    → table_rows name left ≡ Err (error.Table t) → (left ≡ None) × (name ≡ t)
left-none name t None e = (refl, cc e)
left-none name t (Some xs) e = cc e

refuses : (e : BaseError) (name : TableName) (t : Tables) (left : Option (List Row))
    (Added : List Row → Type 0) (fault : Option BaseError) → IsAt (text_rows name t) left Added
    → Fails e (table_rows name left) → StopsIn e name t fault
refuses error.Memory name t left Added fault at h = tt
refuses (error.Table n) name t left Added fault at h =
    let (none, same) = left-none name n left h in
    ap (table_rows name) (at.split ∙ ap (option_map (λ rest. at.before ++ rest)) none) ∙ ap (λ n. Err (error.Table n)) same
refuses (error.Rule n k rule values) name t None Added fault at h = cc h
refuses (error.Rule n k rule values) name t (Some xs) Added fault at h = cc h

-- the same as it is passed on
pub refused : {A : Type 0} (r : Result A BaseError) (e : BaseError) (name named : TableName)
    (t : Tables) (left : Option (List Row)) (Added : List Row → Type 0) (fault : Option BaseError)
    → IsErrAnd r (λ x. x ≡ e) → named ≡ name → IsAt (text_rows name t) left Added
    → Fails e (table_rows named left) → IfErr r (λ x. StopsIn x name t fault)
refused (Ok x) e name named t left Added fault is same at h = absurd is
refused (Err x) e name named t left Added fault is same at h =
    rw is (refuses e name t left Added fault at (rw same at h))

-- a text of holds that is its header, and one that has no bytes
pub header-alone : (text : List ℕ) (size : ℕ) → length text ≡ size → (size == 0) ≡ true → rows_under holds_header (codes "item,patron,pickup\n") ≡ holds_rows_of text
unfolding fields_text is_blank
header-alone [] size same none = written-back holds_header [] (omega arith, refl) tt
header-alone (b ∷ text) size same none = absurd (omega (arith, same, eqb-true size 0 none))

-- a text of holds that has bytes
pub holds-read : (text : List ℕ) (left : Option (List Row)) (size : ℕ)
    → left ≡ rows_under holds_header text → length text ≡ size → (size == 0) ≡ false
    → left ≡ holds_rows_of text
holds-read [] left size is same some = cc (same, some)
holds-read (b ∷ text) left size is same some = is

-- what holds of a value by two facts
pub both-ok : {A E : Type 0} (r : Result A E) (P Q R : A → Type 0) → ((x : A) → P x → Q x → R x)
    → IfOk r P → IfOk r Q → IfOk r R
both-ok (Ok x) P Q R h p q = h x p q
both-ok (Err e) P Q R h p q = tt
