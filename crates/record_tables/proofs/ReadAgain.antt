-- What was written of coherent records is read again.
use Rattle.std.proofs.Common.{◌≡◌, ◌<◌, ℕ, List, [], ◌∷◌, Bool, true, false, cond, Option, Some, None, Ok, length, refl, sym, ap, arith}
use Rattle.std.specs.List.{AllByRecursion, cons_option, flat_map}
use Rattle.std.specs.Prelude.{option_map}
use Rattle.csv_table.specs.Rows.{rows_under}
use Rattle.csv_table.specs.Text.{IsPlainHeader, table_text}
use Rattle.csv_table.proofs.Written.{written-back}
use Rattle.circ_policy.specs.Terms.{Terms}
use Rattle.record_tables.specs.Base.{base_of, first_broken, rows_of, table_rows, unless_broken}
use Rattle.record_tables.specs.Base as Base
use Rattle.circ_records.specs.Coherent.{AreOfKind, Coherent}
use Rattle.circ_records.specs.Records.{AreRising, Entries, record_at}
use Rattle.record_tables.specs.Tables.{Row}
use Rattle.schema.specs.Names.{patrons_header, items_header, loans_header, fees_header, closed_header, holds_header}
use Rattle.record_tables.specs.Written.{closed_row, closed_rows, fee_row, fee_rows, hold_rows, is_open, item_rows, listed_fees, listed_loans, loan_at, loan_row, loan_rows, open_fee_at, patron_rows, queued, rows_telling, tables_of}
use Rattle.circ_records.specs.declared.holds.Hold.{Hold}
use Rattle.circ_records.specs.declared.key.Key.{Key}
use Rattle.circ_records.specs.declared.record.Fee.{Fee}
use Rattle.circ_records.specs.declared.record.Record.{Record}
use Rattle.record_tables.proofs.Entering.{same-entries}
use Rattle.record_tables.proofs.Entries.{by-fee, by-item, by-patron, each-given}
use Rattle.record_tables.proofs.ToldBack.{told-back}
use Rattle.record_tables.proofs.Unbroken.{none-broken}

-- HEADERS THAT DON'T BEGIN AS A BYTE ORDER MARK DOES

plain-patrons : IsPlainHeader patrons_header
plain-patrons = (omega arith, refl)

plain-items : IsPlainHeader items_header
plain-items = (omega arith, refl)

plain-loans : IsPlainHeader loans_header
plain-loans = (omega arith, refl)

plain-fees : IsPlainHeader fees_header
plain-fees = (omega arith, refl)

plain-closed : IsPlainHeader closed_header
plain-closed = (omega arith, refl)

plain-holds : IsPlainHeader holds_header
plain-holds = (omega arith, refl)

-- ROWS AS LONG AS THEIR HEADERS

abbrev Long : ℕ → Row → Type 0
Long n row = length row ≡ n

patrons-long : (x : Key × Record) → AllByRecursion (Long 4) (patron_rows x)
patrons-long = by-patron (λ x. AllByRecursion (Long 4)) _ (λ x. tt) (λ id p. (refl, tt))

items-long : (x : Key × Record) → AllByRecursion (Long 5) (item_rows x)
items-long = by-item (λ x. AllByRecursion (Long 5)) _ (λ x. tt) (λ id i. (refl, tt))

one-long : {A : Type 0} (n : ℕ) (f : A → Row) (o : Option A) (rest : List Row)
    → ((x : A) → length (f x) ≡ n) → AllByRecursion (Long n) rest
    → AllByRecursion (Long n) (cons_option (option_map f o) rest)
one-long n f None rest h all = all
one-long n f (Some x) rest h all = (h x, all)

listed-loans-long : (es : Entries) (id : List ℕ) (ids : List (List ℕ))
    → AllByRecursion (Long 4) (listed_loans es id ids)
listed-loans-long es id [] = tt
listed-loans-long es id (x ∷ xs) =
    one-long 4 (loan_row id x) (loan_at es x) (listed_loans es id xs) (λ l. refl) (listed-loans-long es id xs)

loans-long : (es : Entries) (x : Key × Record) → AllByRecursion (Long 4) (loan_rows es x)
loans-long es = by-patron (λ x. AllByRecursion (Long 4)) _ (λ x. tt) (λ id p. listed-loans-long es id p.loans)

listed-fees-long : (es : Entries) (id : List ℕ) (ids : List (List ℕ)) → AllByRecursion (Long 5) (listed_fees es id ids)
listed-fees-long es id [] = tt
listed-fees-long es id (x ∷ xs) =
    one-long 5 (fee_row id x) (open_fee_at es x) (listed_fees es id xs) (λ f. refl) (listed-fees-long es id xs)

fees-long : (es : Entries) (x : Key × Record) → AllByRecursion (Long 5) (fee_rows es x)
fees-long es = by-patron (λ x. AllByRecursion (Long 5)) _ (λ x. tt) (λ id p. listed-fees-long es id p.fees)

closed-long : (id : List ℕ) (f : Fee) (b : Bool) → AllByRecursion (Long 4) (cond b [] (closed_row id f ∷ []))
closed-long id f true = tt
closed-long id f false = (refl, tt)

closes-long : (x : Key × Record) → AllByRecursion (Long 4) (closed_rows x)
closes-long = by-fee (λ x. AllByRecursion (Long 4)) _ (λ x. tt) (λ id f. closed-long id f (is_open f))

queued-long : (id : List ℕ) (holds : List Hold) → AllByRecursion (Long 3) (queued id holds)
queued-long id [] = tt
queued-long id (h ∷ hs) = (refl, queued-long id hs)

holds-long : (x : Key × Record) → AllByRecursion (Long 3) (hold_rows x)
holds-long = by-item (λ x. AllByRecursion (Long 3)) _ (λ x. tt) (λ id i. queued-long id i.holds)

-- a text that isn't empty
with-rows : (text : List ℕ) (rows : List Row) → 0 < length text
    → rows_under holds_header text ≡ Some rows → Base.holds_rows_of text ≡ Some rows
with-rows [] rows some is = absurd (omega arith)
with-rows (b ∷ text) rows some is = is

some-text : (rows : List Row) → 0 < length (table_text (holds_header ∷ rows))
some-text rows = omega arith

module _ (policy : Terms) (n : ℕ) (es : Entries) (rising : AreRising es) (co : Coherent policy n es) (kinds : AreOfKind (record_at es)) where
  read-rows : rows_of (tables_of es) ≡ Ok (rows_telling es)
  unfolding rows_of rows_telling
  read-rows =
      let patrons = written-back patrons_header (flat_map patron_rows es) plain-patrons (each-given (Long 4) patron_rows es rising (λ x at. patrons-long x)) in
      let items = written-back items_header (flat_map item_rows es) plain-items (each-given (Long 5) item_rows es rising (λ x at. items-long x)) in
      let loans = written-back loans_header (flat_map (loan_rows es) es) plain-loans (each-given (Long 4) (loan_rows es) es rising (λ x at. loans-long es x)) in
      let fees = written-back fees_header (flat_map (fee_rows es) es) plain-fees (each-given (Long 5) (fee_rows es) es rising (λ x at. fees-long es x)) in
      let closed = written-back closed_header (flat_map closed_rows es) plain-closed (each-given (Long 4) closed_rows es rising (λ x at. closes-long x)) in
      let holds = written-back holds_header (flat_map hold_rows es) plain-holds (each-given (Long 3) hold_rows es rising (λ x at. holds-long x)) in
      rw (patrons, items, loans, fees, closed, with-rows (table_text (holds_header ∷ flat_map hold_rows es)) (flat_map hold_rows es) (some-text (flat_map hold_rows es)) holds) refl

  pub read-again : base_of policy (tables_of es) None ≡ Ok es
  unfolding base_of
  read-again = rw (read-rows, none-broken policy n es rising co kinds) (ap Ok (sym (same-entries (rows_telling es) es rising (λ k. sym (told-back policy n es rising co kinds k)))))
