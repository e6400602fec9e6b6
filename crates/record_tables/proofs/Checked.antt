-- A check of tables, table by table.
use Rattle.std.proofs.Common.{◌≡◌, ℕ, List, [], ◌∷◌, ◌++◌, true, false, Some, None, Option, Result, Ok, Err, length, refl, sym, ap, ◌∙◌, arith}
use Rattle.std.specs.Prelude.{◌==◌, IsSome}
use Rattle.std.specs.List.{slice_get}
use Rattle.std.specs.Result.{result_err}
use Rattle.std.proofs.lemmas.Bool.{eqb-true}
use Rattle.std.proofs.lemmas.List.{append-nil, append_assoc}
use Rattle.csv_table.specs.Rows.{rows_under}
use Rattle.circ_policy.specs.Terms.{Terms}
use Rattle.record_tables.specs.Base.{holds_rows_of, rows_of}
use Rattle.record_tables.specs.Read.{AreTables, rows_in, some_rows}
use Rattle.record_tables.specs.Tables.{Row, Rows}
use Rattle.schema.specs.Texts.{Texts, texts_of}
use Rattle.schema.specs.Names.{closed_header, fees_header, items_header, loans_header, patrons_header}
use Rattle.record_tables.specs.declared.fault.BaseError.{BaseError}
use Rattle.schema.specs.declared.table_name.TableName.{TableName}
use Rattle.schema.specs.declared.table_name.TableName.TheVariants as table
use Rattle.schema.specs.declared.tables.Tables.{Tables}
use Rattle.record_tables.proofs.Stopped.{tables-read}
use Rattle.record_tables.specs.AllBroken.{all_broken_rows, broken_in, broken_rules, no_tables, text_fault}
use Rattle.record_tables.specs.Sizes.{AreSizes, sizes_of}
use Rattle.record_tables.specs.declared.sizes.TableSizes.{TableSizes}
use Rattle.record_tables.proofs.First.{first-of-texts}

-- the rows of a text that is a table
pub some-rows : (o : Option (List Row)) → IsSome o → o ≡ Some (some_rows o)
some-rows None is = cc is
some-rows (Some rows) is = refl

-- six lists, one after the other
pub six : (b0 b1 b2 b3 b4 b5 b6 p i l f c h : List BaseError) → b0 ≡ [] → b1 ≡ b0 ++ p
    → b2 ≡ b1 ++ i → b3 ≡ b2 ++ l → b4 ≡ b3 ++ f → b5 ≡ b4 ++ c → b6 ≡ b5 ++ h
    → b6 ≡ p ++ (i ++ (l ++ (f ++ (c ++ h))))
six b0 b1 b2 b3 b4 b5 b6 p i l f c h e0 e1 e2 e3 e4 e5 e6 =
    e6 ∙ ap (λ xs. xs ++ h) e5 ∙ append_assoc b4 c h
    ∙ ap (λ xs. xs ++ (c ++ h)) e4 ∙ append_assoc b3 f (c ++ h)
    ∙ ap (λ xs. xs ++ (f ++ (c ++ h))) e3 ∙ append_assoc b2 l (f ++ (c ++ h))
    ∙ ap (λ xs. xs ++ (l ++ (f ++ (c ++ h)))) e2 ∙ append_assoc b1 i (l ++ (f ++ (c ++ h)))
    ∙ ap (λ xs. xs ++ (i ++ (l ++ (f ++ (c ++ h))))) e1 ∙ append_assoc b0 p (i ++ (l ++ (f ++ (c ++ h))))
    ∙ ap (λ xs. xs ++ (p ++ (i ++ (l ++ (f ++ (c ++ h)))))) e0

pub same-sizes : (p q i j l m f g c d h k : ℕ) → p ≡ q → i ≡ j → l ≡ m → f ≡ g → c ≡ d → h ≡ k
    → ◌≡◌ {A = TableSizes} (record {
      patrons = p;
      items = i;
      loans = l;
      fees = f;
      closed = c;
      holds = h;
    }) (record { patrons = q; items = j; loans = m; fees = g; closed = d; holds = k })
same-sizes p q i j l m f g c d h k ep ei el ef ec eh = rw (ep, ei, el, ef, ec, eh) refl

-- TEXTS

pub no-faults : (faults : List BaseError) → (length faults == 0) ≡ true → faults ≡ []
no-faults [] e = refl
no-faults (x ∷ xs) e = absurd (omega (arith, eqb-true (length (x ∷ xs)) 0 e))

pub some-faults : (faults : List BaseError) → (length faults == 0) ≡ false → faults ≡ [] → ⊥
some-faults [] e is = cc e
some-faults (x ∷ xs) e is = cc is

a-table : (name : TableName) (o : Option (List Row)) (rest : List BaseError)
    → text_fault name o ++ rest ≡ [] → IsSome o × (rest ≡ [])
a-table name None rest e = cc e
a-table name (Some rows) rest e = (refl, e)

pub tables-of : (t : Tables) → no_tables (texts_of t) ≡ [] → AreTables t
unfolding no_tables
tables-of t none =
    let p = a-table table.Patrons (rows_under patrons_header t.patrons.items) _ none in
    let i = a-table table.Items (rows_under items_header t.items.items) _ p.1 in
    let l = a-table table.Loans (rows_under loans_header t.loans.items) _ i.1 in
    let f = a-table table.Fees (rows_under fees_header t.fees.items) _ l.1 in
    let c = a-table table.Closed (rows_under closed_header t.closed.items) _ f.1 in
    let h = a-table table.Holds (holds_rows_of t.holds.items) [] (append-nil _ ∙ c.1) in
    record { patrons = p.0; items = i.0; loans = l.0; fees = f.0; closed = c.0; holds = h.0 }

-- all texts are tables
pub broken-in-rows : (policy : Terms) (t : Tables) (first : Option ℕ) → no_tables (texts_of t) ≡ []
    → all_broken_rows policy first (rows_in t) ≡ broken_rules policy (texts_of t) first
unfolding broken_rules
broken-in-rows policy t first none = sym (ap (broken_in policy first (texts_of t)) (tables-read t (tables-of t none)))

ok-same : {A : Type 0} (x y : A) → ◌≡◌ {A = Result A BaseError} (Ok x) (Ok y) → x ≡ y
ok-same x y e = cc e

pub sizes-of-rows : (t : Tables) (sizes : TableSizes) → no_tables (texts_of t) ≡ []
    → sizes ≡ sizes_of (rows_in t) → AreSizes (texts_of t) sizes
sizes-of-rows t sizes none is =
    λ rows ok. is ∙ ap sizes_of (ok-same (rows_in t) rows (sym (tables-read t (tables-of t none)) ∙ ok))

none-first : (faults : List BaseError) → slice_get faults 0 ≡ None → faults ≡ []
none-first [] e = refl
none-first (x ∷ xs) e = cc e

-- some are none
not-rows : (texts : Texts) (rows : Rows) → (no_tables texts ≡ [] → ⊥) → rows_of texts ≡ Ok rows → ⊥
not-rows texts rows some ok = some (none-first (no_tables texts) (first-of-texts texts ∙ ap result_err ok))

pub broken-in-texts : (policy : Terms) (texts : Texts) (first : Option ℕ)
    → (no_tables texts ≡ [] → ⊥) → no_tables texts ≡ broken_rules policy texts first
unfolding broken_rules
broken-in-texts policy texts first some = by (rows_of texts) refl
  where
    by : (r : Result Rows BaseError) → rows_of texts ≡ r → no_tables texts ≡ broken_in policy first texts r
    by (Ok rows) is = absurd (not-rows texts rows some is)
    by (Err e) is = refl

pub sizes-of-none : (texts : Texts) (sizes : TableSizes) → (no_tables texts ≡ [] → ⊥) → AreSizes texts sizes
sizes-of-none texts sizes some = λ rows ok. absurd (not-rows texts rows some ok)
