-- The tables, read one after the other.
use Rattle.std.proofs.Common.{◌≡◌, ℕ, List, Option, Some, None, Result, Ok, Err, ap, refl, ◌∙◌}
use Rattle.std.specs.Option.{option_or}
use Rattle.std.specs.Prelude.{IsSome, IfErr}
use Rattle.std.specs.Result.{IsErrAnd}
use Rattle.circ_policy.specs.Terms.{Terms}
use Rattle.record_tables.specs.Base.{◌>>=◌, base_of, broken_in, first_broken, rows_of, table_rows, unless_broken}
use Rattle.record_tables.specs.Read.{AreTables, Stops, StopsAll, StopsIn, rows_in, some_rows, text_rows}
use Rattle.record_tables.specs.Tables.{Row, Rows}
use Rattle.schema.specs.Texts.{texts_of}
use Rattle.record_tables.specs.Told.{entries_told}
use Rattle.record_tables.specs.declared.fault.BaseError.{BaseError}
use Rattle.record_tables.specs.declared.fault.BaseError.TheVariants as error
use Rattle.circ_records.specs.declared.rule.BaseRule.{BaseRule}
use Rattle.schema.specs.declared.table_name.TableName.{TableName}
use Rattle.schema.specs.declared.table_name.TableName.TheVariants as table
use Rattle.schema.specs.declared.tables.Tables.{Tables}

-- a table that was read gives its rows to the next step
reads : {A : Type 0} (name : TableName) (o : Option (List Row)) (f : List Row → Result A BaseError)
    → IsSome o → (table_rows name o >>= f) ≡ f (some_rows o)
reads name None f is = cc is
reads name (Some rows) f is = refl

-- texts that are all tables
pub tables-read : (t : Tables) → AreTables t → rows_of (texts_of t) ≡ Ok (rows_in t)
unfolding rows_of
tables-read t are =
    reads table.Patrons _ _ are.patrons ∙ reads table.Items _ _ are.items ∙ reads table.Loans _ _ are.loans ∙ reads table.Fees _ _ are.fees ∙ reads table.Closed _ _ are.closed ∙ reads table.Holds _ _ are.holds

-- why the reading stopped at a table is why all of it did
here : {A : Type 0} (e : BaseError) (name : TableName) (o : Option (List Row))
    (f : List Row → Result A BaseError) (AllRead : Type 0) (fault : Option BaseError)
    → (AllRead → IsSome o) → Stops e (table_rows name o) (IsSome o) fault
    → Stops e (table_rows name o >>= f) AllRead fault
here error.Memory name o f AllRead fault is stops = tt
here (error.Table t) name o f AllRead fault is stops = ap (λ d. d >>= f) stops
here (error.Rule t row rule values) name o f AllRead fault is stops = λ all. stops (is all)

-- what comes after it breaks no rule before
first : {A : Type 0} (e : BaseError) (due : Result A BaseError) (AllRead : Type 0)
    (fault rest : Option BaseError) → Stops e due AllRead fault
    → Stops e due AllRead (option_or fault rest)
first error.Memory due AllRead fault rest stops = tt
first (error.Table t) due AllRead fault rest stops = stops
first (error.Rule t row rule values) due AllRead fault rest stops = λ all. ap (λ o. option_or o rest) (stops all)

module _ (e : BaseError) (policy : Terms) (start : Option ℕ) (t : Tables) where
  -- a table that was read and breaks no rule, and one at which the reading stopped
  abbrev IsRead : TableName → Type 0
  IsRead name = IsSome (text_rows name t) × (broken_in policy start name (rows_in t) ≡ None)

  abbrev StopsAt : TableName → Type 0
  StopsAt name = StopsIn e name t (broken_in policy start name (rows_in t))

  abbrev Due : Type 0
  Due = StopsAll e t (first_broken policy start (rows_in t))

  -- the steps after a table that was read
  later : {A : Type 0} (name : TableName) (f : List Row → Result A BaseError) (AllRead : Type 0)
      (rest : Option BaseError) → IsRead name
      → Stops e (f (some_rows (text_rows name t))) AllRead rest
      → Stops e (table_rows name (text_rows name t) >>= f) AllRead
      (option_or (broken_in policy start name (rows_in t)) rest)
  later name f AllRead rest read stops = rw (reads name (text_rows name t) f read.0, read.1) stops

  pub in-patrons : StopsAt table.Patrons → Due
  unfolding rows_of first_broken
  in-patrons stops = first e _ _ _ _ (here e table.Patrons _ _ _ _ (λ are. are.patrons) stops)

  pub in-items : IsRead table.Patrons → StopsAt table.Items → Due
  unfolding rows_of first_broken
  in-items p stops = later table.Patrons _ _ _ p (first e _ _ _ _ (here e table.Items _ _ _ _ (λ are. are.items) stops))

  pub in-loans : IsRead table.Patrons → IsRead table.Items → StopsAt table.Loans → Due
  unfolding rows_of first_broken
  in-loans p i stops = later table.Patrons _ _ _ p (later table.Items _ _ _ i (first e _ _ _ _ (here e table.Loans _ _ _ _ (λ are. are.loans) stops)))

  pub in-fees : IsRead table.Patrons → IsRead table.Items → IsRead table.Loans → StopsAt table.Fees → Due
  unfolding rows_of first_broken
  in-fees p i l stops = later table.Patrons _ _ _ p (later table.Items _ _ _ i (later table.Loans _ _ _ l (first e _ _ _ _ (here e table.Fees _ _ _ _ (λ are. are.fees) stops))))

  pub in-closed : IsRead table.Patrons → IsRead table.Items → IsRead table.Loans → IsRead table.Fees
      → StopsAt table.Closed → Due
  unfolding rows_of first_broken
  in-closed p i l f stops =
      later table.Patrons _ _ _ p (later table.Items _ _ _ i (later table.Loans _ _ _ l (later table.Fees _ _ _ f (first e _ _ _ _ (here e table.Closed _ _ _ _ (λ are. are.closed) stops)))))

  pub in-holds : IsRead table.Patrons → IsRead table.Items → IsRead table.Loans → IsRead table.Fees
      → IsRead table.Closed → StopsAt table.Holds → Due
  unfolding rows_of first_broken
  in-holds p i l f c stops =
      later table.Patrons _ _ _ p (later table.Items _ _ _ i (later table.Loans _ _ _ l (later table.Fees _ _ _ f (later table.Closed _ _ _ c (here e table.Holds _ _ _ _ (λ are. are.holds) stops)))))

pub still-stops : {A : Type 0} (r : Result A BaseError) (was : BaseError) (t : Tables)
    (first : Option BaseError) → IsErrAnd r (λ e. e ≡ was) → StopsAll was t first
    → IfErr r (λ e. StopsAll e t first)
still-stops (Ok x) was t first h b = absurd h
still-stops (Err e) was t first h b = rw h b

-- a rule that a row breaks is the fault that is due where all texts are tables
pub rule-due : (policy : Terms) (t : Tables) (first : Option ℕ) (name : TableName) (row : ℕ)
    (rule : BaseRule) (values : Row) → StopsAll (error.Rule name row rule values) t
    (first_broken policy first (rows_in t))
    → AreTables t → base_of policy (texts_of t) first ≡ Err (error.Rule name row rule values)
unfolding base_of
rule-due policy t first name row rule values stops are =
    ap (λ r. r >>= λ (rows : Rows). unless_broken (first_broken policy first rows) (entries_told rows)) (tables-read t are)
    ∙ ap (λ o. unless_broken o (entries_told (rows_in t))) (stops are)

-- without one, whatever is due comes before
pub stops-otherwise : (policy : Terms) (t : Tables) (first : Option ℕ) (name : TableName)
    → StopsAll (error.Table name) t (first_broken policy first (rows_in t))
    → base_of policy (texts_of t) first ≡ Err (error.Table name)
unfolding base_of
stops-otherwise policy t first name stops =
    ap (λ r. r >>= λ (rows : Rows). unless_broken (first_broken policy first rows) (entries_told rows)) stops
