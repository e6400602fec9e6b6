-- What is written of coherent records breaks no rule of a base.
use Rattle.std.proofs.Common.{◌≡◌, ◌∙◌, ◌≤◌, ℕ, suc, List, [], ◌∷◌, ◌++◌, Bool, true, false, cond, Option, Some, None, length, map, refl, sym, ap, subst, arith, append_assoc, length-append}
use Rattle.circ_records.proofs.SameTexts.{same-itself}
use Rattle.std.proofs.lemmas.List.{map-append}
use Rattle.std.proofs.lemmas.Bool.{and_parts, lt-leb, or_parts, or_right}
use Rattle.std.proofs.lemmas.List.Elements.{filter-append}
use Rattle.std.specs.List.{AllByRecursion, cons_option, filter_map, flat_map, list_all}
use Rattle.std.specs.Prelude.{is_some, option_map, option_and_then, unwrap_or, ◌||◌, ◌&&◌}
use Rattle.circ_policy.specs.Medias.{media_code}
use Rattle.circ_policy.specs.Policy.{class_of, media_of}
use Rattle.circ_policy.specs.Terms.{Terms}
use Rattle.circ_policy.specs.declared.media_type.MediaType.{MediaType}
use Rattle.circ_policy.specs.declared.media_type.MediaType.TheVariants as media
use Rattle.sip_reader.proofs.AmountTexts.{amount_of-amount_text}
use Rattle.sip_reader.proofs.Clean.{id_is_text}
use Rattle.sip_reader.specs.Texts.{is_id, is_text}
use Rattle.circ_records.specs.declared.holds.TheConstants.{QUEUE_MAX}
use Rattle.record_tables.specs.Base.{first_broken}
use Rattle.circ_records.specs.Coherent.{AreOfKind, Coherent, are_distinct, as_fee, as_item, as_patron, has_id, is_hold, is_known, is_lent_to, is_owed_by}
use Rattle.circ_records.specs.Records.{AreRising, Entries, record_at}
use Rattle.record_tables.specs.Rules.{broken, broken_from, closed_rule, fee_rule, has_closed_values, has_fee_texts, has_fee_values, has_hold, has_hold_texts, has_item_texts, has_loan_texts, has_loan_values, has_media, has_patron_texts, has_row, hold_rule, is_borrower, is_full, is_of_patron, is_owing, item_rule, loan_rule, patron_rule}
use Rattle.circ_records.specs.Classes.{has_class}
use Rattle.record_tables.specs.Tables.{Row, field}
use Rattle.record_tables.specs.Told.{rows_with}
use Rattle.circ_records.specs.Texts.{is_same}
use Rattle.record_tables.specs.Written.{closed_alone, closed_row, closed_rows, fee_row, fee_rows, hold_row, hold_rows, is_open, item_row, item_rows, listed_fees, listed_loans, loan_at, loan_in, loan_row, loan_rows, open_fee_at, open_fee_in, patron_row, patron_rows, queued, rows_telling}
use Rattle.circ_records.specs.declared.rule.BaseRule.{BaseRule}
use Rattle.circ_records.specs.declared.holds.Hold.{Hold}
use Rattle.circ_records.specs.declared.key.Key.{Key}
use Rattle.circ_records.specs.declared.key.Key.TheVariants as key
use Rattle.circ_records.specs.declared.record.Fee.{Fee}
use Rattle.circ_records.specs.declared.record.Item.{Item}
use Rattle.circ_records.specs.declared.record.Loan.{Loan}
use Rattle.circ_records.specs.declared.record.Patron.{Patron}
use Rattle.circ_records.specs.declared.record.Record.{Record}
use Rattle.circ_records.specs.declared.record.Record.TheVariants as record_of
use Rattle.schema.specs.declared.table_name.TableName.{TableName}
use Rattle.schema.specs.declared.table_name.TableName.TheVariants as table
use Rattle.record_tables.proofs.Entries.{by-fee, by-item, by-patron, each-given, given}
use Rattle.record_tables.proofs.Picked.{head, parts, same, same-back}
use Rattle.record_tables.proofs.ReadBack.{due-back, flag-back, hundredths-back, kind-back, media-back, renewals-back}
use Rattle.record_tables.proofs.ToldBack.{first-row, lent-item}
use Rattle.record_tables.proofs.WrittenRows.{borrower_of, closed-rows, debtor_of, fee-rows, item-rows, loan-rows, owners, patron-rows, queue-rows}

-- ROWS THAT EACH PASS

passes-from : (name : TableName) (rule : List Row → Row → Option BaseRule) (P : Row → Type 0)
    (all : List Row) (n : ℕ) (before rows : List Row) → all ≡ before ++ rows
    → ((front back : List Row) (row : Row) → all ≡ front ++ row ∷ back → P row
    → rule front row ≡ None) → AllByRecursion P rows
    → broken_from name rule n before rows ≡ None
passes-from name rule P all n before [] is h each = refl
passes-from name rule P all n before (row ∷ rows) is h each =
    rw (h before rows row is each.0) (passes-from name rule P all (suc n) (before ++ row ∷ []) rows (is ∙ sym (append_assoc before (row ∷ []) rows)) h each.1)

-- rows that each pass after those in front of it break nothing
pub passes : (name : TableName) (rule : List Row → Row → Option BaseRule) (P : Row → Type 0) (rows : List Row)
    → ((front back : List Row) (row : Row) → rows ≡ front ++ row ∷ back → P row
    → rule front row ≡ None) → AllByRecursion P rows → broken name rule rows ≡ None
passes name rule P rows h each = passes-from name rule P rows 1 [] rows refl h each

no-front : {A : Type 0} (xs : List A) (y : A) (ys : List A) (z : A) → xs ++ y ∷ ys ≡ z ∷ [] → xs ≡ []
no-front [] y ys z e = refl
no-front (x ∷ xs) y ys z e = let n = ap length e in absurd (omega (arith, n, length-append xs (y ∷ ys)))

-- a row's text in a column, among the rows in front of it and after it
split : (column : ℕ) (front back : List Row) (row : Row)
    → rows_with column (field column row) (front ++ row ∷ back)
    ≡ rows_with column (field column row) front ++ row ∷ rows_with column (field column row) back
split column front back row =
    filter-append (λ (r : Row). is_same (field column row) (field column r)) front (row ∷ back)
    ∙ ap (λ b. rows_with column (field column row) front
    ++ cond b (row ∷ rows_with column (field column row) back)
    (rows_with column (field column row) back)) (same-itself (field column row))

-- where one row alone has it, none in front does
alone : (column : ℕ) (rows front back : List Row) (row one : Row) → rows ≡ front ++ row ∷ back
    → rows_with column (field column row) rows ≡ one ∷ []
    → has_row column (field column row) front ≡ false
alone column rows front back row one is only =
    let none = no-front (rows_with column (field column row) front) row (rows_with column (field column row) back) one
    (sym (split column front back row) ∙ ap (rows_with column (field column row)) (sym is) ∙ only) in
    ap is_some (first-row column (field column row) front ∙ ap head none)

there : (column : ℕ) (text : List ℕ) (rows : List Row) (one : Row)
    → rows_with column text rows ≡ one ∷ [] → has_row column text rows ≡ true
there column text rows one only = ap is_some (first-row column text rows ∙ ap head only)

not-there : (column : ℕ) (text : List ℕ) (rows : List Row) → rows_with column text rows ≡ []
    → has_row column text rows ≡ false
not-there column text rows none = ap is_some (first-row column text rows ∙ ap head none)

-- TEXTS

media-text : (m : MediaType) → is_text (media_code m) ≡ true
unfolding is_text
media-text media.Other = refl
media-text media.Book = refl
media-text media.Magazine = refl
media-text media.BoundJournal = refl
media-text media.AudioTape = refl
media-text media.VideoTape = refl
media-text media.Cd = refl
media-text media.Diskette = refl
media-text media.BookWithDiskette = refl
media-text media.BookWithCd = refl
media-text media.BookWithTape = refl

-- WHAT LISTS NAME

each-listed : (P : Row → Type 0) (row_of : List ℕ → Option Row) (ids : List (List ℕ))
    → ((x : List ℕ) → has_id x ids ≡ true → (row : Row) → row_of x ≡ Some row → P row)
    → AllByRecursion P (filter_map row_of ids)
each-listed P row_of [] h = tt
each-listed P row_of (x ∷ xs) h =
    by (row_of x) refl (each-listed P row_of xs (λ y has. h y (or_right (is_same y x) (has_id y xs) has)))
  where
    by : (o : Option Row) → row_of x ≡ o → AllByRecursion P (filter_map row_of xs)
        → AllByRecursion P (cons_option o (filter_map row_of xs))
    by None is rest = rest
    by (Some row) is rest = (h x (ap (λ b. b || has_id x xs) (same-itself x)) row is, rest)

lent : (q : List ℕ) (o : Option Record) → is_lent_to q (as_item o) ≡ true
    → (i : Item) × (l : Loan) × (o ≡ Some (record_of.Item i)) × (i.loan ≡ Some l)
lent q None e = cc
lent q (Some (record_of.Patron p)) e = cc
lent q (Some (record_of.Item i)) e = let (l, is) = lent-item q i.loan e in (i, l, refl, is)
lent q (Some (record_of.Fee f)) e = cc

owed : (q : List ℕ) (o : Option Record) → is_owed_by q (as_fee o) ≡ true
    → (f : Fee) × (o ≡ Some (record_of.Fee f)) × (is_open f ≡ true)
owed q None e = cc
owed q (Some (record_of.Patron p)) e = cc
owed q (Some (record_of.Item i)) e = cc
owed q (Some (record_of.Fee f)) e = (f, refl, (and_parts (is_same q f.patron) (is_open f) e).1)

known-patron : (o : Option Record) → is_some (as_patron o) ≡ true → (p : Patron) × (o ≡ Some (record_of.Patron p))
known-patron None e = cc
known-patron (Some (record_of.Patron p)) e = (p, refl)
known-patron (Some (record_of.Item i)) e = cc
known-patron (Some (record_of.Fee f)) e = cc

-- QUEUES

has_hold-picked : (x q : List ℕ) (rows : List Row) → has_hold x q rows ≡ has_id q (map (field 1) (rows_with 0 x rows))
has_hold-picked x q [] = refl
has_hold-picked x q (row ∷ rows) = by (is_same x (field 0 row)) (has_hold-picked x q rows)
  where
    by : (b : Bool) → has_hold x q rows ≡ has_id q (map (field 1) (rows_with 0 x rows))
        → ((b && is_same q (field 1 row)) || has_hold x q rows) ≡ has_id q (map (field 1) (cond b (row ∷ rows_with 0 x rows) (rows_with 0 x rows)))
    by true rest = ap (λ b. is_same q (field 1 row) || b) rest
    by false rest = rest

apart-in : (x : List ℕ) (xs : List (List ℕ)) (y : List ℕ) (ys : List (List ℕ))
    → has_id x (xs ++ y ∷ ys) ≡ false → is_same x y ≡ false
apart-in x [] y ys none = (or_parts (is_same x y) (has_id x ys) none).0
apart-in x (z ∷ xs) y ys none = apart-in x xs y ys (or_parts (is_same x z) (has_id x (xs ++ y ∷ ys)) none).1

-- in a list that has each once, none is in front of itself
front-new : (xs : List (List ℕ)) (y : List ℕ) (ys : List (List ℕ))
    → are_distinct (xs ++ y ∷ ys) ≡ true → has_id y xs ≡ false
front-new [] y ys distinct = refl
front-new (x ∷ xs) y ys distinct =
    let new = parts (has_id x (xs ++ y ∷ ys)) (are_distinct (xs ++ y ∷ ys)) distinct in
    rw (same-back y x, apart-in x xs y ys new.0) (front-new xs y ys new.1)

length-queued : (x : List ℕ) (holds : List Hold) → length (queued x holds) ≡ length holds
length-queued x [] = refl
length-queued x (h ∷ hs) = ap suc (length-queued x hs)

queued-patrons : (x : List ℕ) (holds : List Hold) → map (field 1) (queued x holds) ≡ map (λ h. h.patron) holds
queued-patrons x [] = refl
queued-patrons x (h ∷ hs) = ap (λ (ids : List (List ℕ)). h.patron ∷ ids) (queued-patrons x hs)

module _ (policy : Terms) (n : ℕ) (es : Entries) (rising : AreRising es) (co : Coherent policy n es) (kinds : AreOfKind (record_at es)) where
  -- THE ROWS OF RECORDS

  a-patron : (id : List ℕ) (p : Patron) → record_at es (key.Patron id) ≡ Some (record_of.Patron p)
      → rows_with 0 id (flat_map patron_rows es) ≡ patron_row id p ∷ []
  a-patron id p at = patron-rows id es rising ∙ ap (given patron_rows (key.Patron id)) at

  an-item : (id : List ℕ) (i : Item) → record_at es (key.Item id) ≡ Some (record_of.Item i)
      → rows_with 0 id (flat_map item_rows es) ≡ item_row id i ∷ []
  an-item id i at = item-rows id es rising ∙ ap (given item_rows (key.Item id)) at

  known-row : (id : List ℕ) → is_known (record_at es) id ≡ true → has_row 0 id (flat_map patron_rows es) ≡ true
  known-row id known = let (p, at) = known-patron (record_at es (key.Patron id)) known in there 0 id (flat_map patron_rows es) (patron_row id p) (a-patron id p at)

  known-id : (id : List ℕ) → is_known (record_at es) id ≡ true → is_id id ≡ true
  known-id id known =
      let (p, at) = known-patron (record_at es (key.Patron id)) known in (co.patrons id p (ap as_patron at)).id_text

  -- PATRONS

  abbrev IsPatronRow : Row → Type 0
  IsPatronRow row = (id : List ℕ) × (p : Patron) × (record_at es (key.Patron id) ≡ Some (record_of.Patron p)) × (row ≡ patron_row id p)

  class-text : (name : List ℕ) → has_class policy name ≡ true → is_text name ≡ true
  unfolding has_class
  class-text name has = id_is_text name (and_parts (is_id name) (is_some (class_of policy name)) has).0

  patron-texts : (id : List ℕ) (p : Patron)
      → record_at es (key.Patron id) ≡ Some (record_of.Patron p)
      → has_patron_texts (patron_row id p) ≡ true
  unfolding has_patron_texts
  patron-texts id p at = let patron = co.patrons id p (ap as_patron at) in rw (patron.id_text, patron.name, class-text p.class patron.class) refl

  patrons-fit : (front back : List Row) (row : Row) → flat_map patron_rows es ≡ front ++ row ∷ back
      → IsPatronRow row → patron_rule policy front row ≡ None
  unfolding patron_rule
  patrons-fit front back row is (id, p, at, same-row) = subst (λ (r : Row). patron_rule policy front r ≡ None) (sym same-row) (fits (is ∙ ap (λ (r : Row). front ++ r ∷ back) same-row))
    where
      fits : flat_map patron_rows es ≡ front ++ patron_row id p ∷ back
          → patron_rule policy front (patron_row id p) ≡ None
      fits is =
          rw (
            patron-texts id p at,
            flag-back p.blocked,
            alone 0 (flat_map patron_rows es) front back (patron_row id p) (patron_row id p) is (a-patron id p at),
            (co.patrons id p (ap as_patron at)).class,
          ) refl

  patrons-are : (x : Key × Record) → record_at es x.0 ≡ Some x.1 → AllByRecursion IsPatronRow (patron_rows x)
  patrons-are = by-patron (λ x rows. record_at es x.0 ≡ Some x.1 → AllByRecursion IsPatronRow rows) _ (λ x at. tt) (λ id p at. ((id, p, at, refl), tt))

  pub patrons-pass : broken table.Patrons (patron_rule policy) (flat_map patron_rows es) ≡ None
  patrons-pass = passes table.Patrons (patron_rule policy) IsPatronRow (flat_map patron_rows es) patrons-fit (each-given IsPatronRow patron_rows es rising patrons-are)

  -- ITEMS

  abbrev IsItemRow : Row → Type 0
  IsItemRow row =
      (id : List ℕ) × (i : Item) × (record_at es (key.Item id) ≡ Some (record_of.Item i)) × (row ≡ item_row id i)

  item-texts : (id : List ℕ) (i : Item) → record_at es (key.Item id) ≡ Some (record_of.Item i)
      → has_item_texts (item_row id i) ≡ true
  unfolding has_item_texts
  item-texts id i at = let item = co.items id i (ap as_item at) in rw (item.id_text, item.title, media-text i.media, item.location, item.properties) refl

  item-media : (id : List ℕ) (i : Item) → record_at es (key.Item id) ≡ Some (record_of.Item i)
      → has_media policy (media_code i.media) ≡ true
  unfolding has_media
  item-media id i at = ap (λ o. is_some (option_and_then (media_of policy) o)) (media-back i.media) ∙ (co.items id i (ap as_item at)).media

  items-fit : (front back : List Row) (row : Row) → flat_map item_rows es ≡ front ++ row ∷ back
      → IsItemRow row → item_rule policy front row ≡ None
  unfolding item_rule
  items-fit front back row is (id, i, at, same-row) = subst (λ (r : Row). item_rule policy front r ≡ None) (sym same-row) (fits (is ∙ ap (λ (r : Row). front ++ r ∷ back) same-row))
    where
      fits : flat_map item_rows es ≡ front ++ item_row id i ∷ back → item_rule policy front (item_row id i) ≡ None
      fits is = rw (item-texts id i at, alone 0 (flat_map item_rows es) front back (item_row id i) (item_row id i) is (an-item id i at), item-media id i at) refl

  items-are : (x : Key × Record) → record_at es x.0 ≡ Some x.1 → AllByRecursion IsItemRow (item_rows x)
  items-are = by-item (λ x rows. record_at es x.0 ≡ Some x.1 → AllByRecursion IsItemRow rows) _ (λ x at. tt) (λ id i at. ((id, i, at, refl), tt))

  pub items-pass : broken table.Items (item_rule policy) (flat_map item_rows es) ≡ None
  items-pass = passes table.Items (item_rule policy) IsItemRow (flat_map item_rows es) items-fit (each-given IsItemRow item_rows es rising items-are)

  -- LOANS

  pub record ALoan (row : Row) : Type 0 where
    pub patron : List ℕ
    pub owner : Patron
    pub owner_at : record_at es (key.Patron patron) ≡ Some (record_of.Patron owner)
    pub item : List ℕ
    pub lent : Item
    pub lent_at : record_at es (key.Item item) ≡ Some (record_of.Item lent)
    pub loan : Loan
    pub loan_is : lent.loan ≡ Some loan
    pub row_is : row ≡ loan_row patron item loan

  loan-texts : (q : List ℕ) (p : Patron) (x : List ℕ) (i : Item) (l : Loan)
      → record_at es (key.Patron q) ≡ Some (record_of.Patron p)
      → record_at es (key.Item x) ≡ Some (record_of.Item i)
      → has_loan_texts (loan_row q x l) ≡ true
  unfolding has_loan_texts
  loan-texts q p x i l at there =
      rw ((co.patrons q p (ap as_patron at)).id_text, (co.items x i (ap as_item there)).id_text) refl

  loan-values : (q x : List ℕ) (i : Item) (l : Loan)
      → record_at es (key.Item x) ≡ Some (record_of.Item i) → i.loan ≡ Some l
      → has_loan_values (loan_row q x l) ≡ true
  unfolding has_loan_values
  loan-values q x i l at is =
      let loan = (co.items x i (ap as_item at)).loan l is in
      let (year, month, day, real) = loan.due in
      rw (due-back l.due year month day real, renewals-back l.renewals loan.renewals) refl

  -- the one row of a loan
  one-loan : (x : List ℕ) (i : Item) (l : Loan)
      → record_at es (key.Item x) ≡ Some (record_of.Item i) → i.loan ≡ Some l
      → rows_with 1 x (flat_map (loan_rows es) es) ≡ loan_row l.patron x l ∷ []
  one-loan x i l at is =
      loan-rows policy n es rising co kinds x
      ∙ ap (λ (o : Option Record). owners
      (λ q. cons_option (option_map (loan_row q x) (loan_in o)) [])
      (borrower_of (as_item o))) at
      ∙ ap (λ (o : Option Loan). owners (λ q. cons_option (option_map (loan_row q x) o) [])
      (option_map (λ l. l.patron) o)) is

  loans-fit : (front back : List Row) (row : Row) → flat_map (loan_rows es) es ≡ front ++ row ∷ back
      → ALoan row → loan_rule (flat_map patron_rows es) (flat_map item_rows es) front row ≡ None
  unfolding loan_rule
  loans-fit front back row is a = subst (λ (r : Row). loan_rule (flat_map patron_rows es) (flat_map item_rows es) front r ≡ None) (sym a.row_is) (fits (is ∙ ap (λ (r : Row). front ++ r ∷ back) a.row_is))
    where
      fits : flat_map (loan_rows es) es ≡ front ++ loan_row a.patron a.item a.loan ∷ back
          → loan_rule (flat_map patron_rows es) (flat_map item_rows es) front
          (loan_row a.patron a.item a.loan) ≡ None
      fits is =
          rw (
            loan-texts a.patron a.owner a.item a.lent a.loan a.owner_at a.lent_at,
            loan-values a.patron a.item a.lent a.loan a.lent_at a.loan_is,
            there 0 a.patron (flat_map patron_rows es) (patron_row a.patron a.owner) (a-patron a.patron a.owner a.owner_at),
            there 0 a.item (flat_map item_rows es) (item_row a.item a.lent) (an-item a.item a.lent a.lent_at),
            alone 1 (flat_map (loan_rows es) es) front back (loan_row a.patron a.item a.loan) (loan_row a.loan.patron a.item a.loan) is (one-loan a.item a.lent a.loan a.lent_at a.loan_is),
          ) refl

  loans-are : (x : Key × Record) → record_at es x.0 ≡ Some x.1 → AllByRecursion ALoan (loan_rows es x)
  loans-are = by-patron (λ x rows. record_at es x.0 ≡ Some x.1 → AllByRecursion ALoan rows) _ (λ x at. tt) some
    where
      some : (q : List ℕ) (p : Patron) → record_at es (key.Patron q) ≡ Some (record_of.Patron p)
          → AllByRecursion ALoan (listed_loans es q p.loans)
      some q p at = each-listed ALoan (λ x. option_map (loan_row q x) (loan_at es x)) p.loans listed
        where
          listed : (x : List ℕ) → has_id x p.loans ≡ true → (row : Row)
              → option_map (loan_row q x) (loan_at es x) ≡ Some row → ALoan row
          listed x has row is =
              let (i, l, there, lent) = lent q (record_at es (key.Item x)) (sym ((co.patrons q p (ap as_patron at)).loans x) ∙ has) in
              let same : Some (loan_row q x l) ≡ Some row = sym (ap (λ (o : Option Record). option_map (loan_row q x) (loan_in o)) there ∙ ap (option_map (loan_row q x)) lent) ∙ is in
              record { patron = q; owner = p; owner_at = at; item = x; lent = i; lent_at = there; loan = l; loan_is = lent; row_is = ap (λ o. unwrap_or o []) (sym same) }

  pub loans-pass : broken table.Loans (loan_rule (flat_map patron_rows es) (flat_map item_rows es))
      (flat_map (loan_rows es) es) ≡ None
  loans-pass = passes table.Loans (loan_rule (flat_map patron_rows es) (flat_map item_rows es)) ALoan (flat_map (loan_rows es) es) loans-fit (each-given ALoan (loan_rows es) es rising loans-are)

  -- OPEN FEES

  pub record AnOpenFee (row : Row) : Type 0 where
    pub patron : List ℕ
    pub owner : Patron
    pub owner_at : record_at es (key.Patron patron) ≡ Some (record_of.Patron owner)
    pub id : List ℕ
    pub fee : Fee
    pub fee_at : record_at es (key.Fee id) ≡ Some (record_of.Fee fee)
    pub unpaid : is_open fee ≡ true
    pub row_is : row ≡ fee_row patron id fee

  fee-texts : (q : List ℕ) (p : Patron) (x : List ℕ) (f : Fee)
      → record_at es (key.Patron q) ≡ Some (record_of.Patron p)
      → record_at es (key.Fee x) ≡ Some (record_of.Fee f) → has_fee_texts (fee_row q x f) ≡ true
  unfolding has_fee_texts
  fee-texts q p x f at there =
      rw ((co.fees x f (ap as_fee there)).id_text, (co.patrons q p (ap as_patron at)).id_text) refl

  small-paid : (x : List ℕ) (f : Fee) → record_at es (key.Fee x) ≡ Some (record_of.Fee f) → f.paid ≤ 99_999_999_999
  small-paid x f at = let fee = co.fees x f (ap as_fee at) in omega (arith, fee.paid, fee.amount)

  fee-values : (q x : List ℕ) (f : Fee) → record_at es (key.Fee x) ≡ Some (record_of.Fee f)
      → has_fee_values (fee_row q x f) ≡ true
  unfolding has_fee_values has_closed_values
  fee-values q x f at = rw (kind-back f.kind, amount_of-amount_text f.amount (co.fees x f (ap as_fee at)).amount, amount_of-amount_text f.paid (small-paid x f at)) refl

  owing : (q x : List ℕ) (f : Fee) → record_at es (key.Fee x) ≡ Some (record_of.Fee f)
      → is_open f ≡ true → is_owing (fee_row q x f) ≡ true
  unfolding is_owing
  owing q x f at unpaid = rw (hundredths-back f.amount (co.fees x f (ap as_fee at)).amount, hundredths-back f.paid (small-paid x f at)) unpaid

  -- the one row of an open fee, and none of one that is paid in full
  fee-row-of : (x : List ℕ) (f : Fee) (b : Bool) → record_at es (key.Fee x) ≡ Some (record_of.Fee f) → is_open f ≡ b
      → rows_with 0 x (flat_map (fee_rows es) es)
      ≡ owners (λ q. cons_option (option_map (fee_row q x) (cond b (Some f) None)) [])
      (cond b (Some f.patron) None)
  fee-row-of x f b at is =
      fee-rows policy n es rising co kinds x
      ∙ ap (λ (o : Option Record). owners
      (λ q. cons_option (option_map (fee_row q x) (open_fee_in o)) [])
      (debtor_of (as_fee o))) at
      ∙ ap (λ b. owners (λ q. cons_option (option_map (fee_row q x) (cond b (Some f) None)) [])
      (cond b (Some f.patron) None)) is

  fees-fit : (front back : List Row) (row : Row) → flat_map (fee_rows es) es ≡ front ++ row ∷ back
      → AnOpenFee row → fee_rule None (flat_map patron_rows es) front row ≡ None
  unfolding fee_rule
  fees-fit front back row is a = subst (λ (r : Row). fee_rule None (flat_map patron_rows es) front r ≡ None) (sym a.row_is) (fits (is ∙ ap (λ (r : Row). front ++ r ∷ back) a.row_is))
    where
      fits : flat_map (fee_rows es) es ≡ front ++ fee_row a.patron a.id a.fee ∷ back
          → fee_rule None (flat_map patron_rows es) front (fee_row a.patron a.id a.fee) ≡ None
      fits is =
          rw (
            fee-texts a.patron a.owner a.id a.fee a.owner_at a.fee_at,
            fee-values a.patron a.id a.fee a.fee_at,
            alone 0 (flat_map (fee_rows es) es) front back (fee_row a.patron a.id a.fee) (fee_row a.fee.patron a.id a.fee) is (fee-row-of a.id a.fee true a.fee_at a.unpaid),
            there 0 a.patron (flat_map patron_rows es) (patron_row a.patron a.owner) (a-patron a.patron a.owner a.owner_at),
            owing a.patron a.id a.fee a.fee_at a.unpaid,
          ) refl

  fees-are : (x : Key × Record) → record_at es x.0 ≡ Some x.1 → AllByRecursion AnOpenFee (fee_rows es x)
  fees-are = by-patron (λ x rows. record_at es x.0 ≡ Some x.1 → AllByRecursion AnOpenFee rows) _ (λ x at. tt) some
    where
      some : (q : List ℕ) (p : Patron) → record_at es (key.Patron q) ≡ Some (record_of.Patron p)
          → AllByRecursion AnOpenFee (listed_fees es q p.fees)
      some q p at = each-listed AnOpenFee (λ x. option_map (fee_row q x) (open_fee_at es x)) p.fees listed
        where
          listed : (x : List ℕ) → has_id x p.fees ≡ true → (row : Row)
              → option_map (fee_row q x) (open_fee_at es x) ≡ Some row → AnOpenFee row
          listed x has row is =
              let (f, there, unpaid) = owed q (record_at es (key.Fee x)) (sym ((co.patrons q p (ap as_patron at)).fees x) ∙ has) in
              let same : Some (fee_row q x f) ≡ Some row = sym (ap (λ (o : Option Record). option_map (fee_row q x) (open_fee_in o)) there ∙ ap (λ b. option_map (fee_row q x) (cond b (Some f) None)) unpaid) ∙ is in
              record { patron = q; owner = p; owner_at = at; id = x; fee = f; fee_at = there; unpaid = unpaid; row_is = ap (λ o. unwrap_or o []) (sym same) }

  pub fees-pass : broken table.Fees (fee_rule None (flat_map patron_rows es)) (flat_map (fee_rows es) es) ≡ None
  fees-pass = passes table.Fees (fee_rule None (flat_map patron_rows es)) AnOpenFee (flat_map (fee_rows es) es) fees-fit (each-given AnOpenFee (fee_rows es) es rising fees-are)

  -- FEES PAID IN FULL

  pub record AClosedFee (row : Row) : Type 0 where
    pub id : List ℕ
    pub fee : Fee
    pub fee_at : record_at es (key.Fee id) ≡ Some (record_of.Fee fee)
    pub full : is_open fee ≡ false
    pub row_is : row ≡ closed_row id fee

  closed-texts : (x : List ℕ) (f : Fee) → record_at es (key.Fee x) ≡ Some (record_of.Fee f)
      → has_fee_texts (closed_row x f) ≡ true
  unfolding has_fee_texts
  closed-texts x f at = let fee = co.fees x f (ap as_fee at) in rw (fee.id_text, known-id f.patron fee.patron) refl

  closed-values : (x : List ℕ) (f : Fee) → record_at es (key.Fee x) ≡ Some (record_of.Fee f)
      → has_closed_values (closed_row x f) ≡ true
  unfolding has_closed_values
  closed-values x f at = rw (kind-back f.kind, amount_of-amount_text f.amount (co.fees x f (ap as_fee at)).amount) refl

  closed-fit : (front back : List Row) (row : Row) → flat_map closed_rows es ≡ front ++ row ∷ back
      → AClosedFee row → closed_rule None (flat_map patron_rows es)
      (flat_map (fee_rows es) es) front row ≡ None
  unfolding closed_rule
  closed-fit front back row is a =
      subst (λ (r : Row). closed_rule None (flat_map patron_rows es) (flat_map (fee_rows es) es) front r ≡ None) (sym a.row_is) (fits (is ∙ ap (λ (r : Row). front ++ r ∷ back) a.row_is))
    where
      only : rows_with 0 a.id (flat_map closed_rows es) ≡ closed_row a.id a.fee ∷ []
      only = closed-rows a.id es rising ∙ ap (given closed_rows (key.Fee a.id)) a.fee_at ∙ ap (λ b. cond b [] (closed_row a.id a.fee ∷ [])) a.full

      fits : flat_map closed_rows es ≡ front ++ closed_row a.id a.fee ∷ back
          → closed_rule None (flat_map patron_rows es) (flat_map (fee_rows es) es) front
          (closed_row a.id a.fee) ≡ None
      fits is =
          rw (
            closed-texts a.id a.fee a.fee_at,
            closed-values a.id a.fee a.fee_at,
            not-there 0 a.id (flat_map (fee_rows es) es) (fee-row-of a.id a.fee false a.fee_at a.full),
            alone 0 (flat_map closed_rows es) front back (closed_row a.id a.fee) (closed_row a.id a.fee) is only,
            known-row a.fee.patron (co.fees a.id a.fee (ap as_fee a.fee_at)).patron,
          ) refl

  closed-are : (x : Key × Record) → record_at es x.0 ≡ Some x.1 → AllByRecursion AClosedFee (closed_rows x)
  closed-are = by-fee (λ x rows. record_at es x.0 ≡ Some x.1 → AllByRecursion AClosedFee rows) _ (λ x at. tt) some
    where
      some : (x : List ℕ) (f : Fee) → record_at es (key.Fee x) ≡ Some (record_of.Fee f)
          → AllByRecursion AClosedFee (closed_alone x f)
      some x f at = by (is_open f) refl
        where
          by : (b : Bool) → is_open f ≡ b → AllByRecursion AClosedFee (cond b [] (closed_row x f ∷ []))
          by true is = tt
          by false is = (record { id = x; fee = f; fee_at = at; full = is; row_is = refl }, tt)

  pub closed-pass : broken table.Closed
      (closed_rule None (flat_map patron_rows es) (flat_map (fee_rows es) es))
      (flat_map closed_rows es) ≡ None
  closed-pass =
      passes table.Closed (closed_rule None (flat_map patron_rows es) (flat_map (fee_rows es) es)) AClosedFee (flat_map closed_rows es) closed-fit
      (each-given AClosedFee closed_rows es rising closed-are)

  -- HOLDS

  pub record AHold (row : Row) : Type 0 where
    pub item : List ℕ
    pub held : Item
    pub held_at : record_at es (key.Item item) ≡ Some (record_of.Item held)
    pub hold : Hold
    pub good : is_hold (record_at es) hold ≡ true
    pub waits : has_id hold.patron (map (λ h. h.patron) held.holds) ≡ true
    pub row_is : row ≡ hold_row item hold

  hold-texts : (x : List ℕ) (i : Item) (h : Hold)
      → record_at es (key.Item x) ≡ Some (record_of.Item i) → is_hold (record_at es) h ≡ true
      → has_hold_texts (hold_row x h) ≡ true
  unfolding has_hold_texts
  hold-texts x i h at good =
      let parts = and_parts (is_known (record_at es) h.patron) (is_text h.pickup) good in
      rw ((co.items x i (ap as_item at)).id_text, known-id h.patron parts.0, parts.1) refl

  -- a place in a queue, with the places in front of it and after it
  queue-split : (x : List ℕ) (i : Item) (h : Hold) (front back : List Row)
      → record_at es (key.Item x) ≡ Some (record_of.Item i)
      → flat_map hold_rows es ≡ front ++ hold_row x h ∷ back
      → rows_with 0 x front ++ hold_row x h ∷ rows_with 0 x back ≡ queued x i.holds
  queue-split x i h front back at is = sym (split 0 front back (hold_row x h)) ∙ ap (rows_with 0 x) (sym is) ∙ queue-rows x es rising ∙ ap (given hold_rows (key.Item x)) at

  waits-once : (x : List ℕ) (i : Item) (h : Hold) (front back : List Row)
      → record_at es (key.Item x) ≡ Some (record_of.Item i)
      → flat_map hold_rows es ≡ front ++ hold_row x h ∷ back → has_hold x h.patron front ≡ false
  waits-once x i h front back at is =
      let ids : map (field 1) (rows_with 0 x front) ++ h.patron ∷ map (field 1) (rows_with 0 x back) ≡ map (λ h. h.patron) i.holds =
      sym (map-append (field 1) (rows_with 0 x front) (hold_row x h ∷ rows_with 0 x back)) ∙ ap (map (field 1)) (queue-split x i h front back at is) ∙ queued-patrons x i.holds in
      has_hold-picked x h.patron front
      ∙ front-new (map (field 1) (rows_with 0 x front)) h.patron
      (map (field 1) (rows_with 0 x back))
      (ap are_distinct ids ∙ (co.items x i (ap as_item at)).holds_once)

  has-room : (x : List ℕ) (i : Item) (h : Hold) (front back : List Row)
      → record_at es (key.Item x) ≡ Some (record_of.Item i)
      → flat_map hold_rows es ≡ front ++ hold_row x h ∷ back → is_full x front ≡ false
  unfolding is_full
  has-room x i h front back at is =
      let size : length (rows_with 0 x front ++ hold_row x h ∷ rows_with 0 x back) ≡ length i.holds = ap length (queue-split x i h front back at is) ∙ length-queued x i.holds in
      lt-leb QUEUE_MAX (length (rows_with 0 x front)) (omega (arith, size, length-append (rows_with 0 x front) (hold_row x h ∷ rows_with 0 x back), (co.items x i (ap as_item at)).few))

  borrows : (x : List ℕ) (i : Item) (h : Hold) → record_at es (key.Item x) ≡ Some (record_of.Item i)
      → has_id h.patron (map (λ h. h.patron) i.holds) ≡ true → (o : Option Loan) → i.loan ≡ o
      → is_borrower h.patron x (flat_map (loan_rows es) es) ≡ false
  unfolding is_borrower
  borrows x i h at waits None is =
      ap (is_of_patron h.patron)
      (first-row 1 x (flat_map (loan_rows es) es)
      ∙ ap head (loan-rows policy n es rising co kinds x
      ∙ ap (λ (o : Option Record). owners
      (λ q. cons_option (option_map (loan_row q x) (loan_in o)) [])
      (borrower_of (as_item o))) at
      ∙ ap (λ (o : Option Loan). owners (λ q. cons_option (option_map (loan_row q x) o) [])
      (option_map (λ l. l.patron) o)) is))
  borrows x i h at waits (Some l) is =
      ap (is_of_patron h.patron) (first-row 1 x (flat_map (loan_rows es) es) ∙ ap head (one-loan x i l at is))
      ∙ by (is_same h.patron l.patron) refl
    where
      by : (b : Bool) → is_same h.patron l.patron ≡ b → b ≡ false
      by true e =
          let absent : has_id l.patron (map (λ h. h.patron) i.holds) ≡ false = ((co.items x i (ap as_item at)).loan l is).waits in
          sym waits ∙ ap (λ q. has_id q (map (λ h. h.patron) i.holds)) (same h.patron l.patron e) ∙ absent
      by false e = refl

  holds-fit : (front back : List Row) (row : Row) → flat_map hold_rows es ≡ front ++ row ∷ back
      → AHold row → hold_rule (flat_map patron_rows es) (flat_map item_rows es)
      (flat_map (loan_rows es) es) front row ≡ None
  unfolding hold_rule
  holds-fit front back row is a =
      subst (λ (r : Row). hold_rule (flat_map patron_rows es) (flat_map item_rows es) (flat_map (loan_rows es) es) front r ≡ None) (sym a.row_is) (fits (is ∙ ap (λ (r : Row). front ++ r ∷ back) a.row_is))
    where
      fits : flat_map hold_rows es ≡ front ++ hold_row a.item a.hold ∷ back
          → hold_rule (flat_map patron_rows es) (flat_map item_rows es)
          (flat_map (loan_rows es) es) front (hold_row a.item a.hold) ≡ None
      fits is =
          rw (
            hold-texts a.item a.held a.hold a.held_at a.good,
            waits-once a.item a.held a.hold front back a.held_at is,
            known-row a.hold.patron (and_parts (is_known (record_at es) a.hold.patron) (is_text a.hold.pickup) a.good).0,
            there 0 a.item (flat_map item_rows es) (item_row a.item a.held) (an-item a.item a.held a.held_at),
            borrows a.item a.held a.hold a.held_at a.waits a.held.loan refl,
            has-room a.item a.held a.hold front back a.held_at is,
          ) refl

  a-queue : (x : List ℕ) (i : Item) → record_at es (key.Item x) ≡ Some (record_of.Item i)
      → (holds : List Hold) → list_all (is_hold (record_at es)) holds ≡ true
      → ((q : List ℕ) → has_id q (map (λ h. h.patron) holds) ≡ true
      → has_id q (map (λ h. h.patron) i.holds) ≡ true) → AllByRecursion AHold (queued x holds)
  a-queue x i at [] good waits = tt
  a-queue x i at (h ∷ hs) good waits =
      let parts = and_parts (is_hold (record_at es) h) (list_all (is_hold (record_at es)) hs) good in (
        record { item = x; held = i; held_at = at; hold = h; good = parts.0; waits = waits h.patron (ap (λ b. b || has_id h.patron (map (λ h. h.patron) hs)) (same-itself h.patron)); row_is = refl },
        a-queue x i at hs parts.1 (λ q has. waits q (or_right (is_same q h.patron) (has_id q (map (λ h. h.patron) hs)) has)),
      )

  holds-are : (x : Key × Record) → record_at es x.0 ≡ Some x.1 → AllByRecursion AHold (hold_rows x)
  holds-are = by-item (λ x rows. record_at es x.0 ≡ Some x.1 → AllByRecursion AHold rows) _ (λ x at. tt) (λ x i at. a-queue x i at i.holds (co.items x i (ap as_item at)).holds (λ q has. has))

  pub holds-pass : broken table.Holds
      (hold_rule (flat_map patron_rows es) (flat_map item_rows es) (flat_map (loan_rows es) es))
      (flat_map hold_rows es) ≡ None
  holds-pass =
      passes table.Holds (hold_rule (flat_map patron_rows es) (flat_map item_rows es) (flat_map (loan_rows es) es)) AHold (flat_map hold_rows es) holds-fit
      (each-given AHold hold_rows es rising holds-are)

  -- ALL TABLES

  pub none-broken : first_broken policy None (rows_telling es) ≡ None
  unfolding first_broken rows_telling
  none-broken = rw (patrons-pass, items-pass, loans-pass, fees-pass, closed-pass, holds-pass) refl
