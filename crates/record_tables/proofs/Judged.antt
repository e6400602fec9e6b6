-- The rule that a row breaks, as the looks for its patron and its item find it.
use Rattle.std.proofs.Common.{◌≡◌, List, [], ℕ, Bool, true, false, cond, not, length, map, Option, Some, None, refl, ap, ◌∙◌}
use Rattle.record_tables.proofs.RowLists.{as-many}
use Rattle.std.specs.Prelude.{is_some, option_map, ◌||◌, nat_le, nat_lt}
use Rattle.std.specs.BTreeSet.{BTreeSet, contains}
use Rattle.std.specs.Option.{option_or}
use Rattle.circ_records.specs.Changes.{broken_by}
use Rattle.circ_records.specs.Coherent.{is_loan_of}
use Rattle.circ_records.specs.MadeFees.{is_taken}
use Rattle.record_tables.specs.Read.{AreTold, AreWaiting, SaysClosed, SaysFee, SaysLoan, pair_cmp}
use Rattle.circ_records.specs.Records.{Entries, record_at}
use Rattle.record_tables.specs.Rules.{closed_rule, fee_rule, has_hold, has_hold_texts, has_row, hold_rule, is_borrower, is_full, is_of_patron, is_owing, loan_rule}
use Rattle.record_tables.specs.Tables.{Row, Rows, field}
use Rattle.record_tables.specs.Told.{closed_told, fee_told, hold_in, item_told, loan_in, patron_told, row_with, rows_with}
use Rattle.circ_records.specs.declared.changes.ListChange.TheVariants as change
use Rattle.circ_records.specs.declared.rule.BaseRule.{BaseRule}
use Rattle.circ_records.specs.declared.rule.BaseRule.TheVariants as rule
use Rattle.record_tables.specs.declared.fees.FeeRow.{FeeRow}
use Rattle.circ_records.specs.declared.holds.Hold.{Hold}
use Rattle.circ_records.specs.declared.holds.TheConstants.{QUEUE_MAX}
use Rattle.circ_records.specs.declared.key.Key.TheVariants as key
use Rattle.record_tables.specs.declared.loans.LoanRow.{LoanRow}
use Rattle.circ_records.specs.declared.record.Fee.{Fee}
use Rattle.circ_records.specs.declared.record.Loan.{Loan}
use Rattle.circ_records.specs.declared.record.Record.{Record}
use Rattle.circ_records.specs.declared.record.Record.TheVariants as record_of
use Rattle.record_tables.proofs.Lookups.{is_some-either, is_some-map, or-cond}
use Rattle.record_tables.proofs.Telling.{IsPut}

-- the first of two rules that are broken
pub some-first : (o p : Option BaseRule) → is_some o ≡ true → option_or o p ≡ o
some-first None p e = cc e
some-first (Some r) p e = refl

-- LOANS

-- whether there is such a patron
by-patron : (r : Rows) (id item : List ℕ) (w : Option Row)
    → broken_by (change.Borrows item) (option_map (patron_told r id) w)
    ≡ cond (not (is_some w)) (Some rule.Patron) None
by-patron r id item None = refl
by-patron r id item (Some row) = refl

-- whether there is such an item, on loan to nobody
by-item : (r : Rows) (id : List ℕ) (loan : Loan) (w : Option Row)
    → broken_by (change.Lent loan) (option_map (item_told r id) w)
    ≡ cond (not (is_some w)) (Some rule.Item) (cond (has_row 1 id r.loans) (Some rule.Lent) None)
by-item r id loan None = refl
by-item r id loan (Some row) = ap (λ b. cond b (Some rule.Lent) None) (is_some-map loan_in (row_with 1 id r.loans))

-- the rule of a row of loans is that of its patron, and else that of its item
loan-judged : (r : Rows) (row : Row) (said : LoanRow) → SaysLoan said row
    → option_or (cond (not (has_row 0 (field 0 row) r.patrons)) (Some rule.Patron) None)
    (cond (not (has_row 0 (field 1 row) r.items)) (Some rule.Item)
    (cond (has_row 1 (field 1 row) r.loans) (Some rule.Lent) None))
    ≡ loan_rule r.patrons r.items r.loans row
unfolding loan_rule
loan-judged r row said says =
    let (texts, values, i, l) = says in
    rw (texts, values) (or-cond (not (has_row 0 (field 0 row) r.patrons)) rule.Patron None (cond (not (has_row 0 (field 1 row) r.items)) (Some rule.Item) (cond (has_row 1 (field 1 row) r.loans) (Some rule.Lent) None)))

pub loan-by : (r : Rows) (row : Row) (said : LoanRow) (old : Entries)
    (first second : Option BaseRule) → SaysLoan said row → AreTold r old
    → first ≡ broken_by (change.Borrows said.item) (record_at old (key.Patron said.loan.patron))
    → second ≡ broken_by (change.Lent said.loan) (record_at old (key.Item said.item))
    → option_or first second ≡ loan_rule r.patrons r.items r.loans row
loan-by r row said old first second says tells was then =
    let patron : first ≡ cond (not (has_row 0 (field 0 row) r.patrons)) (Some rule.Patron) None =
    was ∙ ap (broken_by (change.Borrows said.item)) (tells (key.Patron said.loan.patron)) ∙ by-patron r said.loan.patron said.item (row_with 0 said.loan.patron r.patrons)
    ∙ ap (λ (l : Loan). cond (not (has_row 0 l.patron r.patrons)) (Some rule.Patron) None) says.3 in
    let item : second ≡ cond (not (has_row 0 (field 1 row) r.items)) (Some rule.Item) (cond (has_row 1 (field 1 row) r.loans) (Some rule.Lent) None) =
    then ∙ ap (broken_by (change.Lent said.loan)) (tells (key.Item said.item)) ∙ by-item r said.item said.loan (row_with 0 said.item r.items)
    ∙ ap (λ (t : List ℕ). cond (not (has_row 0 t r.items)) (Some rule.Item)
    (cond (has_row 1 t r.loans) (Some rule.Lent) None)) says.2 in
    rw (patron, item) (loan-judged r row said says)

-- FEES

-- the fee that a record is
fee-of : Fee → Record → Fee
fee-of f (record_of.Fee g) = g
fee-of f r = f

owing-patron : (r : Rows) (id fee : List ℕ) (w : Option Row)
    → broken_by (change.Owes fee) (option_map (patron_told r id) w)
    ≡ cond (not (is_some w)) (Some rule.Patron) None
owing-patron r id fee None = refl
owing-patron r id fee (Some row) = refl

pub fee-patron : (f : Fee) (row : Row) → record_of.Fee f ≡ fee_told row → f.patron ≡ field 1 row
unfolding fee-of
fee-patron f row e = ap (λ (x : Record). (fee-of f x).patron) e

or-nothing : (b : Bool) → (b || false) ≡ b
or-nothing true = refl
or-nothing false = refl

-- whether there is a fee with this id, open or closed
by-fee : (r : Rows) (id : List ℕ) (old : Entries) → AreTold r old → is_some (record_at old (key.Fee id)) ≡ (has_row 0 id r.fees || has_row 0 id r.closed)
by-fee r id old tells = ap is_some (tells (key.Fee id)) ∙ is_some-either fee_told closed_told (row_with 0 id r.fees) (row_with 0 id r.closed)

fee-judged : (first : Option ℕ) (r : Rows) (row : Row) (said : FeeRow) → SaysFee said row
    → cond (has_row 0 (field 0 row) r.fees) (Some rule.Double)
    (option_or (cond (not (has_row 0 (field 1 row) r.patrons)) (Some rule.Patron) None)
    (cond (not (is_owing row)) (Some rule.Paid)
    (cond (is_taken first (field 0 row)) (Some rule.Number) None)))
    ≡ fee_rule first r.patrons r.fees row
unfolding fee_rule
fee-judged first r row said says =
    let (texts, values, i, f) = says in
    rw (texts, values) (ap (cond (has_row 0 (field 0 row) r.fees) (Some rule.Double))
    (or-cond (not (has_row 0 (field 1 row) r.patrons)) rule.Patron None (cond (not (is_owing row)) (Some rule.Paid) (cond (is_taken first (field 0 row)) (Some rule.Number) None))))

-- the rule of a row of open fees, by what was found at its id, by its patron's rule and by its own
pub fee-by : (first : Option ℕ) (r : Rows) (row : Row) (said : FeeRow) (old mid : Entries)
    (double : Bool) (known own : Option BaseRule) → SaysFee said row → AreTold r old → r.closed ≡ []
    → IsPut (key.Fee said.id) (record_of.Fee said.fee) old mid
    → double ≡ is_some (record_at old (key.Fee said.id))
    → known ≡ broken_by (change.Owes said.id) (record_at mid (key.Patron said.fee.patron))
    → own ≡ cond (not (nat_lt said.fee.paid said.fee.amount)) (Some rule.Paid)
    (cond (is_taken first said.id) (Some rule.Number) None)
    → cond double (Some rule.Double) (option_or known own) ≡ fee_rule first r.patrons r.fees row
unfolding is_owing fee-of
fee-by first r row said old mid double known own says tells none put d k o =
    let (texts, values, i, f) = says in
    let twice : double ≡ has_row 0 (field 0 row) r.fees =
    d ∙ by-fee r said.id old tells ∙ ap (λ (l : List Row). has_row 0 said.id r.fees || has_row 0 said.id l) none ∙ or-nothing (has_row 0 said.id r.fees) ∙ ap (λ (t : List ℕ). has_row 0 t r.fees) i in
    let patron : known ≡ cond (not (has_row 0 (field 1 row) r.patrons)) (Some rule.Patron) None =
    k ∙ ap (broken_by (change.Owes said.id)) (put (key.Patron said.fee.patron) ∙ tells (key.Patron said.fee.patron)) ∙ owing-patron r said.fee.patron said.id (row_with 0 said.fee.patron r.patrons)
    ∙ ap (λ (x : Record). cond (not (has_row 0 (fee-of said.fee x).patron r.patrons)) (Some rule.Patron) None) f in
    let alone : own ≡ cond (not (is_owing row)) (Some rule.Paid) (cond (is_taken first (field 0 row)) (Some rule.Number) None) =
    o ∙ ap (λ (x : Record). cond (not (nat_lt (fee-of said.fee x).paid (fee-of said.fee x).amount)) (Some rule.Paid) (cond (is_taken first said.id) (Some rule.Number) None)) f
    ∙ ap (λ (t : List ℕ). cond (not (is_owing row)) (Some rule.Paid)
    (cond (is_taken first t) (Some rule.Number) None)) i in
    rw (twice, patron, alone) (fee-judged first r row said says)

-- CLOSED FEES

closed-judged : (first : Option ℕ) (r : Rows) (row : Row) (said : FeeRow) → SaysClosed said row
    → cond (has_row 0 (field 0 row) r.fees || has_row 0 (field 0 row) r.closed) (Some rule.Double) (cond (not (has_row 0 (field 1 row) r.patrons)) (Some rule.Patron) (cond (is_taken first (field 0 row)) (Some rule.Number) None))
    ≡ closed_rule first r.patrons r.fees r.closed row
unfolding closed_rule
closed-judged first r row said says = let (texts, values, i, f) = says in rw (texts, values) refl

-- the rule of a row of closed fees, by what was found at its id and at its patron
pub closed-by : (first : Option ℕ) (r : Rows) (row : Row) (said : FeeRow) (old mid : Entries)
    (double patron taken : Bool) → SaysClosed said row → AreTold r old
    → IsPut (key.Fee said.id) (record_of.Fee said.fee) old mid → double ≡ is_some (record_at old (key.Fee said.id))
    → patron ≡ is_some (record_at mid (key.Patron said.fee.patron)) → taken ≡ is_taken first said.id
    → cond double (Some rule.Double)
    (cond (not patron) (Some rule.Patron) (cond taken (Some rule.Number) None))
    ≡ closed_rule first r.patrons r.fees r.closed row
unfolding fee-of
closed-by first r row said old mid double patron taken says tells put d p n =
    let (texts, values, i, f) = says in
    let twice : double ≡ (has_row 0 (field 0 row) r.fees || has_row 0 (field 0 row) r.closed) =
    d ∙ by-fee r said.id old tells ∙ ap (λ (t : List ℕ). has_row 0 t r.fees || has_row 0 t r.closed) i in
    let known : patron ≡ has_row 0 (field 1 row) r.patrons =
    p ∙ ap is_some (put (key.Patron said.fee.patron) ∙ tells (key.Patron said.fee.patron)) ∙ is_some-map (patron_told r said.fee.patron) (row_with 0 said.fee.patron r.patrons)
    ∙ ap (λ (x : Record). has_row 0 (fee-of said.fee x).patron r.patrons) f in
    rw (twice, known, n, i) (closed-judged first r row said says)

-- HOLDS

loan-of-row : (patron : List ℕ) (w : Option Row) → is_loan_of patron (option_map loan_in w) ≡ is_of_patron patron w
loan-of-row patron None = refl
loan-of-row patron (Some row) = refl

-- whether there is such an item, that isn't the patron's and for which not too many wait
awaited : (r : Rows) (id : List ℕ) (hold : Hold) (w : Option Row)
    → broken_by (change.Awaited hold) (option_map (item_told r id) w)
    ≡ cond (not (is_some w)) (Some rule.Item)
    (cond (is_borrower hold.patron id r.loans) (Some rule.Borrower)
    (cond (is_full id r.holds) (Some rule.Queue) None))
unfolding is_borrower is_full
awaited r id hold None = refl
awaited r id hold (Some row) =
    ap (λ b. cond b (Some rule.Borrower) (cond (nat_le QUEUE_MAX (length (map hold_in (rows_with 0 id r.holds)))) (Some rule.Queue) None)) (loan-of-row hold.patron (row_with 1 id r.loans))
    ∙ ap (λ n. cond (is_of_patron hold.patron (row_with 1 id r.loans)) (Some rule.Borrower)
    (cond (nat_le QUEUE_MAX n) (Some rule.Queue) None)) (as-many (rows_with 0 id r.holds))

hold-judged : (r : Rows) (row : Row) → has_hold_texts row ≡ true
    → cond (has_hold (field 0 row) (field 1 row) r.holds) (Some rule.Double)
    (cond (not (has_row 0 (field 1 row) r.patrons)) (Some rule.Patron)
    (cond (not (has_row 0 (field 0 row) r.items)) (Some rule.Item) (cond (is_borrower (field 1 row) (field 0 row) r.loans) (Some rule.Borrower) (cond (is_full (field 0 row) r.holds) (Some rule.Queue) None))))
    ≡ hold_rule r.patrons r.items r.loans r.holds row
unfolding hold_rule
hold-judged r row texts = rw texts refl

-- the rule of a row of holds, by whether its patron waits already, by its patron and by its item
pub hold-by : (r : Rows) (row : Row) (old : Entries) (waiting : BTreeSet (List ℕ × List ℕ))
    (item : List ℕ) (hold : Hold) (added known : Bool) → has_hold_texts row ≡ true
    → item ≡ field 0 row → hold ≡ hold_in row
    → AreTold r old → AreWaiting r.holds waiting
    → added ≡ not (contains pair_cmp waiting (item, hold.patron))
    → known ≡ is_some (record_at old (key.Patron hold.patron))
    → cond (not added) (Some rule.Double)
    (cond (not known) (Some rule.Patron)
    (broken_by (change.Awaited hold) (record_at old (key.Item item))))
    ≡ hold_rule r.patrons r.items r.loans r.holds row
hold-by r row old waiting item hold added known texts i h tells are a k =
    let double : not added ≡ has_hold (field 0 row) (field 1 row) r.holds =
    ap not a ∙ not-twice (contains pair_cmp waiting (item, hold.patron)) ∙ are item hold.patron ∙ ap (λ (t : List ℕ). has_hold t hold.patron r.holds) i ∙ ap (λ (x : Hold). has_hold (field 0 row) x.patron r.holds) h in
    let patron : known ≡ has_row 0 (field 1 row) r.patrons =
    k ∙ ap is_some (tells (key.Patron hold.patron)) ∙ is_some-map (patron_told r hold.patron) (row_with 0 hold.patron r.patrons) ∙ ap (λ (x : Hold). has_row 0 x.patron r.patrons) h in
    let found : broken_by (change.Awaited hold) (record_at old (key.Item item))
    ≡ cond (not (has_row 0 (field 0 row) r.items)) (Some rule.Item)
    (cond (is_borrower (field 1 row) (field 0 row) r.loans) (Some rule.Borrower)
    (cond (is_full (field 0 row) r.holds) (Some rule.Queue) None)) =
    ap (broken_by (change.Awaited hold)) (tells (key.Item item)) ∙ awaited r item hold (row_with 0 item r.items)
    ∙ ap (λ (t : List ℕ). cond (not (has_row 0 t r.items)) (Some rule.Item)
    (cond (is_borrower hold.patron t r.loans) (Some rule.Borrower)
    (cond (is_full t r.holds) (Some rule.Queue) None))) i
    ∙ ap (λ (x : Hold). cond (not (has_row 0 (field 0 row) r.items)) (Some rule.Item)
    (cond (is_borrower x.patron (field 0 row) r.loans) (Some rule.Borrower)
    (cond (is_full (field 0 row) r.holds) (Some rule.Queue) None))) h in
    rw (double, patron, found) (hold-judged r row texts)
  where
    not-twice : (b : Bool) → not (not b) ≡ b
    not-twice true = refl
    not-twice false = refl
