-- What holds of a row that breaks no rule.
use Rattle.std.proofs.Common.{◌≡◌, ℕ, List, Option, Some, None, Bool, true, false, cond, not, refl}
use Rattle.std.specs.Prelude.{is_some, ◌||◌}
use Rattle.circ_policy.specs.Terms.{Terms}
use Rattle.circ_records.specs.MadeFees.{is_taken}
use Rattle.record_tables.specs.Rules.{closed_rule, fee_rule, has_closed_values, has_fee_texts, has_fee_values, has_hold, has_hold_texts, has_item_texts, has_loan_texts, has_loan_values, has_media, has_patron_texts, has_row, hold_rule, is_borrower, is_full, is_owing, item_rule, loan_rule, patron_rule}
use Rattle.circ_records.specs.Classes.{has_class}
use Rattle.record_tables.specs.Tables.{Row, field}
use Rattle.record_tables.specs.Values.{flag_of}
use Rattle.circ_records.specs.declared.rule.BaseRule.{BaseRule}
use Rattle.circ_records.specs.declared.rule.BaseRule.TheVariants as rule

-- a rule that isn't broken
step : (b : Bool) (r : BaseRule) (o : Option BaseRule) → cond b (Some r) o ≡ None → (b ≡ false) × (o ≡ None)
step true r o e = cc e
step false r o e = (refl, e)

met : (b : Bool) → not b ≡ false → b ≡ true
met true e = refl
met false e = cc e

-- several, one after the other
three : (a b c : Bool) (p q r : BaseRule)
    → cond a (Some p) (cond b (Some q) (cond c (Some r) None)) ≡ None
    → (a ≡ false) × (b ≡ false) × (c ≡ false)
three a b c p q r e =
    let s = step a p (cond b (Some q) (cond c (Some r) None)) e in
    let t = step b q (cond c (Some r) None) s.1 in
    (s.0, t.0, (step c r None t.1).0)

four : (a b c d : Bool) (p q r s : BaseRule)
    → cond a (Some p) (cond b (Some q) (cond c (Some r) (cond d (Some s) None))) ≡ None
    → (a ≡ false) × (b ≡ false) × (c ≡ false) × (d ≡ false)
four a b c d p q r s e = let f = step a p (cond b (Some q) (cond c (Some r) (cond d (Some s) None))) e in let (y, z, w) = three b c d q r s f.1 in (f.0, y, z, w)

five : (a b c d e : Bool) (p q r s t : BaseRule)
    → cond a (Some p) (cond b (Some q) (cond c (Some r) (cond d (Some s) (cond e (Some t) None))))
    ≡ None
    → (a ≡ false) × (b ≡ false) × (c ≡ false) × (d ≡ false) × (e ≡ false)
five a b c d e p q r s t h = let f = step a p (cond b (Some q) (cond c (Some r) (cond d (Some s) (cond e (Some t) None)))) h in let (w, x, y, z) = four b c d e q r s t f.1 in (f.0, w, x, y, z)

six : (a b c d e f : Bool) (p q r s t u : BaseRule)
    → cond a (Some p) (cond b (Some q)
    (cond c (Some r) (cond d (Some s) (cond e (Some t) (cond f (Some u) None))))) ≡ None
    → (a ≡ false) × (b ≡ false) × (c ≡ false) × (d ≡ false) × (e ≡ false) × (f ≡ false)
six a b c d e f p q r s t u h =
    let g = step a p (cond b (Some q) (cond c (Some r) (cond d (Some s) (cond e (Some t) (cond f (Some u) None))))) h in
    let (v, w, x, y, z) = five b c d e f q r s t u g.1 in
    (g.0, v, w, x, y, z)

pub record KeptPatron (policy : Terms) (before : List Row) (row : Row) : Type 0 where
  pub texts : has_patron_texts row ≡ true
  pub value : is_some (flag_of (field 3 row)) ≡ true
  pub fresh : has_row 0 (field 0 row) before ≡ false
  pub class : has_class policy (field 2 row) ≡ true

pub kept-patron : (policy : Terms) (before : List Row) (row : Row)
    → patron_rule policy before row ≡ None → KeptPatron policy before row
unfolding patron_rule
kept-patron policy before row none =
    let (texts, value, double, class) = four (not (has_patron_texts row)) (not (is_some (flag_of (field 3 row)))) (has_row 0 (field 0 row) before) (not (has_class policy (field 2 row)))
    rule.Text rule.Value rule.Double rule.Class none in
    record { texts = met _ texts; value = met _ value; fresh = double; class = met _ class }

pub record KeptItem (policy : Terms) (before : List Row) (row : Row) : Type 0 where
  pub texts : has_item_texts row ≡ true
  pub fresh : has_row 0 (field 0 row) before ≡ false
  pub media : has_media policy (field 2 row) ≡ true

pub kept-item : (policy : Terms) (before : List Row) (row : Row)
    → item_rule policy before row ≡ None → KeptItem policy before row
unfolding item_rule
kept-item policy before row none =
    let (texts, double, media) = three (not (has_item_texts row)) (has_row 0 (field 0 row) before) (not (has_media policy (field 2 row))) rule.Text rule.Double rule.Media none in
    record { texts = met _ texts; fresh = double; media = met _ media }

pub record KeptLoan (patrons items before : List Row) (row : Row) : Type 0 where
  pub texts : has_loan_texts row ≡ true
  pub values : has_loan_values row ≡ true
  pub patron : has_row 0 (field 0 row) patrons ≡ true
  pub item : has_row 0 (field 1 row) items ≡ true
  pub fresh : has_row 1 (field 1 row) before ≡ false

pub kept-loan : (patrons items before : List Row) (row : Row)
    → loan_rule patrons items before row ≡ None → KeptLoan patrons items before row
unfolding loan_rule
kept-loan patrons items before row none =
    let (texts, values, patron, item, lent) = five (not (has_loan_texts row)) (not (has_loan_values row)) (not (has_row 0 (field 0 row) patrons)) (not (has_row 0 (field 1 row) items)) (has_row 1 (field 1 row) before)
    rule.Text rule.Value rule.Patron rule.Item rule.Lent none in
    record { texts = met _ texts; values = met _ values; patron = met _ patron; item = met _ item; fresh = lent }

pub record KeptFee (first : Option ℕ) (patrons before : List Row) (row : Row) : Type 0 where
  pub texts : has_fee_texts row ≡ true
  pub values : has_fee_values row ≡ true
  pub fresh : has_row 0 (field 0 row) before ≡ false
  pub patron : has_row 0 (field 1 row) patrons ≡ true
  pub owing : is_owing row ≡ true
  pub number : is_taken first (field 0 row) ≡ false

pub kept-fee : (first : Option ℕ) (patrons before : List Row) (row : Row)
    → fee_rule first patrons before row ≡ None → KeptFee first patrons before row
unfolding fee_rule
kept-fee first patrons before row none =
    let (texts, values, double, patron, paid, number) = six (not (has_fee_texts row)) (not (has_fee_values row)) (has_row 0 (field 0 row) before) (not (has_row 0 (field 1 row) patrons)) (not (is_owing row)) (is_taken first (field 0 row))
    rule.Text rule.Value rule.Double rule.Patron rule.Paid rule.Number none in
    record { texts = met _ texts; values = met _ values; fresh = double; patron = met _ patron; owing = met _ paid; number = number }

pub record KeptClosed (first : Option ℕ) (patrons fees before : List Row) (row : Row) : Type 0 where
  pub texts : has_fee_texts row ≡ true
  pub values : has_closed_values row ≡ true
  pub fresh : (has_row 0 (field 0 row) fees || has_row 0 (field 0 row) before) ≡ false
  pub patron : has_row 0 (field 1 row) patrons ≡ true
  pub number : is_taken first (field 0 row) ≡ false

pub kept-closed : (first : Option ℕ) (patrons fees before : List Row) (row : Row)
    → closed_rule first patrons fees before row ≡ None → KeptClosed first patrons fees before row
unfolding closed_rule
kept-closed first patrons fees before row none =
    let (texts, values, double, patron, number) = five (not (has_fee_texts row)) (not (has_closed_values row)) (has_row 0 (field 0 row) fees || has_row 0 (field 0 row) before) (not (has_row 0 (field 1 row) patrons)) (is_taken first (field 0 row))
    rule.Text rule.Value rule.Double rule.Patron rule.Number none in
    record { texts = met _ texts; values = met _ values; fresh = double; patron = met _ patron; number = number }

pub record KeptHold (patrons items loans before : List Row) (row : Row) : Type 0 where
  pub texts : has_hold_texts row ≡ true
  pub fresh : has_hold (field 0 row) (field 1 row) before ≡ false
  pub patron : has_row 0 (field 1 row) patrons ≡ true
  pub item : has_row 0 (field 0 row) items ≡ true
  pub borrower : is_borrower (field 1 row) (field 0 row) loans ≡ false
  pub few : is_full (field 0 row) before ≡ false

pub kept-hold : (patrons items loans before : List Row) (row : Row)
    → hold_rule patrons items loans before row ≡ None → KeptHold patrons items loans before row
unfolding hold_rule
kept-hold patrons items loans before row none =
    let (texts, double, patron, item, borrower, queue) = six (not (has_hold_texts row)) (has_hold (field 0 row) (field 1 row) before) (not (has_row 0 (field 1 row) patrons)) (not (has_row 0 (field 0 row) items)) (is_borrower (field 1 row) (field 0 row) loans) (is_full (field 0 row) before)
    rule.Text rule.Double rule.Patron rule.Item rule.Borrower rule.Queue none in
    record { texts = met _ texts; fresh = double; patron = met _ patron; item = met _ item; borrower = borrower; few = queue }
