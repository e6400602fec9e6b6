-- How great the values of rows are.
use Rattle.std.proofs.Common.{◌≡◌, ◌≤◌, ◌<◌, ◌^◌, ℕ, List, Bool, true, false, cond, not, Option, Some, None, length, take, drop, refl, subst, arith}
use Rattle.std.specs.Prelude.{is_some, nat_le, ◌&&◌, ◌==◌, unwrap_or, slice_index, IfSome}
use Rattle.std.specs.Char.{is_ascii_digit}
use Rattle.std.specs.List.{list_all}
use Rattle.std.specs.Str.Parse.{digits_value}
use Rattle.std.proofs.lemmas.Bool.{leb-true, lt-leb}
use Rattle.sip_reader.specs.Amounts.{amount_of, whole_len}
use Rattle.sip_reader.specs.Dates.{two_at, year_at}
use Rattle.sip_reader.specs.Days.{day_at}
use Rattle.circ_records.specs.MadeFees.{is_from, line_before, line_of, may_be_made}
use Rattle.circ_records.specs.MadeFees as MadeFees
use Rattle.circ_records.specs.Texts.{decimal_of, has_leading_zero, is_decimal}
use Rattle.sip_reader.proofs.Bounds.{amount-bound, digits-bound}
use Rattle.record_tables.specs.Values.{due_of, hundredths, is_date, renewals_of, within}

-- RENEWALS AND DAYS

pub renewals-bound : (text : List ℕ) → unwrap_or (renewals_of text) 0 ≤ 4294967295
unfolding renewals_of
renewals-bound text = by (decimal_of 10 text)
  where
    short : (n : ℕ) (b : Bool) → nat_le n 4294967295 ≡ b → unwrap_or (cond b (Some n) None) 0 ≤ 4294967295
    short n true e = leb-true n 4294967295 e
    short n false e = omega arith

    by : (o : Option ℕ) → unwrap_or (within 4294967295 o) 0 ≤ 4294967295
    by None = omega arith
    by (Some n) = short n (nat_le n 4294967295) refl

pub due-real : (text : List ℕ) → is_some (due_of text) ≡ true
    → (year : ℕ) × (month : ℕ) × (day : ℕ)
    × (day_at year month day ≡ Some (unwrap_or (due_of text) 0))
unfolding due_of
due-real text there = (year_at text, two_at 4 text, two_at 6 text, by (is_date text) (day_at (year_at text) (two_at 4 text) (two_at 6 text)) there)
  where
    by : (b : Bool) (o : Option ℕ) → is_some (cond b o None) ≡ true → o ≡ Some (unwrap_or (cond b o None) 0)
    by true (Some n) e = refl
    by true None e = cc e
    by false o e = cc e

-- AMOUNTS

pub hundredths-bound : (text : List ℕ) → hundredths text ≤ 99999999999
hundredths-bound text = by (amount_of text) (amount-bound text)
  where
    by : (o : Option ℕ) → IfSome o (λ n. n ≤ 99999999999) → unwrap_or o 0 ≤ 99999999999
    by None h = omega arith
    by (Some n) h = h

-- NUMBERS OF LINES

decimal-bound : (text : List ℕ) (n : ℕ) → decimal_of 10 text ≡ Some n → n < 10 ^ 10
unfolding decimal_of is_decimal
decimal-bound text n e = by (nat_le 1 (length text)) (nat_le (length text) 10) refl (list_all is_ascii_digit text) refl (not (has_leading_zero text)) e
  where
    by : (a b : Bool) → nat_le (length text) 10 ≡ b → (d : Bool) → list_all is_ascii_digit text ≡ d
        → (z : Bool) → cond (a && (b && (d && z))) (Some (digits_value 10 text)) None ≡ Some n
        → n < 10 ^ 10
    by true true few true digits true e =
        let value : digits_value 10 text ≡ n = cc e in
        subst (λ (m : ℕ). m < 10 ^ 10) value (digits-bound text 10 digits (leb-true (length text) 10 few))
    by true true few true digits false e = cc e
    by true true few false digits z e = cc e
    by true false few d digits z e = cc e
    by false b few d digits z e = cc e

-- after the last number that a line can have none makes a fee
pub none-made : (id : List ℕ) → may_be_made 10000000000 id ≡ false
unfolding line_of line_before
none-made id = by (nat_le 1 (length id) && (slice_index id 0 == 82)) (MadeFees.is_count (drop (whole_len (drop 1 id)) (drop 1 id))) (decimal_of 10 (take (whole_len (drop 1 id)) (drop 1 id))) refl
  where
    by : (a b : Bool) (o : Option ℕ) → decimal_of 10 (take (whole_len (drop 1 id)) (drop 1 id)) ≡ o
        → is_from 10000000000 (cond a (cond b o None) None) ≡ false
    by true true None e = refl
    by true true (Some n) e = let small : n < 10 ^ 10 = decimal-bound (take (whole_len (drop 1 id)) (drop 1 id)) n e in lt-leb 10000000000 n (omega arith)
    by true false o e = refl
    by false b o e = refl
