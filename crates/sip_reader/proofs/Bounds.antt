-- How great the numbers of digits and of amounts are.
use Rattle.std.proofs.Common.{◌≡◌, ◌≤◌, ◌<◌, ◌^◌, ◌+◌, ◌*◌, ℕ, List, [], ◌∷◌, Bool, true, false, cond, Option, Some, None, length, length-take, take, drop, refl, sym, ap, ◌∙◌, arith}
use Rattle.std.specs.Prelude.{IfSome, nat_le, ◌&&◌, ◌==◌, option_map}
use Rattle.std.specs.Char.{digit_value, is_ascii_digit}
use Rattle.std.specs.List.{list_all}
use Rattle.std.specs.Str.{all_ascii_digits}
use Rattle.std.specs.Str.Parse.{digits_value}
use Rattle.std.proofs.lemmas.Bool.{and_parts, leb-true, lt-leb}
use Rattle.std.proofs.lemmas.Bool.Decides.{nat_tests}
use Rattle.std.proofs.lemmas.Str.Parse.{IsNumeralModel, digits_value_short, numerals_by_value, tells_all_ascii_digits}
use Rattle.sip_reader.proofs.Digits.{front_passes}
use Rattle.sip_reader.specs.Amounts.{amount_of, fraction_of, whole_len}

-- DIGITS

own : IsNumeralModel (λ ds. all_ascii_digits ds ≡ true) (digits_value 10)
own = numerals_by_value _ tells_all_ascii_digits

all-digits : (bs : List ℕ) → list_all is_ascii_digit bs ≡ all_ascii_digits bs
all-digits [] = refl
all-digits (b ∷ bs) = ap (λ t. is_ascii_digit b && t) (all-digits bs)

pub digits-bound : (bs : List ℕ) (k : ℕ) → list_all is_ascii_digit bs ≡ true → length bs ≤ k
    → digits_value 10 bs < 10 ^ k
digits-bound bs k d few = digits_value_short own bs k (sym (all-digits bs) ∙ d) few

-- AMOUNTS

digit-small : (c : ℕ) → is_ascii_digit c ≡ true → digit_value c ≤ 9
digit-small c e = grind (arith, nat_tests)

fraction-bound : (f : List ℕ) (h : ℕ) → fraction_of f ≡ Some h → h ≤ 99
fraction-bound [] h e = let zero : 0 ≡ h = cc e in omega arith
fraction-bound (x ∷ []) h e = cc e
fraction-bound (x ∷ y ∷ []) h e = by (x == 46) (is_ascii_digit y) refl e
  where
    by : (p q : Bool) → is_ascii_digit y ≡ q
        → cond (p && (q && true)) (Some (digit_value y * 10)) None ≡ Some h → h ≤ 99
    by true true d e =
        let value : digit_value y * 10 ≡ h = cc e in let small : digit_value y ≤ 9 = digit-small y d in omega arith
    by true false d e = cc e
    by false q d e = cc e
fraction-bound (x ∷ y ∷ z ∷ []) h e = by (x == 46) (is_ascii_digit y) refl (is_ascii_digit z) refl e
  where
    by : (p q : Bool) → is_ascii_digit y ≡ q → (r : Bool) → is_ascii_digit z ≡ r
        → cond (p && (q && (r && true))) (Some (digit_value y * 10 + digit_value z)) None ≡ Some h
        → h ≤ 99
    by true true d true f e =
        let value : digit_value y * 10 + digit_value z ≡ h = cc e in
        let small : digit_value y ≤ 9 = digit-small y d in
        let last : digit_value z ≤ 9 = digit-small z f in
        omega arith
    by true true d false f e = cc e
    by true false d r f e = cc e
    by false q d r f e = cc e
fraction-bound (x ∷ y ∷ z ∷ w ∷ f) h e =
    let len = length (x ∷ y ∷ z ∷ w ∷ f) in
    by (len == 0) (nat_le 2 len) (nat_le len 3) (lt-leb len 3 (omega arith)) ((x == 46) && list_all is_ascii_digit (y ∷ z ∷ w ∷ f)) (cond (len == 2) (digit_value y * 10) (digit_value y * 10 + digit_value z)) e
  where
    by : (n a b : Bool) → b ≡ false → (p : Bool) (v : ℕ)
        → cond n (Some 0) (cond (a && (b && p)) (Some v) None) ≡ Some h → h ≤ 99
    by true a b apart p v e = let zero : 0 ≡ h = cc e in omega arith
    by false a true apart p v e = cc apart
    by false true false apart p v e = cc e
    by false false false apart p v e = cc e

pub amount-bound : (text : List ℕ) → IfSome (amount_of text) (λ n. n ≤ 99999999999)
unfolding amount_of
amount-bound text =
    by (nat_le 1 (whole_len text) && nat_le (whole_len text) 9) refl (fraction_of (drop (whole_len text) text)) refl
  where
    by : (b : Bool) → (nat_le 1 (whole_len text) && nat_le (whole_len text) 9) ≡ b → (o : Option ℕ)
        → fraction_of (drop (whole_len text) text) ≡ o
        → IfSome (cond b (option_map
        (λ h. digits_value 10 (take (whole_len text) text) * 100 + h) o) None)
        (λ n. n ≤ 99999999999)
    by false e o f = tt
    by true e None f = tt
    by true e (Some h) f =
        let p = and_parts (nat_le 1 (whole_len text)) (nat_le (whole_len text) 9) e in
        let nine : whole_len text ≤ 9 = leb-true (whole_len text) 9 p.1 in
        let few : length (take (whole_len text) text) ≤ 9 = omega (arith, length-take (whole_len text) text) in
        let whole : digits_value 10 (take (whole_len text) text) < 10 ^ 9 = digits-bound (take (whole_len text) text) 9 (front_passes is_ascii_digit text) few in
        let rest : h ≤ 99 = fraction-bound (drop (whole_len text) text) h f in
        omega arith
