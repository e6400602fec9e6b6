-- What is written of an amount is read back.
use Rattle.std.proofs.Common.{◌≡◌, ◌≤◌, ◌<◌, ◌+◌, ◌*◌, ◌/◌, ◌%◌, ◌^◌, ◌∙◌, ℕ, Bool, true, false, leb, List, [], ◌∷◌, ◌++◌, length, take, drop, Some, refl, ap, arith}
use Rattle.std.specs.Prelude.{decimal, codes}
use Rattle.std.specs.Char.{digit_value, is_ascii_digit}
use Rattle.std.specs.Int.{IsInRange}
use Rattle.std.specs.List.{list_all, prefix_len}
use Rattle.std.specs.Str.Parse.{AllDigits, digits_value}
use Rattle.std.proofs.lemmas.Bool.{and_from, and_parts, le-leb}
use Rattle.std.proofs.lemmas.Fmt.{decimal_digit, decimal_is_IsNumeral, length-decimal-le}
use Rattle.std.proofs.lemmas.Str.{digit_value_digit}
use Rattle.std.proofs.lemmas.Str.Parse.{digit_from_value}
use Rattle.sip_reader.specs.Amounts.{amount_of, amount_text, fraction_of}

-- digits end where a byte is none
front_len : (p : ℕ → Bool) (xs : List ℕ) (y : ℕ) (ys : List ℕ) → list_all p xs ≡ true → p y ≡ false
    → prefix_len p (xs ++ y ∷ ys) ≡ length xs
front_len p [] y ys all stop = rw stop refl
front_len p (x ∷ xs) y ys all stop =
    let parts = and_parts (p x) (list_all p xs) all in
    rw parts.0 (omega (arith, front_len p xs y ys parts.1 stop))

take_front : (xs ys : List ℕ) → take (length xs) (xs ++ ys) ≡ xs
take_front [] ys = refl
take_front (x ∷ xs) ys = ap (λ (l : List ℕ). x ∷ l) (take_front xs ys)

drop_front : (xs ys : List ℕ) → drop (length xs) (xs ++ ys) ≡ ys
drop_front [] ys = refl
drop_front (x ∷ xs) ys = drop_front xs ys

is_digit : (c : ℕ) → IsInRange 48 57 c → is_ascii_digit c ≡ true
is_digit c h = and_from (leb 48 c) (leb c 57) (le-leb 48 c h.0) (le-leb c 57 h.1)

pub digits_all : (ds : List ℕ) → AllDigits 10 ds → list_all is_ascii_digit ds ≡ true
digits_all [] h = refl
digits_all (c ∷ cs) h =
    and_from (is_ascii_digit c) (list_all is_ascii_digit cs) (is_digit c (digit_from_value c h.0)) (digits_all cs h.1)

two_digits : (c d : ℕ) → IsInRange 48 57 c → IsInRange 48 57 d
    → fraction_of (46 ∷ c ∷ d ∷ []) ≡ Some (digit_value c * 10 + digit_value d)
two_digits c d hc hd = rw (is_digit c hc, is_digit d hd) refl

read : (w : List ℕ) (c d : ℕ) → list_all is_ascii_digit w ≡ true → 1 ≤ length w → length w ≤ 9
    → IsInRange 48 57 c → IsInRange 48 57 d
    → amount_of (w ++ 46 ∷ c ∷ d ∷ []) ≡ Some (digits_value 10 w * 100 + (digit_value c * 10 + digit_value d))
unfolding amount_of
read w c d all some few hc hd =
    rw (front_len is_ascii_digit w 46 (c ∷ d ∷ []) all refl, le-leb 1 (length w) some, le-leb (length w) 9 few, take_front w (46 ∷ c ∷ d ∷ []), drop_front w (46 ∷ c ∷ d ∷ []), two_digits c d hc hd) refl

nested : (w : List ℕ) (c d : ℕ) → w ++ codes "." ++ (c ∷ []) ++ (d ∷ []) ≡ w ++ 46 ∷ c ∷ d ∷ []
nested [] c d = refl
nested (x ∷ xs) c d = ap (λ (l : List ℕ). x ∷ l) (nested xs c d)

pub amount_of-amount_text : (n : ℕ) → n ≤ 99_999_999_999 → amount_of (amount_text n) ≡ Some n
unfolding amount_text
amount_of-amount_text n most =
    let tenths : n / 10 % 10 < 10 = omega arith in
    let ones : n % 10 < 10 = omega arith in
    let whole : n / 100 < 10 ^ 9 = omega (arith, most) in
    let numeral = decimal_is_IsNumeral (n / 100) (omega (arith, most)) in
    let short = length-decimal-le 9 (n / 100) (omega arith) whole (omega (arith, most)) in
    rw (decimal_digit (n / 10 % 10) tenths, decimal_digit (n % 10) ones, nested (decimal (n / 100)) (48 + n / 10 % 10) (48 + n % 10))
    (read (decimal (n / 100)) (48 + n / 10 % 10) (48 + n % 10) (digits_all (decimal (n / 100)) numeral.0.1) numeral.0.0 short (omega arith, omega arith) (omega arith, omega arith)
    ∙ ap Some (omega (
      arith,
      numeral.1,
      digit_value_digit (48 + n / 10 % 10)
          (omega arith, omega arith),
      digit_value_digit (48 + n % 10) (omega arith, omega arith),
    )))
