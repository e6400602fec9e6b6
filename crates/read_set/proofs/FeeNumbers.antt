-- The ids of made fees: which line an id is of, and that no two fees of a line have one.
use Rattle.std.proofs.Common.{◌≡◌, ◌∙◌, ◌≤◌, ◌<◌, ◌+◌, ◌^◌, ℕ, zero, suc, Bool, true, false, List, [], ◌∷◌, ◌++◌, length, get_or, drop, Option, Some, None, refl, sym, ap, arith, true≢false, inl, inr}
use Rattle.std.specs.Prelude.{decimal, nat_le, ◌&&◌}
use Rattle.std.specs.Char.{is_ascii_digit}
use Rattle.std.specs.List.{list_all}
use Rattle.std.specs.Str.Parse.{digits_value}
use Rattle.std.proofs.lemmas.Bool.{le-leb, ne_eqb, cases_lt, lt-leb}
use Rattle.std.proofs.Math.Seq.{drop-append_seam, take-append_seam}
use Rattle.std.proofs.lemmas.List.{append_assoc}
use Rattle.std.proofs.lemmas.Fmt.{decimal_digit, decimal_is_IsNumeral, first_decimal, length-decimal-le}
use Rattle.sip_reader.specs.Amounts.{whole_len}
use Rattle.sip_reader.specs.Texts.{fee_id}
use Rattle.sip_reader.proofs.AmountTexts.{digits_all}
use Rattle.circ_records.specs.MadeFees.{is_count, line_before, line_of, is_from, may_be_made}
use Rattle.circ_records.specs.Texts.{decimal_of, has_leading_zero, is_decimal}

and-false : (b : Bool) → (b && false) ≡ false
and-false true = refl
and-false false = refl

-- no number is written with a zero in front of others
no-leading-zero : (n : ℕ) → n < 2 ^ 64 → has_leading_zero (decimal n) ≡ false
no-leading-zero zero small = rw (decimal_digit 0 (omega arith)) refl
no-leading-zero (suc n) small =
    let high = first_decimal (suc n) (omega arith) small in
    ap (λ b. nat_le 2 (length (decimal (suc n))) && b) (ne_eqb (get_or (decimal (suc n)) 0 0) 48 (λ is. absurd (omega (arith, high, is)))) ∙ and-false (nat_le 2 (length (decimal (suc n))))

decimal-ten : (n : ℕ) → n ≤ 9999999999 → is_decimal 10 (decimal n) ≡ true
unfolding is_decimal
decimal-ten n most =
    let numeral = decimal_is_IsNumeral n (omega (arith, most)) in
    let short = length-decimal-le 10 n (omega arith) (omega (arith, most)) (omega (arith, most)) in
    rw (le-leb 1 (length (decimal n)) numeral.0.0, le-leb (length (decimal n)) 10 short, digits_all (decimal n) numeral.0.1, no-leading-zero n (omega (arith, most))) refl

decimal-twenty : (n : ℕ) → n < 2 ^ 64 → is_decimal 20 (decimal n) ≡ true
unfolding is_decimal
decimal-twenty n most =
    let numeral = decimal_is_IsNumeral n (omega (arith, most)) in
    let short = length-decimal-le 20 n (omega arith) (omega (arith, most)) (omega (arith, most)) in
    rw (le-leb 1 (length (decimal n)) numeral.0.0, le-leb (length (decimal n)) 20 short, digits_all (decimal n) numeral.0.1, no-leading-zero n most) refl

decimal-back : (n : ℕ) → n ≤ 9999999999 → decimal_of 10 (decimal n) ≡ Some n
unfolding decimal_of
decimal-back n most =
    let numeral = decimal_is_IsNumeral n (omega (arith, most)) in
    rw (decimal-ten n most, numeral.1) refl

-- the id of a made fee: R, the line, a dash, the count
fee-shape : (n k : ℕ) → fee_id n k ≡ 82 ∷ (decimal n ++ 45 ∷ decimal k)
unfolding fee_id
fee-shape n k = ap (λ x. 82 ∷ x) (append_assoc (decimal n) (45 ∷ []) (decimal k))

and-left : (a b : Bool) → (a && b) ≡ true → a ≡ true
and-left true b h = refl
and-left false b h = h

and-right : (a b : Bool) → (a && b) ≡ true → b ≡ true
and-right true b h = h
and-right false b h = absurd (true≢false (sym h))

-- the digits at the front end at a dash
digits-front : (ds rest : List ℕ) → list_all is_ascii_digit ds ≡ true → whole_len (ds ++ 45 ∷ rest) ≡ length ds
digits-front [] rest h = refl
digits-front (d ∷ ds) rest h =
    rw (and-left (is_ascii_digit d) (list_all is_ascii_digit ds) h, digits-front ds rest (and-right (is_ascii_digit d) (list_all is_ascii_digit ds) h)) (omega arith)

dash-count : (k : ℕ) → k < 2 ^ 64 → is_count (45 ∷ decimal k) ≡ true
unfolding is_count
dash-count k small = rw (decimal-twenty k small, le-leb 1 (length (45 ∷ decimal k)) (omega arith)) refl

line-before : (n k : ℕ) → n ≤ 9999999999 → k < 2 ^ 64 → line_before (decimal n ++ 45 ∷ decimal k) ≡ Some n
unfolding line_before
line-before n k most small =
    let numeral = decimal_is_IsNumeral n (omega (arith, most)) in
    rw (digits-front (decimal n) (decimal k) (digits_all (decimal n) numeral.0.1), drop-append_seam (decimal n) (45 ∷ decimal k), dash-count k small, take-append_seam (decimal n) (45 ∷ decimal k)) (decimal-back n most)

pub line-of-fee : (n k : ℕ) → n ≤ 9999999999 → k < 2 ^ 64 → line_of (fee_id n k) ≡ Some n
unfolding line_of
line-of-fee n k most small = rw (fee-shape n k, le-leb 1 (length (82 ∷ (decimal n ++ 45 ∷ decimal k))) (omega arith)) (line-before n k most small)

pub made-now : (n k : ℕ) → n ≤ 9999999999 → k < 2 ^ 64 → may_be_made n (fee_id n k) ≡ true
made-now n k most small = ap (is_from n) (line-of-fee n k most small) ∙ le-leb n n (omega arith)

pub made-later : (n k : ℕ) → n ≤ 9999999999 → k < 2 ^ 64 → may_be_made (n + 1) (fee_id n k) ≡ false
made-later n k most small = ap (is_from (n + 1)) (line-of-fee n k most small) ∙ lt-leb (n + 1) n (omega arith)

pub not-later : (n : ℕ) (id : List ℕ) → may_be_made n id ≡ false → may_be_made (n + 1) id ≡ false
not-later n id = by (line_of id)
  where
    by : (o : Option ℕ) → is_from n o ≡ false → is_from (n + 1) o ≡ false
    by None h = refl
    by (Some line) h = elim (cases_lt n line) [
      | inl lt ↦ absurd (true≢false (sym (le-leb n line (omega (arith, lt))) ∙ h))
      | inr le ↦ lt-leb (n + 1) line (omega (arith, le))
    ]

-- a number is known by its digits
decimal-one : (j k : ℕ) → j < 2 ^ 64 → k < 2 ^ 64 → decimal j ≡ decimal k → j ≡ k
decimal-one j k a b e = sym (decimal_is_IsNumeral j a).1 ∙ ap (digits_value 10) e ∙ (decimal_is_IsNumeral k b).1

pub one-count : (n j k : ℕ) → j < 2 ^ 64 → k < 2 ^ 64 → fee_id n j ≡ fee_id n k → j ≡ k
one-count n j k a b e =
    let rest : decimal n ++ 45 ∷ decimal j ≡ decimal n ++ 45 ∷ decimal k = ap (drop 1) (sym (fee-shape n j) ∙ e ∙ fee-shape n k) in
    let dash : (45 ∷ decimal j) ≡ (45 ∷ decimal k) = sym (drop-append_seam (decimal n) (45 ∷ decimal j)) ∙ ap (drop (length (decimal n))) rest ∙ drop-append_seam (decimal n) (45 ∷ decimal k) in
    decimal-one j k a b (ap (drop 1) dash)
