-- The rows of a journal: written one after the other, and read again.
use Rattle.std.proofs.Common.{◌≡◌, ◌+◌, ◌<◌, ◌≤◌, ◌^◌, ℕ, suc, List, [], ◌∷◌, ◌++◌, length, take, get_or, Option, Some, None, Ok, true, false, refl, sym, ap, arith, append_assoc, ◌∙◌}
use Rattle.std.specs.Prelude.{nat_le, nat_lt, option_map}
use Rattle.std.specs.Fmt.{decimal}
use Rattle.std.specs.List.{AllByRecursion}
use Rattle.std.specs.Str.{all_ascii_digits}
use Rattle.std.specs.Str.Parse.{digits_value}
use Rattle.std.proofs.lemmas.Bool.{eq-eqb, le-leb, le-ltb}
use Rattle.std.proofs.lemmas.Fmt.{digits_decimal, digits_value-decimal, first_decimal, length-decimal-le}
use Rattle.std.proofs.lemmas.List.{length-take-le, take_more}
use Rattle.std.proofs.lemmas.Str.Parse.{IsNumeralModel, numerals_by_value, tells_all_ascii_digits}
use Rattle.csv.specs.Writing.{default_writer, row_text}
use Rattle.csv_table.specs.Text.{IsPlainHeader, Written, table_text, with_row, written}
use Rattle.csv_table.proofs.Written.{with_row-written, written-back}
use Rattle.journal_table.specs.Journal.{follows, header, journal_of, lines_from, lines_of}
use Rattle.journal_table.specs.Number.{number_of}
use Rattle.journal_table.specs.declared.TheConstants.{CONNECTION_LIMIT, LINE_LIMIT}
use Rattle.log_pairs.specs.Pairs.{Pair}
use Rattle.log_pairs.specs.Rows.{entries_from, row_of, rows_from}

rows-append : (n : ℕ) (front back : List Pair) → rows_from n (front ++ back) ≡ rows_from n front ++ rows_from (n + length front) back
rows-append n [] back = ap (λ (k : ℕ). rows_from k back) (omega arith)
rows-append n (p ∷ ps) back =
    let next : n + 1 + length ps ≡ n + suc (length ps) = omega arith in
    ap (λ (rest : List (List (List ℕ))). row_of n p ∷ rest) (rows-append (n + 1) ps back ∙ ap (λ (k : ℕ). rows_from (n + 1) ps ++ rows_from k back) next)

text-append : (xs ys : List (List (List ℕ))) → table_text (xs ++ ys) ≡ table_text xs ++ table_text ys
text-append [] ys = refl
text-append (x ∷ xs) ys = rw (text-append xs ys) (sym (append_assoc (row_text default_writer x) (table_text xs) (table_text ys)))

pub joined : (first : ℕ) (front back : List Pair) → table_text (header ∷ rows_from first (front ++ back)) ≡ table_text (header ∷ rows_from first front) ++ table_text (rows_from (first + length front) back)
joined first front back =
    ap (λ (rows : List (List (List ℕ))). table_text (header ∷ rows)) (rows-append first front back)
    ∙ text-append (header ∷ rows_from first front) (rows_from (first + length front) back)

-- the journal with one row more
pub rows-more : (n : ℕ) (ps : List Pair) (i : ℕ) (d : Pair) → i < length ps → rows_from n (take (i + 1) ps) ≡ rows_from n (take i ps) ++ row_of (n + i) (get_or ps i d) ∷ []
rows-more n ps i d below =
    let size : length (take i ps) ≡ i = length-take-le i ps (omega arith) in
    ap (λ (qs : List Pair). rows_from n qs) (take_more ps i d below)
    ∙ rows-append n (take i ps) (get_or ps i d ∷ [])
    ∙ ap (λ (k : ℕ). rows_from n (take i ps) ++ row_of (n + k) (get_or ps i d) ∷ []) size

-- READ AGAIN

own : IsNumeralModel (λ ds. all_ascii_digits ds ≡ true) (digits_value 10)
own = numerals_by_value _ tells_all_ascii_digits

number-by : (bs : List ℕ) (n : ℕ) → 48 < get_or bs 0 0 → length bs ≤ 10 → all_ascii_digits bs ≡ true → digits_value 10 bs ≡ n → number_of bs ≡ Some n
number-by [] n h few all value = absurd (omega arith)
number-by (b ∷ bs) n h few all value =
    let front : nat_le 49 b ≡ true = le-leb 49 b (omega arith) in
    let size : nat_le (length bs) 9 ≡ true = le-leb (length bs) 9 (omega arith) in
    rw (front, all, size, value) refl

number-back : (n : ℕ) → 1 ≤ n → n < 10 ^ 10 → number_of (decimal n) ≡ Some n
number-back n from below =
    let fits : n < 2 ^ 64 = omega arith in
    number-by (decimal n) n (first_decimal n (omega arith) fits) (length-decimal-le 10 n (omega arith) below fits) (digits_decimal own n fits) (digits_value-decimal own n fits)

abbrev Short : Pair → Type 0
Short p = length p.connection ≤ CONNECTION_LIMIT

lines-back : (row : ℕ) (before : Option ℕ) (n : ℕ) (ps : List Pair) → follows before n ≡ true → 1 ≤ n → n + length ps ≤ 10 ^ 10 → row + length ps ≤ LINE_LIMIT + 1 → AllByRecursion Short ps
    → lines_from row before (rows_from n ps) ≡ Ok (entries_from n ps)
lines-back row before n [] is from below few short = refl
lines-back row before n (p ∷ ps) is from below few short =
    let within : nat_lt LINE_LIMIT row ≡ false = le-ltb LINE_LIMIT row (omega arith) in
    let fits : nat_lt CONNECTION_LIMIT (length p.connection) ≡ false = le-ltb CONNECTION_LIMIT (length p.connection) short.0 in
    let number : number_of (decimal n) ≡ Some n = number-back n from (omega arith) in
    let next : follows (Some n) (n + 1) ≡ true = eq-eqb (n + 1) (n + 1) refl in
    let rest = lines-back (suc row) (Some n) (n + 1) ps next (omega arith) (omega arith) (omega arith) short.1 in
    rw (within, number, is, fits, rest) refl

four : (n : ℕ) (ps : List Pair) → AllByRecursion (λ (row : List (List ℕ)). length row ≡ length header) (rows_from n ps)
four n [] = tt
four n (p ∷ ps) = (refl, four (n + 1) ps)

plain : IsPlainHeader header
plain = (omega arith, refl)

pub read-back : (first : ℕ) (pairs : List Pair) → 1 ≤ first → first + length pairs ≤ 10000000000 → length pairs ≤ LINE_LIMIT → AllByRecursion Short pairs
    → journal_of (table_text (header ∷ rows_from first pairs)) ≡ Ok (entries_from first pairs)
read-back first pairs from below few short =
    ap lines_of (written-back header (rows_from first pairs) plain (four first pairs))
    ∙ lines-back 1 None first pairs refl from (omega arith) (omega arith) short

-- a table with one row more
pub one-more : (t u : Option Written) (n k : ℕ) (ps : List Pair) (i : ℕ) (p : Pair) → i < length ps → t ≡ Some (written header (rows_from n (take i ps))) → k ≡ n + i → p ≡ get_or ps i p
    → u ≡ option_map (with_row (row_of k p)) t → u ≡ Some (written header (rows_from n (take (i + 1) ps)))
one-more t u n k ps i p below so_far number at new =
    new ∙ rw (so_far, number) (ap (λ (w : Written). Some w)
    (with_row-written header (rows_from n (take i ps)) (row_of (n + i) p)
    ∙ ap (λ (rows : List (List (List ℕ))). written header rows) (ap (λ (q : Pair). rows_from n (take i ps) ++ row_of (n + i) q ∷ []) at ∙ sym (rows-more n ps i p below))))
