-- What is written under a header reads back.
use Rattle.std.proofs.Common.{◌≡◌, ◌<◌, ℕ, List, [], ◌∷◌, ◌++◌, length, get_or, Some, None, true, false, refl, sym, ap, append_assoc, arith, eq-eqb}
use Rattle.std.specs.Prelude.{◌==◌}
use Rattle.std.specs.List.{AllByRecursion, list_all}
use Rattle.std.proofs.lemmas.List.{append-nil, length-append}
use Rattle.std.specs.Cmp.Lexicographic.{pointwise}
use Rattle.csv.specs.Machine.{next_record}
use Rattle.csv.specs.Reading.{Reached, default_config, strip_bom}
use Rattle.csv.specs.Writing.{default_writer, read_back, row_text}
use Rattle.csv.specs.declared.parser.State.TheVariants as st
use Rattle.csv.proofs.RoundTrip.{read-write}
use Rattle.csv_table.specs.Rows.{is_row, records_of, rows_under}
use Rattle.csv_table.specs.Text.{IsPlainHeader, table_text, with_row, written}
use Rattle.csv_table.proofs.Records.{all-reached}

-- a row of some field reads back as it is
row-back : (row : List (List ℕ)) (n : ℕ) → 0 < n → length row ≡ n → read_back row ≡ row
row-back [] n h e = absurd (omega arith)
row-back (f ∷ fs) n h e = refl

written-reached : (n : ℕ) (rows : List (List (List ℕ))) → 0 < n → AllByRecursion (λ row. length row ≡ n) rows
    → Reached default_config st.StartRecord (table_text rows) rows st.StartRecord []
unfolding Reached
written-reached n [] h all = (refl, refl)
written-reached n (row ∷ rows) h all =
    ((read_back row, st.StartRecord, table_text rows), read-write row (table_text rows), sym (row-back row n h all.0), written-reached n rows h all.1)

nothing-left : next_record default_config st.StartRecord [] [] [] ≡ None
unfolding next_record
nothing-left = refl

no-mark : (xs : List ℕ) → (get_or xs 0 0 == 0xEF) ≡ false → strip_bom xs ≡ xs
unfolding strip_bom
no-mark [] e = refl
no-mark (a ∷ []) e = refl
no-mark (a ∷ b ∷ []) e = refl
no-mark (a ∷ b ∷ c ∷ rest) e = rw e refl

front-byte : (xs ys : List ℕ) → 0 < length xs → get_or (xs ++ ys) 0 0 ≡ get_or xs 0 0
front-byte [] ys h = absurd (omega arith)
front-byte (x ∷ xs) ys h = refl

same-length : (n : ℕ) (rows : List (List (List ℕ))) → AllByRecursion (λ row. length row ≡ n) rows
    → list_all (λ (row : List (List ℕ)). length row == n) rows ≡ true
same-length n [] all = refl
same-length n (row ∷ rows) all = rw (eq-eqb (length row) n all.0) (same-length n rows all.1)

same-bytes : (xs : List ℕ) → pointwise ◌==◌ xs xs ≡ true
same-bytes [] = refl
same-bytes (x ∷ xs) = rw (eq-eqb x x refl) (same-bytes xs)

same-row : (fs : List (List ℕ)) → is_row fs fs ≡ true
same-row [] = refl
same-row (f ∷ fs) = rw (same-bytes f) (same-row fs)

some-byte : (row : List (List ℕ)) → 0 < length (row_text default_writer row)
some-byte row = simp length-append (omega arith)

pub written-back : (header : List (List ℕ)) (rows : List (List (List ℕ))) → IsPlainHeader header
    → AllByRecursion (λ row. length row ≡ length header) rows
    → rows_under header (table_text (header ∷ rows)) ≡ Some rows
unfolding records_of
written-back header rows plain all =
    let whole = (written-reached (length header) (header ∷ rows) plain.0 (refl, all)) in
    let mark : strip_bom (table_text (header ∷ rows)) ≡ table_text (header ∷ rows) = no-mark _ (rw (front-byte (row_text default_writer header) (table_text rows) (some-byte header)) plain.1) in
    let read = all-reached (table_text (header ∷ rows)) (header ∷ rows) st.StartRecord [] whole nothing-left in
    rw (mark, read, same-length (length header) rows all, same-row header) refl

table_text-push : (rows : List (List (List ℕ))) (row : List (List ℕ))
    → table_text (rows ++ row ∷ []) ≡ table_text rows ++ row_text default_writer row
table_text-push [] row = append-nil (row_text default_writer row)
table_text-push (r ∷ rs) row = rw (table_text-push rs row) (simp append_assoc)

-- a table with one row more: what a loop that writes rows keeps
pub with_row-written : (header : List (List ℕ)) (rows : List (List (List ℕ))) (row : List (List ℕ))
    → with_row row (written header rows) ≡ written header (rows ++ row ∷ [])
with_row-written header rows row =
    ap (λ (text : List ℕ). record { width = length header; text = text }) (sym (table_text-push (header ∷ rows) row))
