-- A table with rows more.
use Rattle.std.proofs.Common.{◌≡◌, ℕ, Bool, true, List, [], ◌∷◌, ◌++◌, Option, Some, None, map, refl, sym, ap, ap₂, append_assoc, ◌∙◌}
use Rattle.std.specs.Prelude.{IfSome, option_map}
use Rattle.std.specs.List.{flat_map}
use Rattle.std.proofs.lemmas.List.{append-nil}
use Rattle.csv.specs.Writing.{default_writer, row_text}
use Rattle.csv_table.specs.Text.{Written, table_text, with_row}
use Rattle.table_diff.specs.Differences.{changes_to, differences, lacking, only_in, with_rows}
use Rattle.table_diff.specs.Rows.{RowTexts, alone, surplus}
use Rattle.table_diff.specs.declared.differences.TableSide.TheVariants as side

text-append : (xs ys : List (List (List ℕ))) → table_text (xs ++ ys) ≡ table_text xs ++ table_text ys
text-append [] ys = refl
text-append (x ∷ xs) ys =
    rw (text-append xs ys) (sym (append_assoc (row_text default_writer x) (table_text xs) (table_text ys)))

abbrev with_text : Written → List ℕ → Option Written
with_text t text = Some (record { width = t.width; text = text })

pub no-rows : (o : Option Written) → option_map (with_rows []) o ≡ o
no-rows None = refl
no-rows (Some t) = ap (λ (text : List ℕ). with_text t text) (append-nil t.text)

pub one-row : (o : Option Written) (row : List (List ℕ))
    → option_map (with_row row) o ≡ option_map (with_rows (row ∷ [])) o
one-row None row = refl
one-row (Some t) row =
    ap (λ (text : List ℕ). with_text t (t.text ++ text)) (sym (append-nil (row_text default_writer row)))

pub more-rows : (o : Option Written) (xs ys : List (List (List ℕ)))
    → option_map (with_rows ys) (option_map (with_rows xs) o) ≡ option_map (with_rows (xs ++ ys)) o
more-rows None xs ys = refl
more-rows (Some t) xs ys = ap (λ (text : List ℕ). with_text t text) (append_assoc t.text (table_text xs) (table_text ys) ∙ ap (λ (text : List ℕ). t.text ++ text) (sym (text-append xs ys)))

pub wide : (o p : Option Written) (xs : List (List (List ℕ))) → p ≡ option_map (with_rows xs) o
    → IfSome o (λ (t : Written). t.width ≡ 5) → IfSome p (λ (t : Written). t.width ≡ 5)
wide None p xs e h = rw e tt
wide (Some t) p xs e h = rw e h

-- all that differs, written in three parts
pub whole : (table : List ℕ) (columns : List (List ℕ)) (renamed : Bool)
    (left right l r : List RowTexts) (start one two three : Option Written) → l ≡ left → r ≡ right
    → one ≡ option_map (with_rows (flat_map (changes_to table columns r) left)) start
    → two ≡ option_map (with_rows (map (only_in side.Left table columns) (lacking columns renamed l r))) one
    → three ≡ option_map (with_rows (map (only_in side.Right table columns) (lacking columns renamed r l))) two
    → three ≡ option_map (with_rows (differences table columns renamed left right)) start
whole table columns renamed left right l r start one two three le re first second third =
    let a : List (List (List ℕ)) = flat_map (changes_to table columns right) left in
    let b : List (List (List ℕ)) = map (only_in side.Left table columns) (lacking columns renamed left right) in
    let c : List (List (List ℕ)) = map (only_in side.Right table columns) (lacking columns renamed right left) in
    let one_is : one ≡ option_map (with_rows a) start = first ∙ ap (λ (x : List RowTexts). option_map (with_rows (flat_map (changes_to table columns x) left)) start) re in
    let two_is : two ≡ option_map (with_rows b) one = second ∙ ap₂ (λ (x y : List RowTexts). option_map (with_rows (map (only_in side.Left table columns) (lacking columns renamed x y))) one) le re in
    let three_is : three ≡ option_map (with_rows c) two = third ∙ ap₂ (λ (x y : List RowTexts). option_map (with_rows (map (only_in side.Right table columns) (lacking columns renamed x y))) two) re le in
    three_is ∙ ap (λ (o : Option Written). option_map (with_rows c) o) (two_is ∙ ap (λ (o : Option Written). option_map (with_rows b) o) one_is ∙ more-rows start a b) ∙ more-rows start (a ++ b) c

pub lacking-is : (columns : List (List ℕ)) (renamed : Bool) (rows others a b found : List RowTexts)
    → renamed ≡ true → a ≡ alone rows others → b ≡ alone others rows → found ≡ surplus columns a b
    → found ≡ lacking columns renamed rows others
lacking-is columns renamed rows others a b found is first second third =
    rw is (third ∙ ap₂ (λ (x y : List RowTexts). surplus columns x y) first second)
