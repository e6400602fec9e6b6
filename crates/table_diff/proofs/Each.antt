-- What a function gives for each element and its place: one element more.
use Rattle.std.proofs.Common.{◌≡◌, ◌+◌, ◌<◌, ◌≤◌, ℕ, suc, Bool, List, [], ◌∷◌, ◌++◌, Option, length, take, get_or, map, refl, sym, ap, arith, append_assoc, ◌∙◌}
use Rattle.std.specs.Prelude.{if◌then◌else◌, option_map}
use Rattle.std.specs.Borrow.{Bor}
use Rattle.std.specs.List.{filter, flat_map}
use Rattle.std.proofs.lemmas.List.{append-nil, flat_map_more, get_or-map, length-take-le, map_push, take_all, take_more}
use Rattle.std.proofs.lemmas.List.Elements.{filter_more}
use Rattle.csv_table.specs.Text.{Written, bytes_of, with_row}
use Rattle.table_diff.specs.Differences.{with_rows}
use Rattle.table_diff.specs.Rows.{RowTexts, each, each_from}
use Rattle.table_diff.proofs.Written.{more-rows, one-row}

each-push : {X A : Type 0} (f : ℕ → X → List A) (k : ℕ) (xs : List X) (x : X)
    → each_from f k (xs ++ x ∷ []) ≡ each_from f k xs ++ f (k + length xs) x
each-push f k [] x = let here : k ≡ k + 0 = omega arith in append-nil (f k x) ∙ ap (λ (n : ℕ). f n x) here
each-push f k (y ∷ ys) x =
    let next : k + 1 + length ys ≡ k + suc (length ys) = omega arith in
    ap (λ l. f k y ++ l) (each-push f (k + 1) ys x ∙ ap (λ (n : ℕ). each_from f (k + 1) ys ++ f n x) next)
    ∙ sym (append_assoc (f k y) (each_from f (k + 1) ys) (f (k + suc (length ys)) x))

pub each-more : {X A : Type 0} (f : ℕ → X → List A) (xs : List X) (i : ℕ) (d : X) → i < length xs
    → each f (take (i + 1) xs) ≡ each f (take i xs) ++ f i (get_or xs i d)
each-more f xs i d below =
    let size : 0 + length (take i xs) ≡ i = omega (arith, length-take-le i xs (omega arith)) in
    ap (λ l. each f l) (take_more xs i d below) ∙ each-push f 0 (take i xs) (get_or xs i d) ∙ ap (λ (n : ℕ). each f (take i xs) ++ f n (get_or xs i d)) size

-- one element more
pub grown : {X : Type 0} (xs : List X) (i : ℕ) (x : X) → i < length xs → x ≡ get_or xs i x
    → take i xs ++ x ∷ [] ≡ take (i + 1) xs
grown xs i x below is = ap (λ y. take i xs ++ y ∷ []) is ∙ sym (take_more xs i x below)

pub kept : {X : Type 0} (p : X → Bool) (xs : List X) (i : ℕ) (x : X) → i < length xs
    → x ≡ get_or xs i x → filter p (take i xs) ++ (if p x then x ∷ [] else [])
    ≡ filter p (take (i + 1) xs)
kept p xs i x below is =
    ap (λ y. filter p (take i xs) ++ (if p y then y ∷ [] else [])) is ∙ sym (filter_more p xs i x below)

-- TEXTS THAT REFERENCES POINT TO

texts-size : (cs : List (Bor (List ℕ))) → length (bytes_of cs) ≡ length cs
texts-size [] = refl
texts-size (c ∷ cs) = ap suc (texts-size cs)

texts-more : {A : Type 0} (f : ℕ → List ℕ → List A) (cs : List (Bor (List ℕ))) (i : ℕ)
    (d : Bor (List ℕ)) → i < length cs
    → each f (take i (bytes_of cs)) ++ f i (get_or cs i d).now ≡ each f (take (i + 1) (bytes_of cs))
texts-more f cs i d below =
    let size : length (bytes_of cs) ≡ length cs = texts-size cs in
    sym (each-more f (bytes_of cs) i d.now (omega arith) ∙ ap (λ (c : List ℕ). each f (take i (bytes_of cs)) ++ f i c) (get_or-map (λ (s : Bor (List ℕ)). s.now) cs i d d.now below))

-- a list to which what f gives for each was added in turn
pub texts-step : {A : Type 0} (f : ℕ → List ℕ → List A) (cs : List (Bor (List ℕ))) (i : ℕ)
    (d : Bor (List ℕ)) (old new : List A) → i < length cs
    → new ≡ old ++ f i (get_or cs i d).now → old ≡ each f (take i (bytes_of cs))
    → new ≡ each f (take (i + 1) (bytes_of cs))
texts-step f cs i d old new below more so_far =
    more ∙ ap (λ l. l ++ f i (get_or cs i d).now) so_far ∙ texts-more f cs i d below

-- a table to which the rows that f gives for each were added in turn
pub columns-step : (f : ℕ → List ℕ → List (List (List ℕ))) (cs : List (Bor (List ℕ))) (i : ℕ)
    (d : Bor (List ℕ)) (start old new : Option Written) → i < length cs
    → new ≡ option_map (with_rows (f i (get_or cs i d).now)) old
    → old ≡ option_map (with_rows (each f (take i (bytes_of cs)))) start
    → new ≡ option_map (with_rows (each f (take (i + 1) (bytes_of cs)))) start
columns-step f cs i d start old new below more so_far =
    more
    ∙ ap (λ (o : Option Written). option_map (with_rows (f i (get_or cs i d).now)) o) so_far
    ∙ more-rows start (each f (take i (bytes_of cs))) (f i (get_or cs i d).now)
    ∙ ap (λ (l : List (List (List ℕ))). option_map (with_rows l) start) (texts-more f cs i d below)

-- a table to which the rows that h gives for each were added in turn
pub rows-step : (h : RowTexts → List (List (List ℕ))) (xs : List RowTexts) (i : ℕ) (x : RowTexts)
    (rows : List (List (List ℕ))) (start old new : Option Written) → i < length xs
    → x ≡ get_or xs i x
    → new ≡ option_map (with_rows rows) old → rows ≡ h x
    → old ≡ option_map (with_rows (flat_map h (take i xs))) start
    → new ≡ option_map (with_rows (flat_map h (take (i + 1) xs))) start
rows-step h xs i x rows start old new below is more its so_far =
    more
    ∙ ap (λ (l : List (List (List ℕ))). option_map (with_rows l) old) its
    ∙ ap (λ (o : Option Written). option_map (with_rows (h x)) o) so_far
    ∙ more-rows start (flat_map h (take i xs)) (h x)
    ∙ ap (λ (l : List (List (List ℕ))). option_map (with_rows l) start)
    (flat_map_more h [] (take i xs) x ∙ ap (λ (l : List RowTexts). flat_map h l)
    (grown xs i x below is))

-- ROWS THAT REFERENCES POINT TO

pub rows-size : (xs : List (Bor RowTexts)) → length (map (λ (r : Bor RowTexts). r.now) xs) ≡ length xs
rows-size [] = refl
rows-size (x ∷ xs) = ap suc (rows-size xs)

pub row-at : (xs : List (Bor RowTexts)) (i : ℕ) (x : Bor RowTexts) → i < length xs
    → x ≡ get_or xs i x → x.now ≡ get_or (map (λ (r : Bor RowTexts). r.now) xs) i x.now
row-at xs i x below is =
    ap (λ (r : Bor RowTexts). r.now) is ∙ sym (get_or-map (λ (r : Bor RowTexts). r.now) xs i x x.now below)

pub rows-grown : (xs : List (Bor RowTexts)) (i : ℕ) (x : Bor RowTexts) → i < length xs → x ≡ get_or xs i x
    → take i (map (λ (r : Bor RowTexts). r.now) xs) ++ x.now ∷ [] ≡ take (i + 1) (map (λ (r : Bor RowTexts). r.now) xs)
rows-grown xs i x below is =
    let size : length (map (λ (r : Bor RowTexts). r.now) xs) ≡ length xs = rows-size xs in
    grown (map (λ (r : Bor RowTexts). r.now) xs) i x.now (omega arith) (row-at xs i x below is)

-- a table to which a row for each was added in turn
pub each-step : (h : RowTexts → List (List ℕ)) (xs : List (Bor RowTexts)) (i : ℕ) (x : Bor RowTexts)
    (start old new : Option Written) → i < length xs → x ≡ get_or xs i x
    → new ≡ option_map (with_row (h x.now)) old
    → old ≡ option_map (with_rows (map h (take i (map (λ (r : Bor RowTexts). r.now) xs)))) start
    → new ≡ option_map (with_rows (map h (take (i + 1) (map (λ (r : Bor RowTexts). r.now) xs)))) start
each-step h xs i x start old new below is more so_far =
    let rows : List RowTexts = map (λ (r : Bor RowTexts). r.now) xs in
    more
    ∙ one-row old (h x.now)
    ∙ ap (λ (o : Option Written). option_map (with_rows (h x.now ∷ [])) o) so_far
    ∙ more-rows start (map h (take i rows)) (h x.now ∷ [])
    ∙ ap (λ (l : List (List (List ℕ))). option_map (with_rows l) start)
    (sym (map_push h (take i rows) x.now)
    ∙ ap (λ (l : List RowTexts). map h l) (rows-grown xs i x below is))

-- ALL OF THEM

pub all : {X : Type 0} (xs : List X) (i : ℕ) → length xs ≤ i → take i xs ≡ xs
all xs i past = take_all i xs past

pub all-texts : (cs : List (Bor (List ℕ))) (i : ℕ) → length cs ≤ i → take i (bytes_of cs) ≡ bytes_of cs
all-texts cs i past =
    let size : length (bytes_of cs) ≡ length cs = texts-size cs in take_all i (bytes_of cs) (omega arith)

pub all-rows : (xs : List (Bor RowTexts)) (i : ℕ) → length xs ≤ i
    → take i (map (λ (r : Bor RowTexts). r.now) xs) ≡ map (λ (r : Bor RowTexts). r.now) xs
all-rows xs i past = let size : length (map (λ (r : Bor RowTexts). r.now) xs) ≡ length xs = rows-size xs in take_all i (map (λ (r : Bor RowTexts). r.now) xs) (omega arith)
