-- Nothing is listed just if both sides are the same.
use Rattle.std.proofs.Common.{◌≡◌, ◌+◌, ◌<◌, ◌≤◌, ◌↔◌, ℕ, zero, suc, List, [], ◌∷◌, ◌++◌, Bool, true, false, Option, Some, None, length, take, get_or, map, refl, sym, subst, ap, ap₂, inl, inr, arith, add-one, ◌∙◌}
use Rattle.std.specs.Prelude.{if◌then◌else◌, nat_lt}
use Rattle.std.specs.List.{AllByRecursion, flat_map}
use Rattle.std.specs.Str.{bytes_eq}
use Rattle.std.proofs.lemmas.Bool.{cases_Bool, lt-ltb, ltb-true}
use Rattle.std.proofs.lemmas.List.{take_all, take_more}
use Rattle.std.proofs.lemmas.Slice.Eq.{bytes_eq-Decides}
use Rattle.table_diff.specs.Rows.{RowTexts, alone, copies, each_from, left_over, named, nobody, says, surplus, value_at}
use Rattle.table_diff.specs.Differences.{change_at, changes_to, changes_where, differences, lacking, only_in}
use Rattle.table_diff.specs.Same.{HasEach, IsLike, IsSame}
use Rattle.table_diff.specs.declared.differences.TableSide.TheVariants as side
use Rattle.table_diff.proofs.Counts.{copies-push, copies-take}

-- LISTS WITHOUT ELEMENTS

clash : {A : Type 0} {P : Type 0} (x : A) (xs : List A) → x ∷ xs ≡ [] → P
clash x xs e = let bad : ⊥ = cc in absurd bad

both : {A : Type 0} (xs ys : List A) → xs ++ ys ≡ [] → (xs ≡ []) × (ys ≡ [])
both [] ys e = (refl, e)
both (x ∷ xs) ys e = clash x (xs ++ ys) e

joined : {A : Type 0} (xs ys : List A) → xs ≡ [] → ys ≡ [] → xs ++ ys ≡ []
joined {A} xs ys e h = ap₂ (λ (a b : List A). a ++ b) e h

flat-to : {X A : Type 0} (h : X → List A) (xs : List X) → flat_map h xs ≡ [] → AllByRecursion (λ x. h x ≡ []) xs
flat-to h [] e = tt
flat-to h (x ∷ xs) e = let b = both (h x) (flat_map h xs) e in (b.0, flat-to h xs b.1)

flat-from : {X A : Type 0} (h : X → List A) (xs : List X) → AllByRecursion (λ x. h x ≡ []) xs → flat_map h xs ≡ []
flat-from h [] all = refl
flat-from h (x ∷ xs) all = joined (h x) (flat_map h xs) all.0 (flat-from h xs all.1)

map-to : {X Y : Type 0} (f : X → Y) (xs : List X) → map f xs ≡ [] → xs ≡ []
map-to f [] e = refl
map-to f (x ∷ xs) e = clash (f x) (map f xs) e

each-to : {X A : Type 0} (f : ℕ → X → List A) (k : ℕ) (xs : List X) → each_from f k xs ≡ []
    → (j : ℕ) (d : X) → j < length xs → f (k + j) (get_or xs j d) ≡ []
each-to f k [] e j d below = absurd (omega arith)
each-to f k (x ∷ xs) e zero d below =
    let here : k + 0 ≡ k = omega arith in
    ap (λ (n : ℕ). f n x) here ∙ (both (f k x) (each_from f (k + 1) xs) e).0
each-to f k (x ∷ xs) e (suc j) d below =
    let next : k + suc j ≡ k + 1 + j = omega arith in
    ap (λ (n : ℕ). f n (get_or xs j d)) next ∙ each-to f (k + 1) xs (both (f k x) (each_from f (k + 1) xs) e).1 j d (omega arith)

each-from : {X A : Type 0} (f : ℕ → X → List A) (k : ℕ) (xs : List X)
    → ((j : ℕ) (d : X) → j < length xs → f (k + j) (get_or xs j d) ≡ []) → each_from f k xs ≡ []
each-from f k [] h = refl
each-from f k (x ∷ xs) h =
    let here : k ≡ k + 0 = omega arith in
    joined (f k x) (each_from f (k + 1) xs) (ap (λ (n : ℕ). f n x) here ∙ h 0 x (omega arith))
    (each-from f (k + 1) xs (λ j d below. let next : k + 1 + j ≡ k + suc j = omega arith in ap (λ (n : ℕ). f n (get_or xs j d)) next ∙ h (suc j) d (omega arith)))

-- VALUES

same-value : (v w : List ℕ) (row : List (List ℕ)) → (if bytes_eq v w then [] else row ∷ []) ≡ [] → v ≡ w
same-value v w row e = elim (cases_Bool (bytes_eq v w)) [
  | inl is ↦ (bytes_eq-Decides v w).0 is
  | inr isnt ↦ clash row [] (sym (rw isnt refl) ∙ e)
]

value-same : (v w : List ℕ) (row : List (List ℕ)) → v ≡ w → (if bytes_eq v w then [] else row ∷ []) ≡ []
value-same v w row e = rw ((bytes_eq-Decides v w).1 e) refl

where-to : (table : List ℕ) (columns : List (List ℕ)) (row : RowTexts) (o : Option RowTexts)
    → changes_where table columns row o ≡ []
    → (other : RowTexts) → o ≡ Some other → (place : ℕ) → place < length columns
    → value_at place row ≡ value_at place other
where-to table columns row None e other is place below = let bad : ⊥ = cc in absurd bad
where-to table columns row (Some it) e other is place below =
    let here : place ≡ 0 + place = omega arith in
    let same : it ≡ other = cc in
    same-value (value_at place row) (value_at place it) (table ∷ row.name ∷ get_or columns place [] ∷ value_at place row ∷ value_at place it ∷ [])
    (ap (λ (n : ℕ). change_at table row it n (get_or columns place [])) here ∙ each-to (change_at table row it) 0 columns e place [] below)
    ∙ ap (λ (r : RowTexts). value_at place r) same

where-from : (table : List ℕ) (columns : List (List ℕ)) (row : RowTexts) (o : Option RowTexts)
    → ((other : RowTexts) → o ≡ Some other → (place : ℕ) → place < length columns
    → value_at place row ≡ value_at place other) → changes_where table columns row o ≡ []
where-from table columns row None like = refl
where-from table columns row (Some it) like = each-from (change_at table row it) 0 columns (λ j d below.
    let zero_more : 0 + j ≡ j = omega arith in
    ap (λ (n : ℕ). change_at table row it n (get_or columns j d)) zero_more
    ∙ value-same (value_at j row) (value_at j it)
    (table ∷ row.name ∷ get_or columns j d ∷ value_at j row ∷ value_at j it ∷ [])
    (like it refl j below))

values-to : (table : List ℕ) (columns : List (List ℕ)) (right left : List RowTexts)
    → flat_map (changes_to table columns right) left ≡ []
    → AllByRecursion (IsLike columns right) left
values-to table columns right [] e = tt
values-to table columns right (row ∷ rows) e =
    let b = both (changes_to table columns right row) (flat_map (changes_to table columns right) rows) e in
    (where-to table columns row (named right row.name) b.0, values-to table columns right rows b.1)

values-from : (table : List ℕ) (columns : List (List ℕ)) (right left : List RowTexts)
    → AllByRecursion (IsLike columns right) left
    → flat_map (changes_to table columns right) left ≡ []
values-from table columns right [] all = refl
values-from table columns right (row ∷ rows) all =
    joined (changes_to table columns right row) (flat_map (changes_to table columns right) rows)
    (where-from table columns row (named right row.name) all.0) (values-from table columns right rows all.1)

-- ROWS THAT ARE LEFT OVER

left-to : (b o : ℕ) (row : RowTexts) → (if nat_lt b o then [] else row ∷ []) ≡ [] → b < o
left-to b o row e = elim (cases_Bool (nat_lt b o)) [
  | inl is ↦ ltb-true b o is
  | inr isnt ↦ clash row [] (sym (rw isnt refl) ∙ e)
]

left-from : (b o : ℕ) (row : RowTexts) → b < o → (if nat_lt b o then [] else row ∷ []) ≡ []
left-from b o row below = rw (lt-ltb b o below) refl

one-further : (columns : List (List ℕ)) (text : List ℕ) (rows : List RowTexts) (i : ℕ) → i < length rows
    → copies columns text (take (suc i) rows)
    ≡ copies columns text (take i rows) +
    (if bytes_eq text (says columns (get_or rows i nobody)) then 1 else 0)
one-further columns text rows i below =
    ap (λ (n : ℕ). copies columns text (take n rows)) (sym (add-one i))
    ∙ ap (λ (l : List RowTexts). copies columns text l) (take_more rows i nobody below)
    ∙ copies-push columns text (take i rows) (get_or rows i nobody)

few-to : (columns : List (List ℕ)) (rows others : List RowTexts) → surplus columns rows others ≡ []
    → (text : List ℕ) (i : ℕ) → i ≤ length rows
    → copies columns text (take i rows) ≤ copies columns text others
few-to columns rows others e text zero le = omega arith
few-to columns rows others e text (suc i) le =
    let f : ℕ → RowTexts → List RowTexts = λ place row. left_over columns (take place rows) others row in
    let row : RowTexts = get_or rows i nobody in
    let here : i ≡ 0 + i = omega arith in
    let strict : copies columns (says columns row) (take i rows) < copies columns (says columns row) others =
    left-to (copies columns (says columns row) (take i rows)) (copies columns (says columns row) others) row
    (ap (λ (n : ℕ). f n row) here ∙ each-to f 0 rows e i nobody (omega arith)) in
    let more = one-further columns text rows i (omega arith) in
    elim (cases_Bool (bytes_eq text (says columns row))) [
      | inl is ↦
          let same : text ≡ says columns row = (bytes_eq-Decides text (says columns row)).0 is in
          let step : copies columns text (take (suc i) rows) ≡ copies columns text (take i rows) + 1 = more ∙ rw is refl in
          let below : copies columns text (take i rows) < copies columns text others =
          subst (λ (t : List ℕ). copies columns t (take i rows) < copies columns t others) (sym same) strict in
          omega arith
      | inr isnt ↦
          let step : copies columns text (take (suc i) rows) ≡ copies columns text (take i rows) + 0 = more ∙ rw isnt refl in
          let before = few-to columns rows others e text i (omega arith) in
          omega arith
    ]

surplus-to : (columns : List (List ℕ)) (rows others : List RowTexts)
    → surplus columns rows others ≡ [] → (text : List ℕ)
    → copies columns text rows ≤ copies columns text others
surplus-to columns rows others e text =
    subst (λ (l : List RowTexts). copies columns text l ≤ copies columns text others) (take_all (length rows) rows (omega arith)) (few-to columns rows others e text (length rows) (omega arith))

surplus-from : (columns : List (List ℕ)) (rows others : List RowTexts)
    → ((text : List ℕ) → copies columns text rows ≤ copies columns text others)
    → surplus columns rows others ≡ []
surplus-from columns rows others few =
    let f : ℕ → RowTexts → List RowTexts = λ place row. left_over columns (take place rows) others row in
    each-from f 0 rows (λ j d below.
    let here : 0 + j ≡ j = omega arith in
    let row : RowTexts = get_or rows j d in
    let text : List ℕ = says columns row in
    let yes : bytes_eq text text ≡ true = (bytes_eq-Decides text text).1 refl in
    let step : copies columns text (take (j + 1) rows) ≡ copies columns text (take j rows) + 1 =
    ap (λ (l : List RowTexts). copies columns text l) (take_more rows j d below) ∙ copies-push columns text (take j rows) row ∙ rw yes refl in
    let part : copies columns text (take (j + 1) rows) ≤ copies columns text rows = copies-take columns text rows (j + 1) in
    let all : copies columns text rows ≤ copies columns text others = few text in
    ap (λ (n : ℕ). f n row) here ∙ left-from (copies columns text (take j rows)) (copies columns text others) row (omega arith))

lacking-to : (columns : List (List ℕ)) (renamed : Bool) (rows others : List RowTexts)
    → lacking columns renamed rows others ≡ [] → HasEach columns renamed rows others
lacking-to columns true rows others e = surplus-to columns (alone rows others) (alone others rows) e
lacking-to columns false rows others e = e

lacking-from : (columns : List (List ℕ)) (renamed : Bool) (rows others : List RowTexts)
    → HasEach columns renamed rows others → lacking columns renamed rows others ≡ []
lacking-from columns true rows others h = surplus-from columns (alone rows others) (alone others rows) h
lacking-from columns false rows others h = h

-- ALL THAT DIFFERS

listed-to : (table : List ℕ) (columns : List (List ℕ)) (renamed : Bool) (left right : List RowTexts)
    → differences table columns renamed left right ≡ [] → IsSame columns renamed left right
listed-to table columns renamed left right e =
    let a : List (List (List ℕ)) = flat_map (changes_to table columns right) left in
    let b : List (List (List ℕ)) = map (only_in side.Left table columns) (lacking columns renamed left right) in
    let c : List (List (List ℕ)) = map (only_in side.Right table columns) (lacking columns renamed right left) in
    let first = both (a ++ b) c e in
    let second = both a b first.0 in
    record {
      values = values-to table columns right left second.0;
      left_rows = lacking-to columns renamed left right (map-to (only_in side.Left table columns) (lacking columns renamed left right) second.1);
      right_rows = lacking-to columns renamed right left (map-to (only_in side.Right table columns) (lacking columns renamed right left) first.1);
    }

listed-from : (table : List ℕ) (columns : List (List ℕ)) (renamed : Bool)
    (left right : List RowTexts) → IsSame columns renamed left right
    → differences table columns renamed left right ≡ []
listed-from table columns renamed left right same =
    let a : List (List (List ℕ)) = flat_map (changes_to table columns right) left in
    let b : List (List (List ℕ)) = map (only_in side.Left table columns) (lacking columns renamed left right) in
    let c : List (List (List ℕ)) = map (only_in side.Right table columns) (lacking columns renamed right left) in
    joined (a ++ b) c
    (joined a b (values-from table columns right left same.values) (ap (λ (l : List RowTexts). map (only_in side.Left table columns) l) (lacking-from columns renamed left right same.left_rows)))
    (ap (λ (l : List RowTexts). map (only_in side.Right table columns) l) (lacking-from columns renamed right left same.right_rows))

pub same : (table : List ℕ) (columns : List (List ℕ)) (renamed : Bool) (left right : List RowTexts)
    → (differences table columns renamed left right ≡ []) ↔ IsSame columns renamed left right
same table columns renamed left right =
    (listed-to table columns renamed left right, listed-from table columns renamed left right)
