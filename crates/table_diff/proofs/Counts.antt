-- Counts of rows by what they say.
use Rattle.std.proofs.Common.{◌≡◌, ◌+◌, ◌-◌, ◌<◌, ◌≤◌, ◌^◌, ℕ, List, [], ◌∷◌, ◌++◌, Bool, true, false, Option, Some, Vec, length, take, get_or, map, refl, sym, ap, inl, inr, arith, ◌∙◌}
use Rattle.std.specs.Prelude.{if◌then◌else◌, cond, nat_lt, unwrap_or}
use Rattle.std.specs.Borrow.{Bor}
use Rattle.std.specs.BTreeMap.{BTreeMap, UpdatesBy}
use Rattle.std.specs.Cmp.Lexicographic.{slice_cmp, nat_list_eq_equiv}
use Rattle.std.specs.Ordering.{nat_cmp}
use Rattle.std.specs.Str.{bytes_eq}
use Rattle.std.proofs.lemmas.Bool.{cases_Bool, le-ltb, lt-ltb, ltb-false, ltb-true}
use Rattle.std.proofs.lemmas.List.{length-take-le}
use Rattle.std.proofs.lemmas.List.Sums.{count_by-le-length, sum_by-take-le, sum_by_push}
use Rattle.std.proofs.lemmas.Slice.Eq.{bytes_eq-Decides}
use Rattle.table_diff.specs.Devices.{count_in, in_map}
use Rattle.table_diff.specs.Rows.{RowTexts, copies, each, left_over, says}
use Rattle.table_diff.proofs.Each.{each-more, row-at, rows-grown, rows-size}
use Rattle.table_diff.proofs.Keys.{after}

pick : (b : Bool) (w : ℕ) (o : Option ℕ) → unwrap_or (if b then Some w else o) 0 ≡ (if b then w else unwrap_or o 0)
pick true w o = refl
pick false w o = refl

-- the count that a map has for a text, once another count was put at a text
pub count-after : {A : Type 0} (bs : List ℕ) (m n : BTreeMap (Vec ℕ A) ℕ) (w : ℕ)
    → UpdatesBy (λ (x y : Vec ℕ A). slice_cmp nat_cmp x.items y.items)
    (λ (k : Vec ℕ A). slice_cmp nat_cmp bs k.items) m n (Some w)
    → (cs : List ℕ) → count_in n cs ≡ (if bytes_eq bs cs then w else count_in m cs)
count-after bs m n w up cs =
    ap (λ (o : Option ℕ). unwrap_or o 0) (after bs m n (Some w) up cs) ∙ pick (bytes_eq bs cs) w (in_map m cs)

-- one fewer at a text
pub one-off : {A : Type 0} (bs : List ℕ) (m n : BTreeMap (Vec ℕ A) ℕ) (w : ℕ) → w ≡ count_in m bs - 1
    → UpdatesBy (λ (x y : Vec ℕ A). slice_cmp nat_cmp x.items y.items)
    (λ (k : Vec ℕ A). slice_cmp nat_cmp bs k.items) m n (Some w)
    → (cs : List ℕ) → count_in n cs ≡ (if bytes_eq bs cs then count_in m cs - 1 else count_in m cs)
one-off bs m n w less up cs = elim (cases_Bool (bytes_eq bs cs)) [
  | inl e ↦ count-after bs m n w up cs ∙ rw e (less ∙ ap (λ (l : List ℕ). count_in m l - 1) ((bytes_eq-Decides bs cs).0 e))
  | inr e ↦ count-after bs m n w up cs ∙ rw e refl
]

pub copies-push : (columns : List (List ℕ)) (text : List ℕ) (xs : List RowTexts) (x : RowTexts)
    → copies columns text (xs ++ x ∷ []) ≡ copies columns text xs +
    (if bytes_eq text (says columns x) then 1 else 0)
copies-push columns text xs x = sum_by_push (λ (r : RowTexts). cond (bytes_eq text (says columns r)) 1 0) xs x

pub copies-few : (columns : List (List ℕ)) (text : List ℕ) (xs : List RowTexts) → copies columns text xs ≤ length xs
copies-few columns text xs = count_by-le-length (λ (r : RowTexts). bytes_eq text (says columns r)) xs

pub copies-take : (columns : List (List ℕ)) (text : List ℕ) (xs : List RowTexts) (i : ℕ)
    → copies columns text (take i xs) ≤ copies columns text xs
copies-take columns text xs i = sum_by-take-le (λ (r : RowTexts). cond (bytes_eq text (says columns r)) 1 0) xs i

-- one put on at a text
pub one-on : {A : Type 0} (bs : List ℕ) (m n : BTreeMap (Vec ℕ A) ℕ) (w : ℕ) → w ≡ count_in m bs + 1
    → UpdatesBy (λ (x y : Vec ℕ A). slice_cmp nat_cmp x.items y.items)
    (λ (k : Vec ℕ A). slice_cmp nat_cmp bs k.items) m n (Some w)
    → (cs : List ℕ) → count_in n cs ≡ (if bytes_eq bs cs then count_in m cs + 1 else count_in m cs)
one-on bs m n w more up cs = elim (cases_Bool (bytes_eq bs cs)) [
  | inl e ↦ count-after bs m n w up cs ∙ rw e (more ∙ ap (λ (l : List ℕ). count_in m l + 1) ((bytes_eq-Decides bs cs).0 e))
  | inr e ↦ count-after bs m n w up cs ∙ rw e refl
]

-- counted up: one row more
pub one-up : (columns : List (List ℕ)) (text : List ℕ) (old new : ℕ) (xs : List RowTexts)
    (x : RowTexts) → old ≡ copies columns text xs
    → new ≡ (if bytes_eq (says columns x) text then old + 1 else old) → new ≡ copies columns text (xs ++ x ∷ [])
one-up columns text old new xs x so_far step = elim (cases_Bool (bytes_eq (says columns x) text)) [
  | inl e ↦
      let here : bytes_eq text (says columns x) ≡ true = nat_list_eq_equiv.symm text (says columns x) ∙ e in
      let more : copies columns text (xs ++ x ∷ []) ≡ copies columns text xs + 1 = copies-push columns text xs x ∙ rw here refl in
      let new_is : new ≡ old + 1 = step ∙ rw e refl in
      omega arith
  | inr e ↦
      let isnt : bytes_eq text (says columns x) ≡ false = nat_list_eq_equiv.symm text (says columns x) ∙ e in
      let none : copies columns text (xs ++ x ∷ []) ≡ copies columns text xs + 0 = copies-push columns text xs x ∙ rw isnt refl in
      let same : new ≡ old = step ∙ rw e refl in
      omega arith
]

-- counted down from what the others have: one row more
pub one-down : (columns : List (List ℕ)) (text : List ℕ) (old new all : ℕ) (xs : List RowTexts)
    (x : RowTexts) → old ≡ all - copies columns text xs
    → new ≡ (if bytes_eq (says columns x) text then old - 1 else old) → new ≡ all - copies columns text (xs ++ x ∷ [])
one-down columns text old new all xs x so_far step = elim (cases_Bool (bytes_eq (says columns x) text)) [
  | inl e ↦
      let here : bytes_eq text (says columns x) ≡ true = nat_list_eq_equiv.symm text (says columns x) ∙ e in
      let more : copies columns text (xs ++ x ∷ []) ≡ copies columns text xs + 1 = copies-push columns text xs x ∙ rw here refl in
      let less : new ≡ old - 1 = step ∙ rw e refl in
      omega arith
  | inr e ↦
      let isnt : bytes_eq text (says columns x) ≡ false = nat_list_eq_equiv.symm text (says columns x) ∙ e in
      let none : copies columns text (xs ++ x ∷ []) ≡ copies columns text xs + 0 = copies-push columns text xs x ∙ rw isnt refl in
      let same : new ≡ old = step ∙ rw e refl in
      omega arith
]

still : (b o count : ℕ) → count ≡ o - b → nat_lt 0 count ≡ nat_lt b o
still b o count is = elim (cases_Bool (nat_lt b o)) [
  | inl e ↦ let h : b < o = ltb-true b o e in lt-ltb 0 count (omega arith) ∙ sym e
  | inr e ↦ let h : o ≤ b = ltb-false b o e in le-ltb 0 count (omega arith) ∙ sym e
]

-- by what is left of a count a row is left over or not
pub decided : (columns : List (List ℕ)) (xs others : List RowTexts) (x : RowTexts) (count : ℕ)
    → count ≡ copies columns (says columns x) others - copies columns (says columns x) xs
    → (if nat_lt 0 count then [] else x ∷ []) ≡ left_over columns xs others x
decided columns xs others x count left = ap (λ (t : Bool). if t then [] else x ∷ []) (still (copies columns (says columns x) xs) (copies columns (says columns x) others) count left)

-- ROWS THAT REFERENCES POINT TO

-- a step of counting up
pub up-step : (columns : List (List ℕ)) (xs : List (Bor RowTexts)) (i : ℕ) (x : Bor RowTexts)
    (f g : List ℕ → ℕ) → i < length xs → x ≡ get_or xs i x
    → ((text : List ℕ) → f text ≡ copies columns text (take i (map (λ (r : Bor RowTexts). r.now) xs)))
    → ((text : List ℕ) → g text ≡ (if bytes_eq (says columns x.now) text then f text + 1 else f text))
    → (text : List ℕ) → g text ≡ copies columns text (take (i + 1) (map (λ (r : Bor RowTexts). r.now) xs))
up-step columns xs i x f g below is so_far step text =
    one-up columns text (f text) (g text) (take i (map (λ (r : Bor RowTexts). r.now) xs)) x.now (so_far text) (step text)
    ∙ ap (λ (l : List RowTexts). copies columns text l) (rows-grown xs i x below is)

-- a count so far is small enough to be counted on
pub few : (columns : List (List ℕ)) (text : List ℕ) (xs : List (Bor RowTexts)) (i count : ℕ)
    → i < length xs → length xs < 2 ^ 64
    → count ≡ copies columns text (take i (map (λ (r : Bor RowTexts). r.now) xs)) → count + 1 < 2 ^ 64
few columns text xs i count below fits is =
    let rows : List RowTexts = map (λ (r : Bor RowTexts). r.now) xs in
    let size : length rows ≡ length xs = rows-size xs in
    let taken : length (take i rows) ≡ i = length-take-le i rows (omega arith) in
    let some : copies columns text (take i rows) ≤ length (take i rows) = copies-few columns text (take i rows) in
    omega arith

-- a step of counting down
pub down-step : (columns : List (List ℕ)) (xs : List (Bor RowTexts)) (i : ℕ) (x : Bor RowTexts)
    (all f g : List ℕ → ℕ) → i < length xs → x ≡ get_or xs i x
    → ((text : List ℕ) → f text ≡ all text - copies columns text (take i (map (λ (r : Bor RowTexts). r.now) xs)))
    → ((text : List ℕ) → g text ≡ (if bytes_eq (says columns x.now) text then f text - 1 else f text))
    → (text : List ℕ) → g text ≡ all text - copies columns text (take (i + 1) (map (λ (r : Bor RowTexts). r.now) xs))
down-step columns xs i x all f g below is so_far step text =
    one-down columns text (f text) (g text) (all text) (take i (map (λ (r : Bor RowTexts). r.now) xs)) x.now (so_far text) (step text)
    ∙ ap (λ (l : List RowTexts). all text - copies columns text l) (rows-grown xs i x below is)

-- a step of finding what is left over
pub left-step : (columns : List (List ℕ)) (xs : List (Bor RowTexts)) (others : List RowTexts)
    (i : ℕ) (x : Bor RowTexts) (count : ℕ) (old new : List RowTexts) → i < length xs
    → x ≡ get_or xs i x
    → count ≡ copies columns (says columns x.now) others - copies columns (says columns x.now)
    (take i (map (λ (r : Bor RowTexts). r.now) xs))
    → new ≡ old ++ (if nat_lt 0 count then [] else x.now ∷ [])
    → old ≡ each (λ (place : ℕ) (row : RowTexts). left_over columns
    (take place (map (λ (r : Bor RowTexts). r.now) xs)) others row)
    (take i (map (λ (r : Bor RowTexts). r.now) xs))
    → new ≡ each (λ (place : ℕ) (row : RowTexts). left_over columns
    (take place (map (λ (r : Bor RowTexts). r.now) xs)) others row)
    (take (i + 1) (map (λ (r : Bor RowTexts). r.now) xs))
left-step columns xs others i x count old new below is left more so_far =
    let rows : List RowTexts = map (λ (r : Bor RowTexts). r.now) xs in
    let f : ℕ → RowTexts → List RowTexts = λ place row. left_over columns (take place rows) others row in
    let size : length rows ≡ length xs = rows-size xs in
    more
    ∙ ap (λ (l : List RowTexts). old ++ l) (decided columns (take i rows) others x.now count left)
    ∙ ap (λ (l : List RowTexts). l ++ f i x.now) so_far
    ∙ ap (λ (r : RowTexts). each f (take i rows) ++ f i r) (row-at xs i x below is)
    ∙ sym (each-more f rows i x.now (omega arith))
