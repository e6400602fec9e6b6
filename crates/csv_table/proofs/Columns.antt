-- Fields by their place, and rows compared field by field.
use Rattle.std.proofs.Common.{◌≡◌, ◌<◌, ◌+◌, ◌++◌, ℕ, suc, zero, List, [], ◌∷◌, length, Option, Some, None, Bool, true, false, get_or, drop, take, map, refl, arith, ◌∙◌, Bor}
use Rattle.std.specs.Prelude.{◌==◌, ◌&&◌, not, option_map}
use Rattle.std.specs.Option.{unwrap_or}
use Rattle.std.proofs.lemmas.List.{length-map, map_push, take_more}
use Rattle.std.specs.Cmp.Lexicographic.{pointwise}
use Rattle.csv.specs.Records.{field_at}
use Rattle.csv_table.specs.Rows.{is_row}
use Rattle.csv_table.specs.Text.{bytes_of}

-- the field at a place, which is empty past the end
pub field-some : (fields : List (List ℕ)) (i : ℕ) (f : List ℕ) → Some f ≡ field_at fields i → f ≡ get_or fields i []
unfolding field_at
field-some [] i f e = cc e
field-some (g ∷ gs) zero f e = cc e
field-some (g ∷ gs) (suc i) f e = field-some gs i f e

pub field-none : (fields : List (List ℕ)) (i : ℕ) → None ≡ field_at fields i → [] ≡ get_or fields i []
unfolding field_at
field-none [] i e = refl
field-none (g ∷ gs) zero e = cc e
field-none (g ∷ gs) (suc i) e = field-none gs i e

-- two rows from a place on
pub row-step : (xs ys : List (List ℕ)) (i : ℕ) → i < length xs → i < length ys
    → is_row (drop i xs) (drop i ys)
    ≡ (pointwise ◌==◌ (get_or xs i []) (get_or ys i [])
    && is_row (drop (i + 1) xs) (drop (i + 1) ys))
row-step [] ys i h k = absurd (omega arith)
row-step (x ∷ xs) [] i h k = absurd (omega arith)
row-step (x ∷ xs) (y ∷ ys) zero h k = refl
row-step (x ∷ xs) (y ∷ ys) (suc i) h k =
    let e : suc i + 1 ≡ suc (i + 1) = omega arith in rw e (row-step xs ys i (omega arith) (omega arith))

name-at : (names : List (Bor (List ℕ))) (i : ℕ) (d : Bor (List ℕ)) → i < length names
    → (get_or names i d).now ≡ get_or (map (λ name. name.now) names) i []
name-at [] i d h = absurd (omega arith)
name-at (n ∷ ns) zero d h = refl
name-at (n ∷ ns) (suc i) d h = name-at ns i d (omega arith)

-- a row and names from a place on, where the field a and the name b are
pub names-step : (xs : List (List ℕ)) (names : List (Bor (List ℕ))) (i : ℕ) (a b : List ℕ)
    (d : Bor (List ℕ)) → i < length names → length xs ≡ length names
    → a ≡ get_or xs i [] → b ≡ (get_or names i d).now
    → is_row (drop i xs) (drop i (map (λ name. name.now) names))
    ≡ (pointwise ◌==◌ a b && is_row (drop (i + 1) xs) (drop (i + 1) (map (λ name. name.now) names)))
names-step xs names i a b d h e p q =
    let size : length (map (λ (name : Bor (List ℕ)). name.now) names) ≡ length names = simp length-map in
    rw (p, q, name-at names i d h) (row-step xs (map (λ name. name.now) names) i (omega arith) (omega arith))

-- the bytes of one name more
pub names-more : (texts names : List (Bor (List ℕ))) (i : ℕ) (d t : Bor (List ℕ)) → i < length names
    → bytes_of texts ≡ take i (bytes_of names) → t.now ≡ (get_or names i d).now
    → bytes_of (texts ++ t ∷ []) ≡ take (i + 1) (bytes_of names)
names-more texts names i d t h so_far at =
    let size : length (bytes_of names) ≡ length names = simp length-map in
    rw (take_more (bytes_of names) i [] (omega arith), ← name-at names i d h, map_push (λ (s : Bor (List ℕ)). s.now) texts t, so_far, at) refl

pub not-front : (p q : Bool) → true ≡ not p → false ≡ (p && q)
not-front true q e = cc e
not-front false q e = refl

pub is-front : (p q : Bool) → false ≡ not p → (p && q) ≡ q
is-front true q e = refl
is-front false q e = cc e

-- what `get` and then `unwrap_or` give
pub column-gives : (o : Option (Bor (List ℕ))) (d : Bor (List ℕ)) (fields : List (List ℕ)) (i : ℕ)
    → d.now ≡ [] → option_map (λ s. s.now) o ≡ field_at fields i
    → (unwrap_or o d).now ≡ get_or fields i []
column-gives None d fields i e h = e ∙ field-none fields i h
column-gives (Some s) d fields i e h = field-some fields i s.now h
