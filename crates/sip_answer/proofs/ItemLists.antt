-- Lists of items and how often each is in them.
use Rattle.std.proofs.Common.{◌≡◌, ℕ, ◌+◌, Bool, ◌&&◌, ◌||◌, eqb, List, [], ◌∷◌, ◌++◌, Option, Some, None, cond, map, refl, sym, ap, ◌∙◌, true, false, append-nil, unwrap_or, add-zero}
use Rattle.std.specs.List.{cons_option, count_by, filter_map, fold, list_all, list_any}
use Rattle.std.specs.Str.{bytes_eq}
use Rattle.std.specs.Borrow.{Bor}
use Rattle.std.proofs.lemmas.List.Elements.{filter_map-append}
use Rattle.std.proofs.lemmas.List.{map-append}
use Rattle.std.proofs.lemmas.List.Folds.{list_all-append, list_all-map}
use Rattle.std.proofs.lemmas.List.Sums.{fold_push}
use Rattle.std.proofs.lemmas.Bool.{false_from_ne_true, false≢true}
use Rattle.std.proofs.lemmas.Slice.Eq.{bytes_eq-Decides}
use Rattle.sip_answer.specs.Differ.{are_same_items, times_in}

list_all-where : {X : Type 0} (p q : X → Bool) → ((x : X) → p x ≡ q x) → (xs : List X) → list_all p xs ≡ list_all q xs
list_all-where p q same [] = refl
list_all-where p q same (x ∷ xs) = rw (same x, list_all-where p q same xs) refl

fold-map : {A X Y : Type 0} (f : A → Y → A) (g : X → Y) (a : A) (xs : List X)
    → fold f a (map g xs) ≡ fold (λ b x. f b (g x)) a xs
fold-map f g a [] = refl
fold-map f g a (x ∷ xs) = fold-map f g (f a (g x)) xs

count_by-map : {X Y : Type 0} (p : Y → Bool) (f : X → Y) → (xs : List X)
    → count_by p (map f xs) ≡ count_by (λ x. p (f x)) xs
count_by-map p f xs = fold-map (λ a y. a + cond (p y) 1 0) f 0 xs

times : (q : List ℕ) (xs : List (Bor (List ℕ))) → times_in (map (λ x. x.now) xs) q ≡ count_by (λ x. bytes_eq q x.now) xs
unfolding times_in
times q xs = count_by-map (bytes_eq q) (λ x. x.now) xs

-- two tallies agree on each item where the lists have the same items
pub are_same_items-tallies : (f g : List ℕ → ℕ) (xs ys : List (Bor (List ℕ))) →
    ((q : List ℕ) → f q ≡ count_by (λ x. bytes_eq q x.now) xs) →
    ((q : List ℕ) → g q ≡ count_by (λ x. bytes_eq q x.now) ys) →
    (list_all (λ x. eqb (f x.now) (g x.now)) xs && list_all (λ x. eqb (f x.now) (g x.now)) ys) ≡ are_same_items (map (λ x. x.now) xs) (map (λ y. y.now) ys)
unfolding are_same_items
are_same_items-tallies f g xs ys in_xs in_ys =
    let p : List ℕ → Bool = λ q. eqb (times_in (map (λ x. x.now) xs) q) (times_in (map (λ y. y.now) ys) q) in
    let alike : (x : Bor (List ℕ)) → eqb (f x.now) (g x.now) ≡ p x.now =
    λ x. rw (times x.now xs, times x.now ys, in_xs x.now, in_ys x.now) refl in
    sym (list_all-append (λ (x : Bor (List ℕ)). eqb (f x.now) (g x.now)) xs ys)
    ∙ list_all-where (λ (x : Bor (List ℕ)). eqb (f x.now) (g x.now)) (λ x. p x.now) alike (xs ++ ys)
    ∙ sym (list_all-map p (λ (x : Bor (List ℕ)). x.now) (xs ++ ys))
    ∙ ap (list_all p) (map-append (λ (x : Bor (List ℕ)). x.now) xs ys)

-- one more piece at the end
pub filter_map-push : {X Y : Type 0} (h : X → Option Y) (xs : List X) (x : X) (y : Y) → h x ≡ Some y
    → filter_map h (xs ++ x ∷ []) ≡ filter_map h xs ++ y ∷ []
filter_map-push h xs x y e = filter_map-append h xs (x ∷ []) ∙ ap (λ o. filter_map h xs ++ cons_option o []) e

pub filter_map-skip : {X Y : Type 0} (h : X → Option Y) (xs : List X) (x : X) → h x ≡ None
    → filter_map h (xs ++ x ∷ []) ≡ filter_map h xs
filter_map-skip h xs x e =
    filter_map-append h xs (x ∷ []) ∙ ap (λ o. filter_map h xs ++ cons_option o []) e ∙ append-nil (filter_map h xs)

-- one more item in a tally
pub tally_more : (had has : List ℕ → Option ℕ) (item : Bor (List ℕ)) (xs : List (Bor (List ℕ))) (n : ℕ) →
    ((q : List ℕ) → unwrap_or (had q) 0 ≡ count_by (λ x. bytes_eq q x.now) xs) →
    n ≡ unwrap_or (had item.now) 0 →
    ((q : List ℕ) → has q ≡ cond (bytes_eq item.now q) (Some (n + 1)) (had q)) →
    (q : List ℕ) → unwrap_or (has q) 0 ≡ count_by (λ x. bytes_eq q x.now) (xs ++ item ∷ [])
tally_more had has item xs n before is after q = by (bytes_eq q item.now) refl
  where
    by : (b : Bool) → bytes_eq q item.now ≡ b → unwrap_or (has q) 0 ≡ count_by (λ x. bytes_eq q x.now) (xs ++ item ∷ [])
    by true e =
        let same : q ≡ item.now = (bytes_eq-Decides q item.now).0 e in
        let back : bytes_eq item.now q ≡ true = (bytes_eq-Decides item.now q).1 (sym same) in
        let count = before q in
        rw (after q, back, fold_push (λ a x. a + cond (bytes_eq q x.now) 1 0) 0 xs item, e, is, ← same) (ap (λ k. k + 1) count)
    by false e =
        let back : bytes_eq item.now q ≡ false = false_from_ne_true (bytes_eq item.now q) (λ t. false≢true (sym e ∙ (bytes_eq-Decides q item.now).1 (sym ((bytes_eq-Decides item.now q).0 t)))) in
        rw (after q, back, fold_push (λ a x. a + cond (bytes_eq q x.now) 1 0) 0 xs item, e) (before q ∙ sym (add-zero (count_by (λ x. bytes_eq q x.now) xs)))

-- a test of some of what a list is mapped to
pub list_any-map : {X Y : Type 0} (p : Y → Bool) (h : X → Y) (xs : List X)
    → list_any p (map h xs) ≡ list_any (λ x. p (h x)) xs
list_any-map p h [] = refl
list_any-map p h (x ∷ xs) = ap (λ b. p (h x) || b) (list_any-map p h xs)
