-- Lists of ids: one more at the end, one that leaves, and how many there can be.
use Rattle.std.proofs.Common.{◌≡◌, ◌≤◌, ◌<◌, ℕ, suc, List, [], ◌∷◌, ◌++◌, Bool, true, false, cond, not, length, refl, subst, ap, ◌∙◌, arith}
use Rattle.std.specs.Prelude.{◌&&◌, ◌||◌, filter}
use Rattle.std.proofs.lemmas.Bool.{and_parts}
use Rattle.circ_records.proofs.SameTexts.{same-text, tie-text, same-itself}
use Rattle.circ_records.specs.Coherent.{are_distinct, has_id}
use Rattle.circ_records.specs.Texts.{is_same}
use Rattle.read_set.specs.Ids as ids

-- two ids are one, whichever comes first
pub same-turned : (a b : List ℕ) → is_same a b ≡ is_same b a
same-turned a b = by (is_same a b) refl (is_same b a) refl
  where
    by : (x : Bool) → is_same a b ≡ x → (y : Bool) → is_same b a ≡ y → x ≡ y
    by true e true f = refl
    by false e false f = refl
    by true e false f = let t : is_same b a ≡ true = subst (λ (c : List ℕ). is_same c a ≡ true) (same-text a b e) (same-itself a) in cc
    by false e true f = let t : is_same a b ≡ true = subst (λ (c : List ℕ). is_same c b ≡ true) (same-text b a f) (same-itself b) in cc

-- the two tests of the crates agree
pub same-is : (a b : List ℕ) → ids.same a b ≡ is_same a b
same-is a b = tie-text a b ∙ same-turned b a

pub has-is : (id : List ℕ) (list : List (List ℕ)) → ids.has_id id list ≡ has_id id list
has-is id [] = refl
has-is id (x ∷ list) = ap (λ b. b || ids.has_id id list) (tie-text x id) ∙ ap (λ b. is_same id x || b) (has-is id list)

-- one more at the end
pub has-more : (x y : List ℕ) (list : List (List ℕ)) → has_id x (list ++ y ∷ []) ≡ (has_id x list || is_same x y)
has-more x y [] = by (is_same x y)
  where
    by : (b : Bool) → (b || false) ≡ b
    by true = refl
    by false = refl
has-more x y (z ∷ list) = ap (λ b. is_same x z || b) (has-more x y list) ∙ by (is_same x z) (has_id x list) (is_same x y)
  where
    by : (a b c : Bool) → (a || (b || c)) ≡ ((a || b) || c)
    by true b c = refl
    by false b c = refl

pub distinct-more : (y : List ℕ) (list : List (List ℕ)) → are_distinct list ≡ true → has_id y list ≡ false → are_distinct (list ++ y ∷ []) ≡ true
distinct-more y [] d f = refl
distinct-more y (z ∷ list) d f =
    let p = and_parts (not (has_id z list)) (are_distinct list) d in
    by (has_id z list) refl (is_same y z) refl (has_id y list) refl p.0 f (λ g. distinct-more y list p.1 g)
  where
    by : (a : Bool) → has_id z list ≡ a → (b : Bool) → is_same y z ≡ b → (c : Bool) → has_id y list ≡ c → not a ≡ true → (b || c) ≡ false
        → (c ≡ false → are_distinct (list ++ y ∷ []) ≡ true) → (not (has_id z (list ++ y ∷ [])) && are_distinct (list ++ y ∷ [])) ≡ true
    by true e b s c g n f rest = cc n
    by false e true s c g n f rest = cc f
    by false e false s true g n f rest = cc f
    by false e false s false g n f rest =
        let apart : has_id z (list ++ y ∷ []) ≡ false = has-more z y list ∙ ap (λ b. b || is_same z y) e ∙ same-turned z y ∙ s in
        ap (λ b. not b && are_distinct (list ++ y ∷ [])) apart ∙ rest refl

-- those that pass a test
pub has-passing : (test : List ℕ → Bool) (x : List ℕ) (list : List (List ℕ)) → has_id x (filter test list) ≡ (test x && has_id x list)
has-passing test x [] = by (test x)
  where
    by : (b : Bool) → false ≡ (b && false)
    by true = refl
    by false = refl
has-passing test x (z ∷ list) = by (test z) refl (is_same x z) refl (test x) refl (has-passing test x list)
  where
    by : (a : Bool) → test z ≡ a → (b : Bool) → is_same x z ≡ b → (c : Bool) → test x ≡ c → has_id x (filter test list) ≡ (c && has_id x list)
        → has_id x (cond a (z ∷ filter test list) (filter test list)) ≡ (c && (b || has_id x list))
    by true e true s true g h = ap (λ b. b || has_id x (filter test list)) s
    by true e true s false g h = let one : test x ≡ test z = ap test (same-text x z s) in cc
    by true e false s c g h = ap (λ b. b || has_id x (filter test list)) s ∙ h
    by false e true s true g h = let one : test x ≡ test z = ap test (same-text x z s) in cc
    by false e true s false g h = h
    by false e false s c g h = h

pub distinct-passing : (test : List ℕ → Bool) (list : List (List ℕ)) → are_distinct list ≡ true → are_distinct (filter test list) ≡ true
distinct-passing test [] d = refl
distinct-passing test (z ∷ list) d =
    let p = and_parts (not (has_id z list)) (are_distinct list) d in
    by (test z) refl (has_id z list) refl p.0 (distinct-passing test list p.1)
  where
    by : (a : Bool) → test z ≡ a → (b : Bool) → has_id z list ≡ b → not b ≡ true → are_distinct (filter test list) ≡ true → are_distinct (cond a (z ∷ filter test list) (filter test list)) ≡ true
    by true e true f n h = cc n
    by true e false f n h =
        let apart : has_id z (filter test list) ≡ false = has-passing test z list ∙ ap (λ b. b && has_id z list) e ∙ f in
        ap (λ b. not b && are_distinct (filter test list)) apart ∙ h
    by false e b f n h = h

-- a list without an id
pub has-without : (x y : List ℕ) (list : List (List ℕ)) → has_id x (ids.without y list) ≡ (not (is_same x y) && has_id x list)
has-without x y list = has-passing (λ other. not (ids.same other y)) x list ∙ ap (λ b. not b && has_id x list) (same-is x y)

pub distinct-without : (y : List ℕ) (list : List (List ℕ)) → are_distinct list ≡ true → are_distinct (ids.without y list) ≡ true
distinct-without y list d = distinct-passing (λ other. not (ids.same other y)) list d

-- and without those of another
pub has-without-all : (x : List ℕ) (gone list : List (List ℕ)) → has_id x (ids.without_all gone list) ≡ (not (has_id x gone) && has_id x list)
has-without-all x gone list = has-passing (λ other. not (ids.has_id other gone)) x list ∙ ap (λ b. not b && has_id x list) (has-is x gone)

pub distinct-without-all : (gone list : List (List ℕ)) → are_distinct list ≡ true → are_distinct (ids.without_all gone list) ≡ true
distinct-without-all gone list d = distinct-passing (λ other. not (ids.has_id other gone)) list d

pub without-none : (list : List (List ℕ)) → ids.without_all [] list ≡ list
without-none [] = refl
without-none (x ∷ list) = ap (λ (l : List (List ℕ)). x ∷ l) (without-none list)

-- HOW MANY

shorter : (x : List ℕ) (list : List (List ℕ)) → length (ids.without x list) ≤ length list
shorter x [] = omega arith
shorter x (z ∷ list) = by (ids.same z x) (shorter x list)
  where
    by : (b : Bool) → length (ids.without x list) ≤ length list → length (cond (not b) (z ∷ ids.without x list) (ids.without x list)) ≤ suc (length list)
    by true h = omega arith
    by false h = omega arith

one-less : (x : List ℕ) (list : List (List ℕ)) → has_id x list ≡ true → length (ids.without x list) < length list
one-less x [] h = cc h
one-less x (z ∷ list) h = by (ids.same z x) (tie-text z x) h (λ g. one-less x list g)
  where
    by : (b : Bool) → b ≡ is_same x z → (is_same x z || has_id x list) ≡ true → (has_id x list ≡ true → length (ids.without x list) < length list)
        → length (cond (not b) (z ∷ ids.without x list) (ids.without x list)) < suc (length list)
    by true e h rest = let few : length (ids.without x list) ≤ length list = shorter x list in omega arith
    by false e h rest = let less : length (ids.without x list) < length list = rest (ap (λ b. b || has_id x list) e ∙ h) in omega arith

-- distinct ids that are all in a list are no more than the list has
pub no-more : (list all : List (List ℕ)) → are_distinct list ≡ true → ((x : List ℕ) → has_id x list ≡ true → has_id x all ≡ true) → length list ≤ length all
no-more [] all d h = omega arith
no-more (z ∷ list) all d h =
    let p = and_parts (not (has_id z list)) (are_distinct list) d in
    let there : has_id z all ≡ true = h z (ap (λ b. b || has_id z list) (same-itself z)) in
    let less : length (ids.without z all) < length all = one-less z all there in
    let rest : length list ≤ length (ids.without z all) = no-more list (ids.without z all) p.1 (λ x k. at x k p.0) in
    omega arith
  where
    at : (x : List ℕ) → has_id x list ≡ true → not (has_id z list) ≡ true → has_id x (ids.without z all) ≡ true
    at x k n = has-without x z all ∙ by (is_same x z) refl (h x (ap (λ b. is_same x z || b) k ∙ either (is_same x z)))
      where
        either : (b : Bool) → (b || true) ≡ true
        either true = refl
        either false = refl

        by : (b : Bool) → is_same x z ≡ b → has_id x all ≡ true → (not b && has_id x all) ≡ true
        by true e k' =
            let own : has_id z list ≡ true = subst (λ (t : List ℕ). has_id t list ≡ true) (same-text x z e) k in
            let never : not (has_id z list) ≡ false = ap not own in
            cc
        by false e k' = k'
