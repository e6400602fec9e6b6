-- The lines that have an entry at a key, after a change of one column.
use Rattle.std.proofs.Common.{◌≡◌, ℕ, Bool, true, false, cond, Option, Some, None, List, [], ◌∷◌, refl, sym, ap, ◌∙◌}
use Rattle.std.specs.Prelude.{◌||◌}
use Rattle.std.specs.Ordering.{nat_cmp, eq_by_cmp, is_eq}
use Rattle.std.specs.declared.cmp.Ordering.{Ordering}
use Rattle.std.specs.declared.cmp.Ordering.TheVariants.{Less, Equal, Greater}
use Rattle.std.specs.Option.{IsSome}
use Rattle.circ_records.specs.Keys.{key_cmp, key_cmp-IsAntisymmetric}
use Rattle.circ_records.specs.declared.key.Key.{Key}
use Rattle.version_store.specs.Index.{has, in_column, with_at}

tie : (r : Ordering) → is_eq r ≡ true → r ≡ Equal
tie Less e = cc
tie Equal e = refl
tie Greater e = cc

-- keys that tie are one
pub same_key : (k q : Key) → eq_by_cmp key_cmp k q ≡ true → k ≡ q
same_key k q e = key_cmp-IsAntisymmetric k q (tie (key_cmp k q) e)

pub some_is : {A : Type 0} (o : Option A) (x : A) → o ≡ Some x → IsSome o
some_is o x e = rw e refl

pub alone : (b : Bool) → b || false ≡ cond b true false
alone true = refl
alone false = refl

begun_if : (n m : ℕ) (before : Option (List ℕ)) (b : Bool)
    → (b ≡ true → before ≡ None)
    → in_column (cond b (Some (n ∷ [])) before) m ≡ cond b (cond (eq_by_cmp nat_cmp n m) true (in_column before m)) (in_column before m)
begun_if n m before true h = rw (h refl) (alone (eq_by_cmp nat_cmp n m))
begun_if n m before false h = refl

-- a column that is new has one line
pub begun : (old new : Key → Option (List ℕ)) (k q : Key) (n m : ℕ)
    → old k ≡ None
    → ((p : Key) → new p ≡ cond (eq_by_cmp key_cmp k p) (Some (n ∷ [])) (old p))
    → in_column (new q) m ≡ with_at k n true (λ x y. in_column (old x) y) q m
begun old new k q n m none u = ap (λ o. in_column o m) (u q) ∙ begun_if n m (old q) (eq_by_cmp key_cmp k q) (λ t. ap old (sym (same_key k q t)) ∙ none)

changed_if : (n m : ℕ) (w : Bool) (old new : List ℕ) (before : Option (List ℕ)) (b : Bool)
    → (b ≡ true → before ≡ Some old)
    → has new m ≡ cond (eq_by_cmp nat_cmp n m) w (has old m)
    → in_column (cond b (Some new) before) m ≡ cond b (cond (eq_by_cmp nat_cmp n m) w (in_column before m)) (in_column before m)
changed_if n m w old new before true h g = rw (h refl) g
changed_if n m w old new before false h g = refl

-- a column in which one line was changed
pub changed : (old new : Key → Option (List ℕ)) (k q : Key) (n m : ℕ) (w : Bool) (was is : List ℕ)
    → old k ≡ Some was
    → ((p : Key) → new p ≡ cond (eq_by_cmp key_cmp k p) (Some is) (old p))
    → ((p : ℕ) → has is p ≡ cond (eq_by_cmp nat_cmp n p) w (has was p))
    → in_column (new q) m ≡ with_at k n w (λ x y. in_column (old x) y) q m
changed old new k q n m w was is there u v =
    ap (λ o. in_column o m) (u q)
    ∙ changed_if n m w was is (old q) (eq_by_cmp key_cmp k q)
    (λ e. ap old (sym (same_key k q e)) ∙ there) (v m)

kept_if : (m : ℕ) (old new : List ℕ) (before : Option (List ℕ)) (b : Bool)
    → (b ≡ true → before ≡ Some old) → new ≡ old
    → in_column (cond b (Some new) before) m ≡ in_column before m
kept_if m old new before true h g = rw (h refl, g) refl
kept_if m old new before false h g = refl

-- a column that was written back as it was
pub kept : (old new : Key → Option (List ℕ)) (k q : Key) (m : ℕ) (was is : List ℕ)
    → old k ≡ Some was
    → ((p : Key) → new p ≡ cond (eq_by_cmp key_cmp k p) (Some is) (old p))
    → is ≡ was
    → in_column (new q) m ≡ in_column (old q) m
kept old new k q m was is there u v =
    ap (λ o. in_column o m) (u q)
    ∙ kept_if m was is (old q) (eq_by_cmp key_cmp k q)
    (λ e. ap old (sym (same_key k q e)) ∙ there) v

at_none : (b c : Bool) (o : Option (List ℕ)) (m : ℕ) → (b ≡ true → o ≡ None) → in_column o m ≡ cond b (cond c false (in_column o m)) (in_column o m)
at_none false c o m h = refl
at_none true true o m h = rw (h refl) refl
at_none true false o m h = refl

-- a key that has no column
pub untouched : (f : Key → Option (List ℕ)) (k q : Key) (n m : ℕ)
    → f k ≡ None → in_column (f q) m ≡ with_at k n false (λ x y. in_column (f x) y) q m
untouched f k q n m none = at_none (eq_by_cmp key_cmp k q) (eq_by_cmp nat_cmp n m) (f q) m (λ e. ap f (sym (same_key k q e)) ∙ none)
