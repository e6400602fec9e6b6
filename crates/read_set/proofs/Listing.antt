-- Lists that say who owns what: loans by the items' borrowers, open fees by the fees' patrons.
use Rattle.std.proofs.Common.{◌≡◌, ℕ, List, [], ◌∷◌, ◌++◌, Bool, true, false, cond, not, Option, Some, None, refl, sym, ap, ◌∙◌}
use Rattle.std.specs.Prelude.{◌&&◌, ◌||◌}
use Rattle.std.proofs.Math.Path.{fun_ext}
use Rattle.circ_records.proofs.SameTexts.{same-text, same-itself}
use Rattle.circ_records.specs.Coherent.{are_distinct, has_id}
use Rattle.circ_records.specs.Texts.{is_same}
use Rattle.read_set.specs.Ids.{without}
use Rattle.read_set.proofs.IdLists.{distinct-more, distinct-without, has-more, has-without}

-- a function with another value at an id
unfoldable pub set_at : {A : Type 0} → List ℕ → A → (List ℕ → A) → List ℕ → A
set_at id v f x = cond (is_same x id) v (f x)

-- whether an owner is this one
abbrev pub owned_by : List ℕ → Option (List ℕ) → Bool
owned_by p None = false
owned_by p (Some q) = is_same p q

-- each list has exactly what its owner owns, each once
pub record IsListed (lists : List ℕ → Option (List (List ℕ))) (owners : List ℕ → Option (List ℕ)) : Type 0 where
  pub each : (p : List ℕ) (list : List (List ℕ)) → lists p ≡ Some list → (x : List ℕ) → has_id x list ≡ owned_by p (owners x)
  pub once : (p : List ℕ) (list : List (List ℕ)) → lists p ≡ Some list → are_distinct list ≡ true

-- what is there already
pub set-same : {A : Type 0} (id : List ℕ) (v : A) (f : List ℕ → A) → f id ≡ v → set_at id v f ≡ f
unfolding set_at
set-same {A} id v f e = fun_ext (λ x. by x (is_same x id) refl)
  where
    by : (x : List ℕ) (b : Bool) → is_same x id ≡ b → cond b v (f x) ≡ f x
    by x true s = sym e ∙ ap f (sym (same-text x id s))
    by x false s = refl

pub set-there : {A : Type 0} (id : List ℕ) (v : A) (f : List ℕ → A) → set_at id v f id ≡ v
unfolding set_at
set-there id v f = ap (λ b. cond b v (f id)) (same-itself id)

pub set-other : {A : Type 0} (id : List ℕ) (v : A) (f : List ℕ → A) (x : List ℕ) → is_same x id ≡ false → set_at id v f x ≡ f x
unfolding set_at
set-other id v f x e = ap (λ b. cond b v (f x)) e

-- the newer value counts
pub set-twice : {A : Type 0} (id : List ℕ) (v w : A) (f : List ℕ → A) → set_at id v (set_at id w f) ≡ set_at id v f
unfolding set_at
set-twice {A} id v w f = fun_ext (λ x. by (is_same x id) (f x))
  where
    by : (b : Bool) (y : A) → cond b v (cond b w y) ≡ cond b v y
    by true y = refl
    by false y = refl

-- one list changes with what its owner owns, and nobody else's
pub listed-changed : (L : List ℕ → Option (List (List ℕ))) (O O' : List ℕ → Option (List ℕ)) (p : List ℕ) (list : List (List ℕ)) → IsListed L O
    → ((x : List ℕ) → has_id x list ≡ owned_by p (O' x)) → are_distinct list ≡ true
    → ((q x : List ℕ) → is_same q p ≡ false → owned_by q (O' x) ≡ owned_by q (O x)) → IsListed (set_at p (Some list) L) O'
unfolding set_at
listed-changed L O O' p list h own once other = record {
  each = λ q l e x. each-of q l x (is_same q p) refl e;
  once = λ q l e. once-of q l (is_same q p) refl e;
}
  where
    each-of : (q : List ℕ) (l : List (List ℕ)) (x : List ℕ) (b : Bool) → is_same q p ≡ b → cond b (Some list) (L q) ≡ Some l → has_id x l ≡ owned_by q (O' x)
    each-of q l x true s e =
        let same : list ≡ l = cc e in
        let one : q ≡ p = same-text q p s in
        ap (has_id x) (sym same) ∙ own x ∙ ap (λ t. owned_by t (O' x)) (sym one)
    each-of q l x false s e = h.each q l e x ∙ sym (other q x s)

    once-of : (q : List ℕ) (l : List (List ℕ)) (b : Bool) → is_same q p ≡ b → cond b (Some list) (L q) ≡ Some l → are_distinct l ≡ true
    once-of q l true s e = let same : list ≡ l = cc e in ap are_distinct (sym same) ∙ once
    once-of q l false s e = h.once q l e

-- what nobody owned goes last in a list
pub listed-more : (L : List ℕ → Option (List (List ℕ))) (O : List ℕ → Option (List ℕ)) (p x : List ℕ) (list : List (List ℕ)) → IsListed L O → L p ≡ Some list → O x ≡ None
    → IsListed (set_at p (Some (list ++ x ∷ [])) L) (set_at x (Some p) O)
unfolding set_at
listed-more L O p x list h e none = listed-changed L O (set_at x (Some p) O) p (list ++ x ∷ []) h own (distinct-more x list (h.once p list e) (h.each p list e x ∙ ap (owned_by p) none)) other
  where
    own : (y : List ℕ) → has_id y (list ++ x ∷ []) ≡ owned_by p (cond (is_same y x) (Some p) (O y))
    own y = has-more y x list ∙ by (is_same y x) (h.each p list e y)
      where
        by : (b : Bool) → has_id y list ≡ owned_by p (O y) → (has_id y list || b) ≡ owned_by p (cond b (Some p) (O y))
        by true k = either (has_id y list) ∙ sym (same-itself p)
          where
            either : (b : Bool) → (b || true) ≡ true
            either true = refl
            either false = refl
        by false k = neither (has_id y list) ∙ k
          where
            neither : (b : Bool) → (b || false) ≡ b
            neither true = refl
            neither false = refl

    other : (q y : List ℕ) → is_same q p ≡ false → owned_by q (cond (is_same y x) (Some p) (O y)) ≡ owned_by q (O y)
    other q y s = by (is_same y x) refl
      where
        by : (b : Bool) → is_same y x ≡ b → owned_by q (cond b (Some p) (O y)) ≡ owned_by q (O y)
        by true k = s ∙ sym (ap (λ t. owned_by q (O t)) (same-text y x k) ∙ ap (owned_by q) none)
        by false k = refl

-- what its owner had leaves the list
pub listed-less : (L : List ℕ → Option (List (List ℕ))) (O : List ℕ → Option (List ℕ)) (p x : List ℕ) (list : List (List ℕ)) → IsListed L O → L p ≡ Some list → O x ≡ Some p
    → IsListed (set_at p (Some (without x list)) L) (set_at x None O)
unfolding set_at
listed-less L O p x list h e own-it = listed-changed L O (set_at x None O) p (without x list) h own (distinct-without x list (h.once p list e)) other
  where
    own : (y : List ℕ) → has_id y (without x list) ≡ owned_by p (cond (is_same y x) None (O y))
    own y = has-without y x list ∙ by (is_same y x) (h.each p list e y)
      where
        by : (b : Bool) → has_id y list ≡ owned_by p (O y) → (not b && has_id y list) ≡ owned_by p (cond b None (O y))
        by true k = refl
        by false k = k

    other : (q y : List ℕ) → is_same q p ≡ false → owned_by q (cond (is_same y x) None (O y)) ≡ owned_by q (O y)
    other q y s = by (is_same y x) refl
      where
        by : (b : Bool) → is_same y x ≡ b → owned_by q (cond b None (O y)) ≡ owned_by q (O y)
        by true k = sym (ap (λ t. owned_by q (O t)) (same-text y x k) ∙ ap (owned_by q) own-it ∙ s)
        by false k = refl
