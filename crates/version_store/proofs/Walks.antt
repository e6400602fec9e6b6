-- A walk over the entries of a line in the order of their keys: what is left, and what was passed.
use Rattle.std.proofs.Common.{◌≡◌, ◌≢◌, ℕ, true, cond, List, [], ◌∷◌, Option, Some, None, Ordering, Less, Equal, Greater, refl, sym, ap, subst, ◌∙◌, ◌⊎◌, inl, inr}
use Rattle.std.specs.Prelude.{T, option_map}
use Rattle.std.proofs.lemmas.Option.{none-some, same_Some}
use Rattle.std.proofs.lemmas.Bool.{cases_Bool}
use Rattle.std.proofs.lemmas.Cmp.{tied_itself, eq_by_cmp_equiv}
use Rattle.std.specs.Ordering.{is_eq, ordering_reverse}
use Rattle.std.specs.BTreeMap.{is_at}
use Rattle.std.specs.FinMap.{get}
use Rattle.std.specs.FinMap.Entries.{below_all, find}
use Rattle.circ_records.specs.Keys.{key_cmp, key_cmp_total, key_cmp-IsAntisymmetric}
use Rattle.circ_records.specs.declared.key.Key.{Key}
use Rattle.version_store.specs.Entries.{Shown, shown, line_of, AllOf, IsLeastLeft}
use Rattle.version_store.specs.declared.entry.StoredEntry.{StoredEntry}
use Rattle.version_store.specs.Devices.Positions.{Rise}
use Rattle.version_store.proofs.Positions.{first, second, less}
use Rattle.version_store.proofs.Views.{get_shown}

is_eq_true : (o : Ordering) → is_eq o ≡ true → o ≡ Equal
is_eq_true Less h = absurd (cc)
is_eq_true Equal h = refl
is_eq_true Greater h = absurd (cc)

pub same_key : (q k : Key) → is_at (key_cmp q) k ≡ true → q ≡ k
same_key q k h = key_cmp-IsAntisymmetric q k (is_eq_true (key_cmp q k) h)

key_here : (k : Key) → is_at (key_cmp k) k ≡ true
key_here k = (eq_by_cmp_equiv key_cmp_total).refl k

pub not_below : (q k : Key) → key_cmp q k ≡ Less → q ≡ k → ⊥
not_below q k lt e = (let z : Less ≡ Equal = sym lt ∙ ap (λ x. key_cmp x k) e ∙ tied_itself key_cmp_total k in cc)

pub not_both : (q k : Key) → key_cmp q k ≡ Less → key_cmp k q ≡ Less → ⊥
not_both q k lt gt = (let z : Less ≡ Greater = sym lt ∙ key_cmp_total.antisymm q k ∙ ap ordering_reverse gt in cc)

module _ {X : Type 0} where
  abbrev pub look : Key → List (Key × X) → Option X
  look q es = find key_cmp q es

  pub at_head : (k : Key) (v : X) (es : List (Key × X)) → look k ((k, v) ∷ es) ≡ Some v
  at_head k v es = ap (λ b. cond b (Some v) (look k es)) (key_here k)

  pub head_or_tail : (q k : Key) (v u : X) (es : List (Key × X)) → look q ((k, v) ∷ es) ≡ Some u → ((q ≡ k) × (v ≡ u)) ⊎ (look q es ≡ Some u)
  head_or_tail q k v u es h = elim (cases_Bool (is_at (key_cmp q) k)) [
    | inl e ↦ inl (same_key q k e, same_Some v u (ap (λ b. cond b (Some v) (look q es)) (sym e) ∙ h))
    | inr e ↦ inr (ap (λ b. cond b (Some v) (look q es)) (sym e) ∙ h)
  ]

  -- the keys rise
  abbrev pub Rising : List (Key × X) → Type 0
  Rising [] = Unit {0}
  Rising (e ∷ es) = ((q : Key) (u : X) → look q es ≡ Some u → key_cmp e.0 q ≡ Less) × Rising es

  above_all : (x : Key) (es : List (Key × X)) → T (below_all key_cmp x es) → (q : Key) (u : X) → look q es ≡ Some u → key_cmp x q ≡ Less
  above_all x [] all q u h = absurd (none-some u h)
  above_all x (e ∷ es) all q u h = elim (head_or_tail q e.0 e.1 u es h) [
    | inl i ↦ subst (λ y. key_cmp x y ≡ Less) (sym i.0) (less (key_cmp x e.0) (first _ _ all))
    | inr t ↦ above_all x es (second _ _ all) q u t
  ]

  pub rising : (es : List (Key × X)) → Rise es → Rising es
  rising [] h = tt
  rising (e ∷ es) h = (above_all e.0 es (first _ _ h), rising es (second _ _ h))

  -- all was walked as far as what is left, and what was passed was good
  pub record Went (Good : Key → X → Type 0) (all rest : List (Key × X)) : Type 0 where
    pub ordered : Rising rest
    pub here : (q : Key) (u : X) → look q rest ≡ Some u → look q all ≡ Some u
    pub gone : (q : Key) (u : X) → look q all ≡ Some u → (look q rest ≡ Some u) ⊎ Good q u

  module _ (Good : Key → X → Type 0) (all : List (Key × X)) where
    pub went_start : (rest : List (Key × X)) → rest ≡ all → Rise all → Went Good all rest
    went_start rest e h =
        subst (λ x. Went Good all x) (sym e) (record { ordered = rising all h; here = λ q u g. g; gone = λ q u g. inl g })

    module _ (rest tail : List (Key × X)) (k : Key) (v : X) (is : rest ≡ (k, v) ∷ tail) (went : Went Good all rest) where
      ordered_is : Rising ((k, v) ∷ tail)
      ordered_is = subst Rising is went.ordered

      pub went_on : Good k v → Went Good all tail
      went_on good =
          record {
            ordered = ordered_is.1;
            here = λ q u h. went.here q u (ap (look q) is ∙ elim (cases_Bool (is_at (key_cmp q) k)) [
              | inl e ↦ absurd (not_below k q (ordered_is.0 q u h) (sym (same_key q k e)))
              | inr e ↦ ap (λ b. cond b (Some v) (look q tail)) e ∙ h
            ]);
            gone = λ q u h. elim (went.gone q u h) [
              | inl r ↦ elim (head_or_tail q k v u tail (ap (look q) (sym is) ∙ r)) [
                | inl i ↦ inr (subst (λ x. Good x u) (sym i.0) (subst (λ y. Good k y) i.1 good))
                | inr t ↦ inl t
              ]
              | inr g ↦ inr g
            ];
          }

      pub went_here : look k all ≡ Some v
      went_here = went.here k v (ap (look k) is ∙ at_head k v tail)

      pub went_below : (q : Key) (u : X) → key_cmp q k ≡ Less → look q all ≡ Some u → Good q u
      went_below q u lt h = elim (went.gone q u h) [
        | inl r ↦ elim (head_or_tail q k v u tail (ap (look q) (sym is) ∙ r)) [
          | inl i ↦ absurd (not_below q k lt i.0)
          | inr t ↦ absurd (not_both q k lt (ordered_is.0 q u t))
        ]
        | inr g ↦ g
      ]

    pub went_all : (rest : List (Key × X)) → rest ≡ [] → Went Good all rest → (q : Key) (u : X) → look q all ≡ Some u → Good q u
    went_all rest e went q u h = elim (went.gone q u h) [
      | inl r ↦ absurd (none-some u (ap (look q) (sym e) ∙ r))
      | inr g ↦ g
    ]

-- ---- entries of an attempt
shown_some : {J : Type 0} (o : Option (StoredEntry J)) (s : Shown) → option_map shown o ≡ Some s → (e : StoredEntry J) × (o ≡ Some e) × (shown e ≡ s)
shown_some None s h = absurd (none-some s h)
shown_some (Some e) s h = (e, refl, same_Some (shown e) s h)

abbrev pub IsOwn : {J : Type 0} → ℕ → Key → StoredEntry J → Type 0
IsOwn a q e = e.attempt ≡ a

own_shown : {J : Type 0} (es : List (Key × StoredEntry J)) (a : ℕ) (q : Key) → ((e : StoredEntry J) → look q es ≡ Some e → e.attempt ≡ a) → (s : Shown) → get (line_of es) q ≡ Some s → s.attempt ≡ a
own_shown es a q own s h =
    let x = shown_some (look q es) s (sym (get_shown es q) ∙ h) in
    ap (λ (y : Shown). y.attempt) (sym x.2) ∙ own x.0 x.1

pub all_own : {J : Type 0} (es : List (Key × StoredEntry J)) (a : ℕ) → ((q : Key) (e : StoredEntry J) → look q es ≡ Some e → e.attempt ≡ a) → AllOf (line_of es) a
all_own es a own = λ q s h. own_shown es a q (own q) s h

pub least_left : {J : Type 0} (es : List (Key × StoredEntry J)) (a : ℕ) (k : Key) (e : StoredEntry J) → look k es ≡ Some e → e.attempt ≢ a
    → ((q : Key) (u : StoredEntry J) → key_cmp q k ≡ Less → look q es ≡ Some u → u.attempt ≡ a) → IsLeastLeft (line_of es) a k
least_left es a k e here apart below =
    ((shown e, get_shown es k ∙ ap (option_map shown) here, apart), λ q s lt h. own_shown es a q (λ u g. below q u lt g) s h)
