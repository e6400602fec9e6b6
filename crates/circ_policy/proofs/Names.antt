-- Entries that rise by their names: what a search by halves finds there.
use Rattle.std.proofs.Common.{◌≡◌, ◌∙◌, ◌<◌, ◌≤◌, ℕ, zero, suc, cond, List, [], ◌∷◌, length, get_or, Some, None, Err, HoldsAt, nat_cmp, arith, refl, sym, ap, subst}
use Rattle.std.proofs.lemmas.Cmp.{nat_list_cmp_total}
use Rattle.std.specs.BTreeMap.{is_at}
use Rattle.std.specs.Cmp.Lexicographic.{slice_cmp}
use Rattle.std.specs.FinMap.{nat_cmp-IsAntisymmetric, slice_cmp-IsAntisymmetric}
use Rattle.std.specs.List.{AllByRecursion, AllWithin}
use Rattle.std.specs.List.Sorted.{IsBinarySearchResult, IsNonDecreasingBy, IsStrictlySortedBy}
use Rattle.std.specs.Map.{keys_of, lookup}
use Rattle.std.specs.Ordering.{is_eq, ordering_index, ordering_reverse}
use Rattle.std.specs.declared.cmp.Ordering.{Ordering}
use Rattle.std.specs.declared.cmp.Ordering.TheVariants.{Less, Equal, Greater}
use Rattle.circ_policy.specs.Order.{HaveRisingNames}
use Rattle.circ_policy.specs.declared.class.Class.{Class}

abbrev Named : Type 0
Named = List ℕ × Class

abbrev bytes_cmp : List ℕ → List ℕ → Ordering
bytes_cmp = slice_cmp nat_cmp

same : (a b : List ℕ) → bytes_cmp a b ≡ Equal → a ≡ b
same a b is = slice_cmp-IsAntisymmetric nat_cmp-IsAntisymmetric a b is

flipped : (a b : List ℕ) (o : Ordering) → bytes_cmp a b ≡ o → bytes_cmp b a ≡ ordering_reverse o
flipped a b o is = nat_list_cmp_total.antisymm b a ∙ ap ordering_reverse is

at-most : (o : Ordering) → ordering_index o ≤ ordering_index Greater
at-most Less = omega arith
at-most Equal = omega arith
at-most Greater = omega arith

index-is : (o p : Ordering) (n : ℕ) → o ≡ p → ordering_index p ≤ n → ordering_index o ≤ n
index-is o p n is h = subst (λ (x : Ordering). ordering_index x ≤ n) (sym is) h

no-fall : (a b k : List ℕ) → bytes_cmp a b ≡ Less → ordering_index (bytes_cmp a k) ≤ ordering_index (bytes_cmp b k)
no-fall a b k less = by (bytes_cmp b k) refl
  where
    by : (o : Ordering) → bytes_cmp b k ≡ o → ordering_index (bytes_cmp a k) ≤ ordering_index o
    by Less is =
        index-is (bytes_cmp a k) Less (ordering_index Less) (nat_list_cmp_total.trans a b k less is) (omega arith)
    by Equal is = index-is (bytes_cmp a k) Less (ordering_index Equal) (subst (λ (x : List ℕ). bytes_cmp a x ≡ Less) (same b k is) less) (omega arith)
    by Greater is = at-most (bytes_cmp a k)

all-at : (x : List ℕ) (es : List Named) (j : ℕ) (d : Named)
    → AllByRecursion (λ y. bytes_cmp x y ≡ Less) (keys_of es) → j < length es
    → bytes_cmp x (get_or es j d).0 ≡ Less
all-at x [] j d h n = absurd (omega (arith, n))
all-at x (e ∷ es) zero d h n = h.0
all-at x (e ∷ es) (suc j) d h n = all-at x es j d h.1 (omega (arith, n))

non-falling : (es : List Named) (k : List ℕ) → HaveRisingNames es
    → IsNonDecreasingBy (λ (e : Named). ordering_index (bytes_cmp e.0 k)) es
unfolding IsStrictlySortedBy
non-falling [] k s i j d le n = absurd (omega (arith, n))
non-falling (e ∷ es) k s zero zero d le n = omega arith
non-falling (e ∷ es) k s zero (suc j) d le n =
    no-fall e.0 (get_or es j d).0 k (all-at e.0 es j d s.0 (omega (arith, n)))
non-falling (e ∷ es) k s (suc i) zero d le n = absurd (omega (arith, le))
non-falling (e ∷ es) k s (suc i) (suc j) d le n = non-falling es k s.1 i j d (omega (arith, le)) (omega (arith, n))

looked : (es : List Named) (e : Named) (k : List ℕ) (o : Ordering) → bytes_cmp e.0 k ≡ o
    → lookup (is_at (bytes_cmp k)) (e ∷ es)
    ≡ cond (is_eq (ordering_reverse o)) (Some e.1) (lookup (is_at (bytes_cmp k)) es)
looked es e k o is =
    ap (λ (p : Ordering). cond (is_eq p) (Some e.1) (lookup (is_at (bytes_cmp k)) es)) (flipped e.0 k o is)

-- the entry at the place of a name has that name
pub found : (es : List Named) (k : List ℕ) (n : ℕ) (d : Named) → HaveRisingNames es → n < length es
    → HoldsAt (λ (e : Named). bytes_cmp e.0 k ≡ Equal) es n
    → lookup (is_at (bytes_cmp k)) es ≡ Some (get_or es n d).1
unfolding IsStrictlySortedBy
found [] k n d s lt at = absurd (omega (arith, lt))
found (e ∷ es) k zero d s lt at = looked es e k Equal (at e)
found (e ∷ es) k (suc n) d s lt at =
    let here : (get_or es n e).0 ≡ k = same (get_or es n e).0 k (at e) in
    let less : bytes_cmp e.0 k ≡ Less = subst (λ (x : List ℕ). bytes_cmp e.0 x ≡ Less) here (all-at e.0 es n e s.0 (omega (arith, lt))) in
    looked es e k Less less ∙ found es k n d s.1 (omega (arith, lt)) (λ x. at x)

apart : (es : List Named) (k : List ℕ) (n : ℕ) → n ≤ length es
    → AllWithin (λ (e : Named). bytes_cmp e.0 k ≡ Less) es 0 n
    → AllWithin (λ (e : Named). bytes_cmp e.0 k ≡ Greater) es n (length es) → lookup (is_at (bytes_cmp k)) es ≡ None
apart [] k n le low high = refl
apart (e ∷ es) k zero le low high =
    looked es e k Greater (high 0 e (omega arith) (omega arith))
    ∙ apart es k zero (omega arith) (λ m d a b. absurd (omega (arith, b)))
    (λ m d a b. high (suc m) d (omega arith) (omega (arith, b)))
apart (e ∷ es) k (suc n) le low high =
    looked es e k Less (low 0 e (omega arith) (omega arith))
    ∙ apart es k n (omega (arith, le)) (λ m d a b. low (suc m) d (omega arith) (omega (arith, b)))
    (λ m d a b. high (suc m) d (omega (arith, a)) (omega (arith, b)))

-- a name that has no place has no entry
pub missing : (es : List Named) (k : List ℕ) (n : ℕ) → HaveRisingNames es → n ≤ length es
    → IsBinarySearchResult (λ (e : Named). bytes_cmp e.0 k) es (Err n)
    → lookup (is_at (bytes_cmp k)) es ≡ None
missing es k n s le parts = let p = parts (non-falling es k s) in apart es k n le p.0 p.1
