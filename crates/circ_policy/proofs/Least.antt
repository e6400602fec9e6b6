-- Of a table's keys, which rise, the first unknown one is the least.
use Rattle.std.proofs.Common.{◌≡◌, ℕ, Bool, true, false, not, List, [], ◌∷◌, Option, Some, None, IfSome, String, Global, Ordering, Less, Equal, Greater, string_bytes, nat_cmp, refl, ap, inl, inr}
use Rattle.std.proofs.lemmas.Bool.{cases_Bool}
use Rattle.std.specs.Cmp.Lexicographic.{slice_cmp}
use Rattle.std.specs.List.{AllByRecursion, filter}
use Rattle.std.specs.List.Sorted.{IsStrictlySortedBy}
use Rattle.std.specs.Map.{keys_of}
use Rattle.std.specs.Ordering.{match_ordering}
use Rattle.std.specs.String.{string_cmp}
use Rattle.toml.proofs.Views.{Entry}
use Rattle.toml.specs.View.{members_view}
use Rattle.circ_policy.specs.Order.{is_among, keys_in, least, least_unknown, lesser}

-- a key, where there is one, comes after k
abbrev IsAbove : List ℕ → Option (List ℕ) → Type 0
IsAbove k o = IfSome o (λ l. slice_cmp nat_cmp k l ≡ Less)

picked : (k e l : List ℕ) (o : Ordering) → slice_cmp nat_cmp k e ≡ Less
    → slice_cmp nat_cmp k l ≡ Less → slice_cmp nat_cmp k (match_ordering o e e l) ≡ Less
picked k e l Less a b = a
picked k e l Equal a b = a
picked k e l Greater a b = b

lesser_above : (k e : List ℕ) (o : Option (List ℕ)) → slice_cmp nat_cmp k e ≡ Less → IsAbove k o
    → slice_cmp nat_cmp k (lesser e o) ≡ Less
lesser_above k e None a b = a
lesser_above k e (Some l) a b = picked k e l (slice_cmp nat_cmp e l) a b

-- the least of some keys that all come after k does so too
least_above : (p : List ℕ → Bool) (k : String Global) (es : List Entry)
    → AllByRecursion (λ y. string_cmp k y ≡ Less) (keys_of es)
    → IsAbove (string_bytes k) (least (filter p (keys_in (members_view es))))
least_above p k [] h = tt
least_above p k (e ∷ es) h = elim (cases_Bool (p (string_bytes e.0))) [
  | inl is ↦ rw is (lesser_above (string_bytes k) (string_bytes e.0) (least (filter p (keys_in (members_view es)))) h.0 (least_above p k es h.1))
  | inr isnt ↦ rw isnt (least_above p k es h.1)
]

lesser-above : (k : List ℕ) (o : Option (List ℕ)) → IsAbove k o → lesser k o ≡ k
lesser-above k None h = refl
lesser-above k (Some l) h = rw h

-- an unknown key before keys that rise is the least one
pub least_unknown-first : (known : List (List ℕ)) (k : String Global) (e : Entry) (es : List Entry)
    → e.0 ≡ k → is_among known (string_bytes k) ≡ false
    → IsStrictlySortedBy string_cmp (keys_of (e ∷ es))
    → least_unknown known (members_view (e ∷ es)) ≡ Some (string_bytes k)
unfolding least_unknown IsStrictlySortedBy
least_unknown-first known k e es same off rising =
    rw (same, off) (ap Some (lesser-above (string_bytes k) _ (least_above (λ key. not (is_among known key)) k es (rw same at rising.0))))

-- a known key says nothing
pub least_unknown-known : (known : List (List ℕ)) (e : Entry) (es : List Entry)
    → is_among known (string_bytes e.0) ≡ true
    → least_unknown known (members_view (e ∷ es)) ≡ least_unknown known (members_view es)
unfolding least_unknown
least_unknown-known known e es on = rw on

pub rising_after : (e : Entry) (es : List Entry) → IsStrictlySortedBy string_cmp (keys_of (e ∷ es))
    → IsStrictlySortedBy string_cmp (keys_of es)
unfolding IsStrictlySortedBy
rising_after e es h = h.1
