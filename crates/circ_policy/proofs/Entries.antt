-- The entries of a table, one by one.
use Rattle.std.proofs.Common.{◌≡◌, ◌++◌, ℕ, Bool, true, false, List, [], ◌∷◌, Option, Some, None, Result, Ok, Err, codes, if◌then◌else◌, String, Global, Less, map, nat_cmp, string_bytes, refl, ap, sym}
use Rattle.std.specs.Cmp.Lexicographic.{slice_cmp}
use Rattle.std.specs.List.{AllByRecursion}
use Rattle.std.specs.List.Sorted.{IsStrictlySortedBy}
use Rattle.std.specs.Map.{keys_of}
use Rattle.std.specs.String.{string_cmp}
use Rattle.toml.proofs.Views.{Entry}
use Rattle.toml.specs.Data.{Data, Members, as_table, member}
use Rattle.toml.specs.View.{members_view, view}
use Rattle.circ_policy.specs.Order.{in_byte_order, with_member}
use Rattle.circ_policy.specs.Reading.{◌>>=◌, Refusal, class_in, entries, limits, required, within}
use Rattle.circ_policy.specs.declared.class.Class.{Class}
use Rattle.sip_reader.specs.Texts.{is_id}

-- what was read comes before what is left
abbrev pub with_front : {X : Type 0} → List X → Result (List X) Refusal → Result (List X) Refusal
with_front done (Ok xs) = Ok (done ++ xs)
with_front done (Err e) = Err e

one_more : {X : Type 0} (done : List X) (x : X) (xs : List X) → done ++ x ∷ xs ≡ (done ++ x ∷ []) ++ xs
one_more [] x xs = refl
one_more (y ∷ done) x xs = ap (λ l. y ∷ l) (one_more done x xs)

then_more : {X : Type 0} (done : List X) (x : X) (r : Result (List X) Refusal)
    → with_front done (r >>= (λ xs. Ok (x ∷ xs))) ≡ with_front (done ++ x ∷ []) r
then_more done x (Ok xs) = ap Ok (one_more done x xs)
then_more done x (Err e) = refl

-- an entry that was read comes after the earlier ones
pub entries-more : {X : Type 0} (read : List ℕ → Data → Result X Refusal) (done : List X)
    (e : Entry) (es : List Entry) (x : X) → read (string_bytes e.0) (view e.1) ≡ Ok x
    → with_front done (entries read (members_view (e ∷ es)))
    ≡ with_front (done ++ x ∷ []) (entries read (members_view es))
entries-more read done e es x said = rw said (then_more done x (entries read (members_view es)))

front_none : {X : Type 0} (r : Result (List X) Refusal) → with_front [] r ≡ r
front_none (Ok xs) = refl
front_none (Err e) = refl

-- keys that rise are in byte order
put_first : (k : String Global) (d : Data) (es : List Entry)
    → AllByRecursion (λ y. string_cmp k y ≡ Less) (keys_of es)
    → with_member (string_bytes k) d (members_view es) ≡ member (string_bytes k) d (members_view es)
put_first k d [] h = refl
put_first k d (e ∷ es) h = rw h.0 refl

pub in_byte_order-rising : (es : List Entry) → IsStrictlySortedBy string_cmp (keys_of es)
    → in_byte_order (members_view es) ≡ members_view es
unfolding IsStrictlySortedBy
in_byte_order-rising [] h = refl
in_byte_order-rising (e ∷ es) h = rw (in_byte_order-rising es h.1) (put_first e.0 (view e.1) es h.0)

-- at first nothing was read
pub entries-start : {X : Type 0} (read : List ℕ → Data → Result X Refusal) (es : List Entry)
    → IsStrictlySortedBy string_cmp (keys_of es)
    → with_front [] (entries read (members_view es))
    ≡ entries read (in_byte_order (members_view es))
entries-start read es rising = rw (in_byte_order-rising es rising) (front_none (entries read (members_view es)))

same_all : (k : String Global) (es : List Entry)
    → AllByRecursion (λ y. string_cmp k y ≡ Less) (keys_of es)
    → AllByRecursion (λ y. slice_cmp nat_cmp (string_bytes k) y ≡ Less)
    (map (λ e. string_bytes e.0) es)
same_all k [] h = tt
same_all k (e ∷ es) h = (h.0, same_all k es h.1)

-- the same keys as bytes
pub rising_bytes : (es : List Entry) → IsStrictlySortedBy string_cmp (keys_of es)
    → IsStrictlySortedBy (slice_cmp nat_cmp) (map (λ e. string_bytes e.0) es)
unfolding IsStrictlySortedBy
rising_bytes [] h = tt
rising_bytes (e ∷ es) h = (same_all e.0 es h.0, rising_bytes es h.1)

pub keys_of-last : {X : Type 0} (es : List (List ℕ × X)) (k : List ℕ) (v : X) (more : List (List ℕ))
    → keys_of (es ++ (k, v) ∷ []) ++ more ≡ keys_of es ++ k ∷ more
keys_of-last [] k v more = refl
keys_of-last (e ∷ es) k v more = ap (λ ks. e.0 ∷ ks) (keys_of-last es k v more)

abbrev named : List ℕ → Class → Result (List ℕ × Class) Refusal
named name class = Ok (name, class)

abbrev name_of : List ℕ → Result (List ℕ × Class) Refusal → List ℕ
name_of other (Ok class) = class.0
name_of other (Err refusal) = other

with_class : (name id : List ℕ) (class : Class) (r : Result Class Refusal)
    → (r >>= (λ found. named name found)) ≡ Ok (id, class) → id ≡ name
with_class name id class (Ok found) e = ap (name_of id) (sym e)
with_class name id class (Err refusal) e = cc

with_table : (key name id : List ℕ) (class : Class) (read : Members → Result Class Refusal) (o : Option Members)
    → (required key o >>= (λ ms. read ms >>= (λ found. named name found))) ≡ Ok (id, class) → id ≡ name
with_table key name id class read None e = cc
with_table key name id class read (Some ms) e = with_class name id class (read ms) e

with_id : (b : Bool) (key name id : List ℕ) (class : Class) (read : Members → Result Class Refusal) (o : Option Members)
    → (required key (if b then Some name
    else None) >>= (λ found_id. required key o >>= (λ ms. read ms >>= (λ found. named found_id found)))) ≡ Ok (id, class) → id ≡ name
with_id true key name id class read o e = with_table key name id class read o e
with_id false key name id class read o e = cc

-- a class has the name of its entry
pub class_in-name : (name : List ℕ) (d : Data) (id : List ℕ) (class : Class)
    → class_in name d ≡ Ok (id, class) → id ≡ name
unfolding class_in
class_in-name name d id class e = with_id (is_id name) (within (codes "class") name) name id class (limits (within (codes "class") name)) (as_table d) e
