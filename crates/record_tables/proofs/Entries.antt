-- The entries of a map whose keys rise: each is what the map has at its key.
use Rattle.std.proofs.Common.{◌≡◌, ◌∙◌, ℕ, List, [], ◌∷◌, ◌++◌, Bool, true, false, cond, Option, Some, None, map, refl, sym, ap, subst}
use Rattle.circ_records.proofs.Changing.{same-key}
use Rattle.std.proofs.lemmas.List.{append-nil}
use Rattle.std.proofs.lemmas.Map.Keys.{sorted_head, sorted_tail}
use Rattle.std.specs.Cmp.{tied_itself}
use Rattle.std.specs.List.{AllByRecursion, flat_map}
use Rattle.std.specs.Ordering.{is_eq, ordering_reverse}
use Rattle.std.specs.declared.cmp.Ordering.TheVariants.{Less}
use Rattle.circ_records.specs.Keys.{key_cmp, key_cmp_total}
use Rattle.circ_records.specs.Records.{AreRising, Entries, record_at}
use Rattle.circ_records.specs.declared.key.Key.{Key}
use Rattle.circ_records.specs.declared.key.Key.TheVariants as key
use Rattle.circ_records.specs.declared.record.Fee.{Fee}
use Rattle.circ_records.specs.declared.record.Item.{Item}
use Rattle.circ_records.specs.declared.record.Patron.{Patron}
use Rattle.circ_records.specs.declared.record.Record.{Record}
use Rattle.circ_records.specs.declared.record.Record.TheVariants as record_of
use Rattle.record_tables.specs.Tables.{Row}
use Rattle.record_tables.specs.Written.{of_fee, of_item, of_patron}

-- what holds of each of a list, from what holds of each
pub all-from : {A : Type 0} (P Q : A → Type 0) (xs : List A) → ((x : A) → P x → Q x)
    → AllByRecursion P xs → AllByRecursion Q xs
all-from P Q [] h all = tt
all-from P Q (x ∷ xs) h all = (h x all.0, all-from P Q xs h all.1)

pub all-append : {A : Type 0} (P : A → Type 0) (xs ys : List A) → AllByRecursion P xs
    → AllByRecursion P ys → AllByRecursion P (xs ++ ys)
all-append P [] ys all more = more
all-append P (x ∷ xs) ys all more = (all.0, all-append P xs ys all.1 more)

-- what entries with this key give: nothing if the map has none there
abbrev pub given : {A : Type 0} → (Key × Record → List A) → Key → Option Record → List A
given f k None = []
given f k (Some r) = f (k, r)

pub itself : (k : Key) → is_eq (key_cmp k k) ≡ true
itself k = ap is_eq (tied_itself key_cmp_total k)

above : (a b : Key) → key_cmp a b ≡ Less → is_eq (key_cmp b a) ≡ false
above a b less = ap is_eq (key_cmp_total.antisymm b a) ∙ ap (λ o. is_eq (ordering_reverse o)) less

-- an entry in front of others that are above it hides none of them
behind : (e : Key × Record) (all rest : Entries) → AllByRecursion (λ y. key_cmp e.0 y ≡ Less) (map (λ x. x.0) rest)
    → AllByRecursion (λ x. record_at all x.0 ≡ Some x.1) rest
    → AllByRecursion (λ x. record_at (e ∷ all) x.0 ≡ Some x.1) rest
behind e all [] low at = tt
behind e all (x ∷ rest) low at =
    (ap (λ b. cond b (Some e.1) (record_at all x.0)) (above e.0 x.0 low.0) ∙ at.0, behind e all rest low.1 at.1)

-- each entry is what the map has at its key
pub each-at-its-key : (es : Entries) → AreRising es → AllByRecursion (λ x. record_at es x.0 ≡ Some x.1) es
each-at-its-key [] rising = tt
each-at-its-key (e ∷ es) rising = (
  ap (λ b. cond b (Some e.1) (record_at es e.0)) (itself e.0),
  behind e es es (sorted_head key_cmp e.0 (map (λ x. x.0) es) rising) (each-at-its-key es (sorted_tail key_cmp e.0 (map (λ x. x.0) es) rising)),
)

none-above : {A : Type 0} (f : Key × Record → List A) (k : Key) (es : Entries)
    → AllByRecursion (λ y. key_cmp k y ≡ Less) (map (λ x. x.0) es)
    → AllByRecursion (λ x. is_eq (key_cmp k x.0) ≡ false → f x ≡ []) es → flat_map f es ≡ []
none-above f k [] low none = refl
none-above f k (e ∷ es) low none =
    ap (λ xs. xs ++ flat_map f es) (none.0 (ap is_eq low.0)) ∙ none-above f k es low.1 none.1

only-at : {A : Type 0} (f : Key × Record → List A) (k : Key) (es : Entries) → AreRising es
    → AllByRecursion (λ x. is_eq (key_cmp k x.0) ≡ false → f x ≡ []) es
    → flat_map f es ≡ given f k (record_at es k)
only-at f k [] rising none = refl
only-at {A} f k (e ∷ es) rising none =
    by (is_eq (key_cmp k e.0)) refl (only-at f k es (sorted_tail key_cmp e.0 (map (λ x. x.0) es) rising) none.1)
  where
    by : (b : Bool) → is_eq (key_cmp k e.0) ≡ b → flat_map f es ≡ given f k (record_at es k)
        → f e ++ flat_map f es ≡ given f k (cond b (Some e.1) (record_at es k))
    by true t rest =
        let same : k ≡ e.0 = same-key k e.0 t in
        let low = sorted_head key_cmp e.0 (map (λ x. x.0) es) rising in
        let others = subst (λ (q : Key). AllByRecursion (λ x. is_eq (key_cmp q x.0) ≡ false → f x ≡ []) es) same none.1 in
        ap (λ xs. f e ++ xs) (none-above f e.0 es low others) ∙ append-nil (f e) ∙ ap (λ x. f (x, e.1)) (sym same)
    by false t rest = ap (λ xs. xs ++ flat_map f es) (none.0 t) ∙ rest

-- where entries at other keys give nothing, all give what the one at the key gives
pub gives-at : {A : Type 0} (f : Key × Record → List A) (k : Key) (es : Entries) → AreRising es
    → ((x : Key × Record) → record_at es x.0 ≡ Some x.1 → is_eq (key_cmp k x.0) ≡ false → f x ≡ [])
    → flat_map f es ≡ given f k (record_at es k)
gives-at f k es rising none =
    only-at f k es rising (all-from (λ x. record_at es x.0 ≡ Some x.1) (λ x. is_eq (key_cmp k x.0) ≡ false → f x ≡ []) es none (each-at-its-key es rising))

none-of-all : {A : Type 0} (f : Key × Record → List A) (es : Entries)
    → AllByRecursion (λ x. f x ≡ []) es → flat_map f es ≡ []
none-of-all f [] none = refl
none-of-all f (e ∷ es) none = ap (λ xs. xs ++ flat_map f es) none.0 ∙ none-of-all f es none.1

-- where no entry gives anything
pub gives-nothing : {A : Type 0} (f : Key × Record → List A) (es : Entries) → AreRising es
    → ((x : Key × Record) → record_at es x.0 ≡ Some x.1 → f x ≡ []) → flat_map f es ≡ []
gives-nothing f es rising none =
    none-of-all f es (all-from (λ x. record_at es x.0 ≡ Some x.1) (λ x. f x ≡ []) es none (each-at-its-key es rising))

all-flat : {A : Type 0} (P : A → Type 0) (f : Key × Record → List A) (es : Entries)
    → AllByRecursion (λ x. AllByRecursion P (f x)) es → AllByRecursion P (flat_map f es)
all-flat P f [] all = tt
all-flat P f (e ∷ es) all = all-append P (f e) (flat_map f es) all.0 (all-flat P f es all.1)

-- what holds of all that each entry gives
pub each-given : {A : Type 0} (P : A → Type 0) (f : Key × Record → List A) (es : Entries) → AreRising es
    → ((x : Key × Record) → record_at es x.0 ≡ Some x.1 → AllByRecursion P (f x)) → AllByRecursion P (flat_map f es)
each-given P f es rising h =
    all-flat P f es (all-from (λ x. record_at es x.0 ≡ Some x.1) (λ x. AllByRecursion P (f x)) es h (each-at-its-key es rising))

-- what holds of the rows of each entry, by the kind of its key: of a record of another kind, which
-- has none, and of one of the same
pub by-patron : (P : Key × Record → List Row → Type 0) (rows : List ℕ → Patron → List Row)
    → ((x : Key × Record) → P x [])
    → ((id : List ℕ) (p : Patron) → P (key.Patron id, record_of.Patron p) (rows id p))
    → (x : Key × Record) → P x (of_patron rows x)
by-patron P rows none some (key.Patron id, record_of.Patron p) = some id p
by-patron P rows none some (key.Patron id, record_of.Item i) = none (key.Patron id, record_of.Item i)
by-patron P rows none some (key.Patron id, record_of.Fee f) = none (key.Patron id, record_of.Fee f)
by-patron P rows none some (key.Item id, r) = none (key.Item id, r)
by-patron P rows none some (key.Fee id, r) = none (key.Fee id, r)

pub by-item : (P : Key × Record → List Row → Type 0) (rows : List ℕ → Item → List Row)
    → ((x : Key × Record) → P x [])
    → ((id : List ℕ) (i : Item) → P (key.Item id, record_of.Item i) (rows id i))
    → (x : Key × Record) → P x (of_item rows x)
by-item P rows none some (key.Item id, record_of.Item i) = some id i
by-item P rows none some (key.Item id, record_of.Patron p) = none (key.Item id, record_of.Patron p)
by-item P rows none some (key.Item id, record_of.Fee f) = none (key.Item id, record_of.Fee f)
by-item P rows none some (key.Patron id, r) = none (key.Patron id, r)
by-item P rows none some (key.Fee id, r) = none (key.Fee id, r)

pub by-fee : (P : Key × Record → List Row → Type 0) (rows : List ℕ → Fee → List Row)
    → ((x : Key × Record) → P x [])
    → ((id : List ℕ) (f : Fee) → P (key.Fee id, record_of.Fee f) (rows id f))
    → (x : Key × Record) → P x (of_fee rows x)
by-fee P rows none some (key.Fee id, record_of.Fee f) = some id f
by-fee P rows none some (key.Fee id, record_of.Patron p) = none (key.Fee id, record_of.Patron p)
by-fee P rows none some (key.Fee id, record_of.Item i) = none (key.Fee id, record_of.Item i)
by-fee P rows none some (key.Patron id, r) = none (key.Patron id, r)
by-fee P rows none some (key.Item id, r) = none (key.Item id, r)
