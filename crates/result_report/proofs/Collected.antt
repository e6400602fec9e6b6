-- Records that are collected key by key.
use Rattle.std.proofs.Common.{◌≡◌, ◌∙◌, ◌+◌, ◌<◌, ◌⊎◌, inl, inr, Bool, true, false, cond, ◌||◌, ℕ, zero, suc, List, [], ◌∷◌, ◌++◌, length, take, Option, Some, None, IsSome, map, ap₂, refl, sym, ap, subst, arith, append_assoc}
use Rattle.std.specs.Prelude.{slice_get}
use Rattle.std.specs.BTreeMap.{is_at}
use Rattle.std.specs.List.{list_any, range_with_len}
use Rattle.std.specs.Ordering.{is_eq, ordering_reverse}
use Rattle.std.specs.declared.cmp.Ordering.{Ordering}
use Rattle.std.specs.declared.cmp.Ordering.TheVariants.{Less, Equal, Greater}
use Rattle.std.proofs.lemmas.Grind.{flat_map-append}
use Rattle.std.proofs.lemmas.List.{append-nil, length-map}
use Rattle.std.proofs.lemmas.List.Folds.{list_any-append}
use Rattle.circ_records.specs.Keys.{key_cmp, key_cmp-IsAntisymmetric, key_cmp_total}
use Rattle.circ_records.specs.Records.{Entries, record_at}
use Rattle.circ_records.specs.declared.key.Key.{Key}
use Rattle.circ_records.specs.declared.record.Record.{Record}
use Rattle.read_set.specs.Maps.{Map}
use Rattle.read_set.specs.Plans.{Planned}
use Rattle.sip_reader.specs.declared.request.Reading.{Reading}
use Rattle.result_report.specs.Ends.{HasAt, keys_named, lines_keys, numbers_of, only_at}

equal-of : (o : Ordering) → is_eq o ≡ true → o ≡ Equal
equal-of Less e = cc
equal-of Equal e = refl
equal-of Greater e = cc

-- keys that tie are one
one-key : (j k : Key) → is_at (key_cmp j) k ≡ true → j ≡ k
one-key j k tie = key_cmp-IsAntisymmetric j k (equal-of (key_cmp j k) tie)

reversed : (o : Ordering) → is_eq (ordering_reverse o) ≡ is_eq o
reversed Less = refl
reversed Equal = refl
reversed Greater = refl

either-way : (j k : Key) → is_at (key_cmp j) k ≡ is_at (key_cmp k) j
either-way j k = ap is_eq (key_cmp_total.antisymm j k) ∙ reversed (key_cmp k j)

-- whether a key is among those and one more
among : (keys : List Key) (key k : Key) → list_any (is_at (key_cmp k)) (keys ++ key ∷ []) ≡ (list_any (is_at (key_cmp k)) keys || (is_at (key_cmp k) key || false))
among keys key k = list_any-append (is_at (key_cmp k)) keys (key ∷ [])

same-choice : (b t : Bool) (x : Option Record) → (t ≡ true → (b ≡ true) ⊎ (x ≡ None)) → cond b x None ≡ cond (b || (t || false)) x None
same-choice true t x h = refl
same-choice false false x h = refl
same-choice false true x h = elim (h refl) [
  | inl never ↦ cc never
  | inr none ↦ sym none
]

-- nothing is to be taken, since there is nothing, or it was taken
unchanged : (keys : List Key) (M old : Map) (key : Key)
    → ((list_any (is_at (key_cmp key)) keys ≡ true) ⊎ (M key ≡ None))
    → ((k : Key) → old k ≡ only_at keys M k)
    → (k : Key) → old k ≡ only_at (keys ++ key ∷ []) M k
unchanged keys M old key settled has k =
    has k
    ∙ same-choice (list_any (is_at (key_cmp k)) keys) (is_at (key_cmp k) key) (M k)
    (λ tie. subst (λ q. (list_any (is_at (key_cmp q)) keys ≡ true) ⊎ (M q ≡ None)) (sym (one-key k key tie)) settled)
    ∙ ap (λ b. cond b (M k) None) (sym (among keys key k))

some-chosen : (b : Bool) (x : Option Record) → IsSome (cond b x None) → b ≡ true
some-chosen true x some = refl
some-chosen false x some = cc some

-- a record that is there was taken
already : (keys : List Key) (M : Map) (old : Entries) (key : Key) → IsSome (record_at old key)
    → HasAt keys M old → HasAt (keys ++ key ∷ []) M old
already keys M old key some has = unchanged keys M (record_at old) key (inl (some-chosen (list_any (is_at (key_cmp key)) keys) (M key) (subst IsSome (has key) some))) has

-- a key of the base is among the keys
base-key : (base : Entries) (key : Key) → IsSome (record_at base key)
    → list_any (is_at (key_cmp key)) (map (λ e. e.0) base) ≡ true
base-key [] key some = cc some
base-key (e ∷ es) key some = either (is_at (key_cmp key) e.0) (Some e.1) (record_at es key) _ some (base-key es key)
  where
    either : (b : Bool) (x rest : Option Record) (there : Bool) → IsSome (cond b x rest) → (IsSome rest → there ≡ true) → (b || there) ≡ true
    either true x rest there some next = refl
    either false x rest there some next = next some

or-first : (a b : Bool) → a ≡ true → (a || b) ≡ true
or-first true b is = refl
or-first false b is = cc is

-- the record at a key of the base, or one that is there, was taken
pub settled : (base : Entries) (more rest : List Key) (M : Map) (old : Entries) (key : Key)
    → IsSome (record_at base key) ⊎ IsSome (record_at old key)
    → HasAt ((map (λ e. e.0) base ++ more) ++ rest) M old
    → HasAt (((map (λ e. e.0) base ++ more) ++ rest) ++ key ∷ []) M old
settled base more rest M old key there has = elim there [
  | inl known ↦
      let keys = map (λ e. e.0) base in
      let is_it = is_at (key_cmp key) in
      let first = list_any-append is_it keys more ∙ or-first (list_any is_it keys) (list_any is_it more) (base-key base key known) in
      unchanged ((keys ++ more) ++ rest) M (record_at old) key (inl (list_any-append is_it (keys ++ more) rest ∙ or-first (list_any is_it (keys ++ more)) (list_any is_it rest) first)) has
  | inr some ↦ already ((map (λ e. e.0) base ++ more) ++ rest) M old key some has
]

pub nothing : (keys : List Key) (M : Map) (old : Entries) (key : Key) → None ≡ M key
    → HasAt keys M old → HasAt (keys ++ key ∷ []) M old
nothing keys M old key none has = unchanged keys M (record_at old) key (inr (sym none)) has

taken-choice : (b t : Bool) (r : Record) (x : Option Record) → (t ≡ true → Some r ≡ x) → cond t (Some r) (cond b x None) ≡ cond (b || (t || false)) x None
taken-choice true true r x h = h refl
taken-choice false true r x h = h refl
taken-choice true false r x h = refl
taken-choice false false r x h = refl

-- a record more is taken
one-more : (keys : List Key) (M old new : Map) (key : Key) (r : Record) → Some r ≡ M key
    → ((k : Key) → new k ≡ cond (is_at (key_cmp key) k) (Some r) (old k))
    → ((k : Key) → old k ≡ only_at keys M k) → (k : Key) → new k ≡ only_at (keys ++ key ∷ []) M k
one-more keys M old new key r there updates has k =
    updates k
    ∙ ap (λ found. cond (is_at (key_cmp key) k) (Some r) found) (has k)
    ∙ ap (λ t. cond t (Some r) (only_at keys M k)) (either-way key k)
    ∙ taken-choice (list_any (is_at (key_cmp k)) keys) (is_at (key_cmp k) key) r (M k)
    (λ tie. there ∙ ap M (sym (one-key k key tie)))
    ∙ ap (λ b. cond b (M k) None) (sym (among keys key k))

pub taken : (keys : List Key) (M : Map) (old new : Entries) (key : Key) (r : Record) → Some r ≡ M key
    → ((k : Key) → record_at new k ≡ cond (is_at (key_cmp key) k) (Some r) (record_at old k))
    → HasAt keys M old → HasAt (keys ++ key ∷ []) M new
taken keys M old new key r there updates has = one-more keys M (record_at old) (record_at new) key r there updates has

-- the numbers up to the next one
range-next : (a n j : ℕ) → a + n ≡ j → range_with_len a (suc n) ≡ range_with_len a n ++ j ∷ []
range-next a zero j e = let same : a ≡ j = omega arith in rw same refl
range-next a (suc n) j e = ap (λ (l : List ℕ). a ∷ l) (range-next (a + 1) n j (omega arith))

lines-next : (entered : ℕ → List (Key × ℕ)) (a n j : ℕ) → a + n ≡ j
    → lines_keys entered (range_with_len a n) ++ keys_named (entered j)
    ≡ lines_keys entered (range_with_len a (n + 1))
lines-next entered a n j e =
    let next : suc n ≡ n + 1 = omega arith in
    let f = λ (line : ℕ). keys_named (entered line) in
    ap (λ (l : List Key). lines_keys entered (range_with_len a n) ++ l) (sym (append-nil (keys_named (entered j))))
    ∙ sym (flat_map-append f (range_with_len a n) (j ∷ []))
    ∙ ap (lines_keys entered) (sym (range-next a n j e) ∙ ap (range_with_len a) next)

-- the keys of a line more
pub line-more : (entered : ℕ → List (Key × ℕ)) (M : Map) (entries : Entries) (keys : List Key) (a n j : ℕ) → a + n ≡ j
    → HasAt ((keys ++ lines_keys entered (range_with_len a n)) ++ keys_named (entered j)) M entries
    → HasAt (keys ++ lines_keys entered (range_with_len a (n + 1))) M entries
line-more entered M entries keys a n j e has =
    subst (λ ks. HasAt ks M entries) (append_assoc keys (lines_keys entered (range_with_len a n)) (keys_named (entered j)) ∙ ap (λ (l : List Key). keys ++ l) (lines-next entered a n j e)) has

-- the keys of a line's entries up to the next one
keys-next : (entries : List (Key × ℕ)) (i : ℕ) (e : Key × ℕ) → Some e ≡ slice_get entries i
    → keys_named (take i entries) ++ e.0 ∷ [] ≡ keys_named (take (i + 1) entries)
keys-next entries i e at = let next : i + 1 ≡ suc i = omega arith in rw next (by entries i e at)
  where
    by : (entries : List (Key × ℕ)) (i : ℕ) (e : Key × ℕ) → Some e ≡ slice_get entries i
        → keys_named (take i entries) ++ e.0 ∷ [] ≡ keys_named (take (suc i) entries)
    by [] i e at = cc at
    by (x ∷ entries) zero e at = let same : e ≡ x = cc at in rw same refl
    by (x ∷ entries) (suc i) e at = ap (λ (ks : List Key). x.0 ∷ ks) (by entries i e at)

pub keys-all : (entries : List (Key × ℕ)) (i : ℕ) → None ≡ slice_get entries i → take i entries ≡ entries
keys-all [] zero none = refl
keys-all [] (suc i) none = refl
keys-all (x ∷ entries) zero none = cc none
keys-all (x ∷ entries) (suc i) none = ap (λ (es : List (Key × ℕ)). x ∷ es) (keys-all entries i none)

within : {X : Type 0} (xs : List X) (i : ℕ) (x : X) → Some x ≡ slice_get xs i → i < length xs
within [] i x at = cc at
within (y ∷ xs) zero x at = omega arith
within (y ∷ xs) (suc i) x at = let h = within xs i x at in omega arith

-- the key of an entry more
pub entry-more : (M : Map) (map_entries : Entries) (keys : List Key) (entries : List (Key × ℕ))
    (i : ℕ) (e : Key × ℕ) → Some e ≡ slice_get entries i
    → HasAt ((keys ++ keys_named (take i entries)) ++ e.0 ∷ []) M map_entries
    → HasAt (keys ++ keys_named (take (i + 1) entries)) M map_entries
entry-more M map_entries keys entries i e at has =
    subst (λ ks. HasAt ks M map_entries) (append_assoc keys (keys_named (take i entries)) (e.0 ∷ []) ∙ ap (λ (l : List Key). keys ++ l) (keys-next entries i e at)) has

-- the lines of a plan, by the number of its first line and by how many there are
pub numbers : {X : Type 0} (f : X → Reading) (xs : List X) (plan a b : Planned) (first count : ℕ)
    → a ≡ plan → b ≡ plan → first ≡ a.first → count ≡ length xs → map f xs ≡ b.readings
    → range_with_len first count ≡ numbers_of plan
numbers f xs plan a b first count p q start many read =
    ap₂ range_with_len (start ∙ ap (λ (x : Planned). x.first) p) (many ∙ sym (length-map xs f) ∙ ap length read ∙ ap (λ (x : Planned). length x.readings) q)
