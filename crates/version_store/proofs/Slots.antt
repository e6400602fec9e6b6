-- The index, after a change of one slot or of what the parts have.
use Rattle.std.proofs.Common.{◌≡◌, ◌≤◌, ℕ, zero, suc, Bool, true, false, cond, Some, None, Result, Ok, Err, List, [], ◌∷◌, length, refl, sym, ap, ◌∙◌, inl, inr, length-set}
use Rattle.std.specs.Prelude.{OnErr, OnOk, replicate, slice_get, slice_set}
use Rattle.std.specs.Option.{option_flatten}
use Rattle.std.specs.Ordering.{nat_cmp, eq_by_cmp}
use Rattle.std.proofs.lemmas.Bool.{cases_eq}
use Rattle.std.proofs.lemmas.Option.{slice_get_past}
use Rattle.circ_records.specs.Keys.{key_cmp}
use Rattle.circ_records.specs.declared.key.Key.{Key}
use Rattle.version_store.specs.Index.{Slot, by_slot, has, position_in, slot_of, with_at}
use Rattle.version_store.proofs.Columns.{alone, same_key}
use Rattle.version_store.proofs.Hashed.{by_one, get_other, get_same, off_key}

-- ---- slots that have no key
bare : (n i : ℕ) → option_flatten (slice_get (replicate {A = Slot} n None) i) ≡ None
bare zero i = refl
bare (suc n) zero = refl
bare (suc n) (suc i) = bare n i

pub none_at : (n : ℕ) (slots : List Slot) (others : Key → ℕ → Bool) → slots ≡ replicate n None → (k : Key) (m : ℕ) → by_slot (slot_of slots k) others k m ≡ false
none_at n slots others is k m =
    ap (λ s. by_slot (slot_of s k) others k m) is
    ∙ ap (λ s. by_slot s others k m) (bare n (position_in (length (replicate {A = Slot} n None)) k))

-- ---- one slot, and what the parts say of its keys
with_same : (s : Slot) (f g : Key → ℕ → Bool) (q : Key) (m : ℕ) → g q m ≡ f q m → by_slot s g q m ≡ by_slot s f q m
with_same None f g q m e = refl
with_same (Some p) f g q m e = ap (λ b. cond (eq_by_cmp key_cmp p.0 q) (has p.1 m) b) e

changed_at : (slots : List Slot) (i : ℕ) (p new : Slot) (f g : Key → ℕ → Bool) (k : Key) (n : ℕ) (w : Bool)
    → i ≡ position_in (length slots) k
    → slice_get slots i ≡ Some p
    → ((q : Key) (m : ℕ) → position_in (length slots) q ≡ i → by_slot new g q m ≡ with_at k n w (by_slot p f) q m)
    → ((q : Key) (m : ℕ) → (position_in (length slots) q ≡ i → ⊥) → g q m ≡ f q m)
    → (q : Key) (m : ℕ) → by_slot (slot_of (slice_set slots i new) q) g q m ≡ with_at k n w (λ x y. by_slot (slot_of slots x) f x y) q m
changed_at slots i p new f g k n w here there h off =
    by_one (λ o q m. by_slot (option_flatten o) f q m) (λ o q m. by_slot (option_flatten o) g q m) slots i p new
    (λ q m x. cond (eq_by_cmp key_cmp k q) (cond (eq_by_cmp nat_cmp n m) w x) x) there h
    (λ q m x apart. with_same (option_flatten x) f g q m (off q m apart)
    ∙ off_key (eq_by_cmp key_cmp k q) (eq_by_cmp nat_cmp n m) w (by_slot (option_flatten x) f q m)
    (λ t. apart (ap (position_in (length slots)) (sym (same_key k q t)) ∙ sym here)))

-- the key's own slot
own_if : (b e w x y z : Bool) → y ≡ cond e w x → cond b y z ≡ cond b (cond e w (cond b x z)) (cond b x z)
own_if true e w x y z h = h
own_if false e w x y z h = refl

pub own_changed : (slots : List Slot) (i : ℕ) (own k : Key) (was is : List ℕ) (f : Key → ℕ → Bool) (n : ℕ) (w : Bool)
    → i ≡ position_in (length slots) k
    → slice_get slots i ≡ Some (Some (own, was))
    → true ≡ eq_by_cmp key_cmp own k
    → ((m : ℕ) → has is m ≡ cond (eq_by_cmp nat_cmp n m) w (has was m))
    → (q : Key) (m : ℕ) → by_slot (slot_of (slice_set slots i (Some (own, is))) q) f q m ≡ with_at k n w (λ x y. by_slot (slot_of slots x) f x y) q m
own_changed slots i own k was is f n w here there same v =
    changed_at slots i (Some (own, was)) (Some (own, is)) f f k n w here there
    (λ q m at. rw (← same_key own k (sym same)) (own_if (eq_by_cmp key_cmp own q) (eq_by_cmp nat_cmp n m) w (has was m) (has is m) (f q m) (v m)))
    (λ q m apart. refl)

-- a key of another slot
pub elsewhere : (slots : List Slot) (i : ℕ) (k : Key) (f g : Key → ℕ → Bool) (n : ℕ) (w : Bool)
    → i ≡ position_in (length slots) k
    → ((q : Key) (m : ℕ) → g q m ≡ with_at k n w f q m)
    → (q : Key) (m : ℕ) → (position_in (length slots) q ≡ i → ⊥) → g q m ≡ f q m
elsewhere slots i k f g n w here v q m away =
    v q m ∙ sym (off_key (eq_by_cmp key_cmp k q) (eq_by_cmp nat_cmp n m) w (f q m) (λ t. away (ap (position_in (length slots)) (sym (same_key k q t)) ∙ sym here)))

-- another key's slot
other_if : (b d e w x y : Bool) → (d ≡ true → b ≡ false) → cond b x (cond d (cond e w y) y) ≡ cond d (cond e w (cond b x y)) (cond b x y)
other_if true true e w x y h = absurd (let z = h refl in cc)
other_if false true e w x y h = refl
other_if true false e w x y h = refl
other_if false false e w x y h = refl

pub other_changed : (slots : List Slot) (i : ℕ) (own k : Key) (was : List ℕ) (f g : Key → ℕ → Bool) (n : ℕ) (w : Bool)
    → i ≡ position_in (length slots) k
    → slice_get slots i ≡ Some (Some (own, was))
    → false ≡ eq_by_cmp key_cmp own k
    → ((q : Key) (m : ℕ) → g q m ≡ with_at k n w f q m)
    → (q : Key) (m : ℕ) → by_slot (slot_of (slice_set slots i (Some (own, was))) q) g q m ≡ with_at k n w (λ x y. by_slot (slot_of slots x) f x y) q m
other_changed slots i own k was f g n w here there apart v =
    changed_at slots i (Some (own, was)) (Some (own, was)) f g k n w here there
    (λ q m at. ap (λ b. cond (eq_by_cmp key_cmp own q) (has was m) b) (v q m)
    ∙ other_if (eq_by_cmp key_cmp own q) (eq_by_cmp key_cmp k q) (eq_by_cmp nat_cmp n m) w (has was m) (f q m)
    (λ t. ap (eq_by_cmp key_cmp own) (sym (same_key k q t)) ∙ sym apart))
    (λ q m away. elsewhere slots i k f g n w here v q m away)

-- a key in a slot that had none
pub first_in : (slots : List Slot) (i : ℕ) (k : Key) (f : Key → ℕ → Bool) (n : ℕ)
    → i ≡ position_in (length slots) k
    → slice_get slots i ≡ Some None
    → ((q : Key) (m : ℕ) → slot_of slots q ≡ None → f q m ≡ false)
    → (q : Key) (m : ℕ) → by_slot (slot_of (slice_set slots i (Some (k, n ∷ []))) q) f q m ≡ with_at k n true (λ x y. by_slot (slot_of slots x) f x y) q m
first_in slots i k f n here there kept =
    changed_at slots i None (Some (k, n ∷ [])) f f k n true here there
    (λ q m at. rw (kept q m (ap (λ j. option_flatten (slice_get slots j)) at ∙ ap (λ o. option_flatten o) there), alone (eq_by_cmp nat_cmp n m)) refl)
    (λ q m apart. refl)

-- a slot without a key has no line to remove
none_if : (b e : Bool) → false ≡ cond b (cond e false false) false
none_if true true = refl
none_if true false = refl
none_if false e = refl

pub none_in : (slots : List Slot) (i : ℕ) (p : Slot) (k : Key) (f : Key → ℕ → Bool) (n : ℕ)
    → i ≡ position_in (length slots) k
    → slice_get slots i ≡ Some p → p ≡ None
    → (q : Key) (m : ℕ) → by_slot (slot_of (slice_set slots i p) q) f q m ≡ with_at k n false (λ x y. by_slot (slot_of slots x) f x y) q m
none_in slots i p k f n here there none =
    changed_at slots i p p f f k n false here there
    (λ q m at. rw none (none_if (eq_by_cmp key_cmp k q) (eq_by_cmp nat_cmp n m)))
    (λ q m apart. refl)

past_if : (b e x : Bool) → (b ≡ true → x ≡ false) → x ≡ cond b (cond e false x) x
past_if false e x h = refl
past_if true true x h = h refl
past_if true false x h = refl

pub none_past : (slots : List Slot) (k : Key) (f : Key → ℕ → Bool) (n : ℕ) → length slots ≤ position_in (length slots) k
    → (q : Key) (m : ℕ) → by_slot (slot_of slots q) f q m ≡ with_at k n false (λ x y. by_slot (slot_of slots x) f x y) q m
none_past slots k f n past q m =
    past_if (eq_by_cmp key_cmp k q) (eq_by_cmp nat_cmp n m) (by_slot (slot_of slots q) f q m)
    (λ t. ap (λ x. by_slot (slot_of slots x) f x m) (sym (same_key k q t))
    ∙ ap (λ o. by_slot (option_flatten o) f k m) (slice_get_past slots (position_in (length slots) k) past))

-- ---- the parts have no key of a slot that has none
flat_none : (slots : List Slot) (i : ℕ) (p : Slot) (x : Key × List ℕ) (q : Key) → slice_get slots i ≡ Some p
    → slot_of (slice_set slots i (Some x)) q ≡ None → (position_in (length slots) q ≡ i → ⊥) × (slot_of slots q ≡ None)
flat_none slots i p x q there none =
    let at = ap (λ n. option_flatten (slice_get (slice_set slots i (Some x)) (position_in n q))) (sym (length-set slots i (Some x))) ∙ none in
    elim (cases_eq (position_in (length slots) q) i) [
      | inl same ↦ absurd (let z = sym (ap (λ j. option_flatten (slice_get (slice_set slots i (Some x)) j)) same ∙ ap (λ o. option_flatten o) (get_same slots i p (Some x) there)) ∙ at in cc)
      | inr apart ↦ (apart, ap (λ o. option_flatten o) (sym (get_other slots i (position_in (length slots) q) (Some x) apart)) ∙ at)
    ]

pub kept_then : (slots : List Slot) (i : ℕ) (p : Slot) (x : Key × List ℕ) (f g : Key → ℕ → Bool)
    → slice_get slots i ≡ Some p
    → ((q : Key) (m : ℕ) → slot_of slots q ≡ None → f q m ≡ false)
    → ((q : Key) (m : ℕ) → (position_in (length slots) q ≡ i → ⊥) → g q m ≡ f q m)
    → (q : Key) (m : ℕ) → slot_of (slice_set slots i (Some x)) q ≡ None → g q m ≡ false
kept_then slots i p x f g there kept off q m none = let h = flat_none slots i p x q there none in off q m h.0 ∙ kept q m h.1

-- ---- values by cases
pub never_some : (p : Slot) → ((x : Key × List ℕ) → p ≡ Some x → ⊥) → p ≡ None
never_some None h = refl
never_some (Some x) h = absurd (h x refl)

pub either : {A E P Q R : Type 0} (r : Result A E) → (P → R) → (Q → R) → OnOk r P → OnErr r Q → R
either (Ok x) f g p q = f p
either (Err x) f g p q = g q
