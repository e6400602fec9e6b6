-- One entry put in or taken out, and one note more.
use Rattle.std.proofs.Common.{◌≡◌, ◌≢◌, zero, suc, ◌⊎◌, inl, inr, Bool, true, false, cond, List, [], ◌∷◌, ◌++◌, Some, None, is_eq, Ordering, Less, Equal, Greater, refl, sym, ap, subst, ◌∙◌}
use Rattle.std.specs.Ordering.{eq_by_cmp, ordering_reverse}
use Rattle.std.specs.FinMap.{FinMap, get, insert, remove, get-insert, get-remove}
use Rattle.std.proofs.lemmas.Cmp.{eq_by_cmp_equiv}
use Rattle.std.proofs.lemmas.Option.{none-some, same_Some}
use Rattle.circ_records.specs.Keys.{key_cmp, key_cmp_total, key_cmp-IsAntisymmetric}
use Rattle.circ_records.specs.declared.key.Key.{Key}
use Rattle.read_set.specs.declared.notes.Note.{Note}
use Rattle.board_steps.specs.Board.{EachNote}

-- ---- keys
is_eq_true : (o : Ordering) → is_eq o ≡ true → o ≡ Equal
is_eq_true Less h = absurd (cc)
is_eq_true Equal h = refl
is_eq_true Greater h = absurd (cc)

pub same_keys : (k : Key) → eq_by_cmp key_cmp k k ≡ true
same_keys k = (eq_by_cmp_equiv key_cmp_total).refl k

key_cases : (q k : Key) (b : Bool) → eq_by_cmp key_cmp q k ≡ b → (q ≡ k) ⊎ (q ≢ k)
key_cases q k true h = inl (key_cmp-IsAntisymmetric q k (is_eq_true (key_cmp q k) h))
key_cases q k false h = inr (λ e. let z : true ≡ false = sym (same_keys k) ∙ subst (λ x. eq_by_cmp key_cmp x k ≡ false) e h in cc)

-- two keys are one, or they aren't
pub cases_key : (q k : Key) → (q ≡ k) ⊎ (q ≢ k)
cases_key q k = key_cases q k (eq_by_cmp key_cmp q k) refl

order_cases : (k q : Key) (o : Ordering) → key_cmp k q ≡ o → (k ≡ q) ⊎ ((key_cmp k q ≡ Less) ⊎ (key_cmp q k ≡ Less))
order_cases k q Less h = inr (inl h)
order_cases k q Equal h = inl (key_cmp-IsAntisymmetric k q h)
order_cases k q Greater h = inr (inr (key_cmp_total.antisymm q k ∙ ap ordering_reverse h))

-- of two keys one is less, or they are one
pub key_order : (k q : Key) → (k ≡ q) ⊎ ((key_cmp k q ≡ Less) ⊎ (key_cmp q k ≡ Less))
key_order k q = order_cases k q (key_cmp k q) refl

apart_keys : (q k : Key) (b : Bool) → eq_by_cmp key_cmp q k ≡ b → q ≢ k → b ≡ false
apart_keys q k true h ne = absurd (ne (key_cmp-IsAntisymmetric q k (is_eq_true (key_cmp q k) h)))
apart_keys q k false h ne = refl

pub get_insert_same : {X : Type 0} (m : FinMap key_cmp X) (k : Key) (v : X) → get (insert m k v) k ≡ Some v
get_insert_same m k v = get-insert key_cmp_total m k v k ∙ ap (λ (b : Bool). cond b (Some v) (get m k)) (same_keys k)

pub get_insert_other : {X : Type 0} (m : FinMap key_cmp X) (k : Key) (v : X) (q : Key) → q ≢ k → get (insert m k v) q ≡ get m q
get_insert_other m k v q ne = get-insert key_cmp_total m k v q ∙ ap (λ (b : Bool). cond b (Some v) (get m q)) (apart_keys q k _ refl ne)

pub get_remove_same : {X : Type 0} (m : FinMap key_cmp X) (k : Key) → get (remove m k) k ≡ None
get_remove_same m k = get-remove key_cmp_total m k k ∙ ap (λ (b : Bool). cond b None (get m k)) (same_keys k)

pub get_remove_other : {X : Type 0} (m : FinMap key_cmp X) (k q : Key) → q ≢ k → get (remove m k) q ≡ get m q
get_remove_other m k q ne = get-remove key_cmp_total m k q ∙ ap (λ (b : Bool). cond b None (get m q)) (apart_keys q k _ refl ne)

-- ---- notes
-- one note more
pub each_push : (P : Note → Type 0) (notes : List Note) (x : Note) → EachNote notes P → P x → EachNote (notes ++ x ∷ []) P
each_push P [] x h p zero y g = subst P (same_Some x y g) p
each_push P [] x h p (suc j) y g = absurd (none-some y g)
each_push P (a ∷ notes) x h p zero y g = h zero y g
each_push P (a ∷ notes) x h p (suc j) y g = each_push P notes x (λ i z e. h (suc i) z e) p j y g
