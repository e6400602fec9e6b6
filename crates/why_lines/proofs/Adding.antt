-- Records added to a base.
use Rattle.std.proofs.Common.{◌≡◌, ◌∙◌, ◌<◌, ℕ, List, length, get_or, Bool, true, false, cond, Some, None, Result, Ok, Err, IfOk, inl, inr, refl, sym, ap, subst}
use Rattle.std.specs.Prelude.{◌⊎◌, Contains, is_some}
use Rattle.std.proofs.lemmas.List.Elements.{Contains-get_or}
use Rattle.std.specs.Ordering.{eq_by_cmp}
use Rattle.circ_records.specs.Keys.{key_cmp}
use Rattle.circ_records.specs.Records.{Entries, record_at}
use Rattle.circ_records.specs.declared.key.Key.{Key}
use Rattle.circ_records.specs.declared.record.Record.{Record}
use Rattle.read_set.specs.Maps.{Map}
use Rattle.read_set.proofs.Keeping.{one-key}
use Rattle.why_lines.specs.Devices.Adding.{Adds}

-- nothing is added
pub adds_nothing : (P : Key → Type 0) (M old : Map) → Adds P M old old
adds_nothing P M old k = inl refl

-- what is added to what was added
pub adds_then : (P : Key → Type 0) (M a b c : Map) → Adds P M a b → Adds P M b c → Adds P M a c
adds_then P M a b c first second k = by (first k) (second k)
  where
    by : (b k ≡ a k) ⊎ ((a k ≡ None) × P k × (is_some (M k) ≡ true)) → (c k ≡ b k) ⊎ ((b k ≡ None) × P k × (is_some (M k) ≡ true))
        → (c k ≡ a k) ⊎ ((a k ≡ None) × P k × (is_some (M k) ≡ true))
    by (inl f) (inl s) = inl (s ∙ f)
    by (inl f) (inr s) = inr (sym f ∙ s.0, s.1, s.2)
    by (inr f) s = inr f

-- keys that are such are also those
pub adds_as : (P Q : Key → Type 0) (M old new : Map) → ((k : Key) → P k → Q k) → Adds P M old new → Adds Q M old new
adds_as P Q M old new so adds k = by (adds k)
  where
    by : (new k ≡ old k) ⊎ ((old k ≡ None) × P k × (is_some (M k) ≡ true)) → (new k ≡ old k) ⊎ ((old k ≡ None) × Q k × (is_some (M k) ≡ true))
    by (inl e) = inl e
    by (inr e) = inr (e.0, so k e.1, e.2)

-- one key is such
pub adds_at : (Q : Key → Type 0) (M old new : Map) (key : Key) → Q key → Adds (λ k. k ≡ key) M old new → Adds Q M old new
adds_at Q M old new key such = adds_as (λ k. k ≡ key) Q M old new (λ k same. subst Q (sym same) such)

-- a record that is put at a key
pub adds_put : (M : Map) (old new : Entries) (key : Key) (r : Record) → record_at old key ≡ None → is_some (M key) ≡ true
    → ((q : Key) → record_at new q ≡ cond (eq_by_cmp key_cmp key q) (Some r) (record_at old q)) → Adds (λ k. k ≡ key) M (record_at old) (record_at new)
adds_put M old new key r none there put k = by (eq_by_cmp key_cmp key k) refl
  where
    by : (ties : Bool) → eq_by_cmp key_cmp key k ≡ ties → (record_at new k ≡ record_at old k) ⊎ ((record_at old k ≡ None) × (k ≡ key) × (is_some (M k) ≡ true))
    by true s =
        let same : k ≡ key = sym (one-key key k s) in
        inr (ap (record_at old) same ∙ none, same, ap (λ j. is_some (M j)) same ∙ there)
    by false s = inl (put k ∙ ap (λ b. cond b (Some r) (record_at old k)) s)

-- an element of a list at an index
pub listed : {X : Type 0} (xs ys : List X) (i : ℕ) (x : X) → ys ≡ xs → i < length ys → x ≡ get_or ys i x → Contains xs x
listed xs ys i x same within is = subst (λ zs. Contains zs x) same (subst (Contains ys) (sym is) (Contains-get_or ys i x within))

-- to the same map
pub adds_from : (P : Key → Type 0) (M a b c : Map) → ((k : Key) → a k ≡ b k) → Adds P M a c → Adds P M b c
adds_from P M a b c same adds k = by (adds k)
  where
    by : (c k ≡ a k) ⊎ ((a k ≡ None) × P k × (is_some (M k) ≡ true)) → (c k ≡ b k) ⊎ ((b k ≡ None) × P k × (is_some (M k) ≡ true))
    by (inl e) = inl (e ∙ same k)
    by (inr e) = inr (sym (same k) ∙ e.0, e.1, e.2)

-- what is added to a map that is made of other entries
pub adds_made : {E : Type 0} (P : Key → Type 0) (M a : Map) (es : Entries) (result : Result Entries E) → Adds P M a (record_at es)
    → IfOk result (λ r. r ≡ es) → IfOk result (λ r. Adds P M a (record_at r))
adds_made P M a es (Ok r) adds same = subst (λ (rs : Entries). Adds P M a (record_at rs)) (sym same) adds
adds_made P M a es (Err e) adds same = tt
