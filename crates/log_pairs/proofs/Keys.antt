-- A map whose keys are bytes: what a change at some bytes leaves at any bytes.
use Rattle.std.proofs.Common.{◌≡◌, ℕ, List, Bool, true, false, Option, Some, None, Vec, [], ◌∷◌, map, refl, ap, sym, subst, inl, inr, ◌∙◌}
use Rattle.std.specs.Prelude.{cond, if◌then◌else◌, unwrap_or}
use Rattle.std.specs.BTreeMap.{BTreeMap, UpdatesBy}
use Rattle.std.specs.Cmp.{eq_by_cmp_equiv}
use Rattle.std.specs.Cmp.Lexicographic.{slice_cmp, nat_list_cmp_total, nat_list_eq_equiv}
use Rattle.std.specs.Map.{AreApart, IsKeyTest, KeepsOthers, lookup}
use Rattle.std.specs.Ordering.{is_eq, nat_cmp}
use Rattle.std.specs.Str.{bytes_eq}
use Rattle.std.proofs.lemmas.Bool.{cases_Bool}
use Rattle.std.proofs.lemmas.Map.Text.{is_eq-slice_cmp}
use Rattle.std.proofs.lemmas.Slice.Eq.{bytes_eq-Decides}
use Rattle.log_pairs.specs.Pairs.{client_of, no_client}
use Rattle.log_pairs.specs.Devices.Places.{named, value_in}
use Rattle.log_pairs.specs.declared.client.FitCounts.{FitCounts}

apart : (bs cs ks : List ℕ) → bytes_eq bs cs ≡ false → is_eq (slice_cmp nat_cmp bs ks) ≡ true → is_eq (slice_cmp nat_cmp cs ks) ≡ false
apart bs cs ks n y =
    let same : bytes_eq bs ks ≡ true = sym (is_eq-slice_cmp bs ks) ∙ y in
    is_eq-slice_cmp cs ks ∙ nat_list_eq_equiv.symm cs ks ∙ sym (nat_list_eq_equiv.congr bs ks cs same) ∙ n

other_entries : {K X : Type 0} (eq : K → K → Bool) (test : K → Bool) (old new : List (K × X)) → KeepsOthers eq test old new
    → (other : K → Bool) → IsKeyTest eq other → AreApart test other → lookup other new ≡ lookup other old
unfolding KeepsOthers
other_entries eq test old new h = h

pub value-after : {A V : Type 0} (bs : List ℕ) (m n : BTreeMap (Vec ℕ A) V) (w : Option V)
    → UpdatesBy (λ (x y : Vec ℕ A). slice_cmp nat_cmp x.items y.items) (λ (k : Vec ℕ A). slice_cmp nat_cmp bs k.items) m n w
    → (cs : List ℕ) → value_in n cs ≡ (if bytes_eq bs cs then w else value_in m cs)
value-after {V = V} bs m n w h cs = elim (cases_Bool (bytes_eq bs cs)) [
  | inl e ↦ rw e (subst (λ (l : List ℕ). value_in n l ≡ w) ((bytes_eq-Decides bs cs).0 e) h.1)
  | inr e ↦ rw e (other_entries _ _ _ _ h.3 _ (λ x y. (eq_by_cmp_equiv nat_list_cmp_total).congr cs x.items y.items) (λ k. apart bs cs k.items e))
]

-- what is counted of a client, by the map
client-in-entries : {A : Type 0} (es : List (Vec ℕ A × FitCounts)) (c : List ℕ)
    → client_of (map named es) c ≡ unwrap_or (lookup (λ (k : Vec ℕ A). is_eq (slice_cmp nat_cmp c k.items)) es) no_client
client-in-entries {A} [] c = refl
client-in-entries {A} (e ∷ es) c =
    let same : bytes_eq e.0.items c ≡ is_eq (slice_cmp nat_cmp c e.0.items) = nat_list_eq_equiv.symm e.0.items c ∙ sym (is_eq-slice_cmp c e.0.items) in
    by (bytes_eq e.0.items c) (is_eq (slice_cmp nat_cmp c e.0.items)) same (client-in-entries es c)
  where
    by : (a b : Bool) → a ≡ b → client_of (map named es) c ≡ unwrap_or (lookup (λ (k : Vec ℕ A). is_eq (slice_cmp nat_cmp c k.items)) es) no_client
        → (if a then e.1 else client_of (map named es) c) ≡ unwrap_or (cond b (Some e.1) (lookup (λ (k : Vec ℕ A). is_eq (slice_cmp nat_cmp c k.items)) es)) no_client
    by true true i rest = refl
    by true false i rest = cc i
    by false true i rest = cc i
    by false false i rest = rest

pub client-in : {A : Type 0} (m : BTreeMap (Vec ℕ A) FitCounts) (c : List ℕ) → client_of (map named m.entries) c ≡ unwrap_or (value_in m c) no_client
client-in m c = client-in-entries m.entries c

-- a client that gets counts, or loses them
pub client-after : {A : Type 0} (c : List ℕ) (m n : BTreeMap (Vec ℕ A) FitCounts) (w : Option FitCounts) (bs : List ℕ) → bs ≡ c
    → UpdatesBy (λ (x y : Vec ℕ A). slice_cmp nat_cmp x.items y.items) (λ (k : Vec ℕ A). slice_cmp nat_cmp bs k.items) m n w
    → (d : List ℕ) → client_of (map named n.entries) d ≡ client_of ((c, unwrap_or w no_client) ∷ map named m.entries) d
client-after c m n w bs is h d = client-in n d ∙ ap (λ (o : Option FitCounts). unwrap_or o no_client) (value-after bs m n w h d) ∙ by (bytes_eq bs d) (bytes_eq c d) (ap (λ (b : List ℕ). bytes_eq b d) is)
  where
    by : (a b : Bool) → a ≡ b → unwrap_or (if a then w else value_in m d) no_client ≡ (if b then unwrap_or w no_client else client_of (map named m.entries) d)
    by true true i = refl
    by true false i = cc i
    by false true i = cc i
    by false false i = sym (client-in m d)
