-- A map whose keys are texts: what a change at one text leaves at any.
use Rattle.std.proofs.Common.{◌≡◌, ℕ, List, [], ◌∷◌, ◌++◌, Bool, true, false, Option, Some, None, Vec, refl, sym, subst, ap, inl, inr, ◌∙◌}
use Rattle.std.specs.Prelude.{if◌then◌else◌, cond, option_map}
use Rattle.std.specs.Borrow.{Bor}
use Rattle.std.specs.Option.{option_or}
use Rattle.std.specs.BTreeMap.{BTreeMap, UpdatesBy}
use Rattle.std.specs.Cmp.{eq_by_cmp_equiv}
use Rattle.std.specs.Cmp.Lexicographic.{slice_cmp, nat_list_cmp_total, nat_list_eq_equiv}
use Rattle.std.specs.Map.{AreApart, IsKeyTest, KeepsOthers, lookup}
use Rattle.std.specs.Ordering.{is_eq, nat_cmp}
use Rattle.std.specs.Str.{bytes_eq}
use Rattle.std.proofs.lemmas.Bool.{cases_Bool}
use Rattle.std.proofs.lemmas.List.Folds.{find-append}
use Rattle.std.proofs.lemmas.Map.Text.{is_eq-slice_cmp}
use Rattle.std.proofs.lemmas.Slice.Eq.{bytes_eq-Decides}
use Rattle.table_diff.specs.Devices.{in_map}
use Rattle.table_diff.specs.Rows.{RowTexts, named}

apart : (bs cs ks : List ℕ) → bytes_eq bs cs ≡ false → is_eq (slice_cmp nat_cmp bs ks) ≡ true
    → is_eq (slice_cmp nat_cmp cs ks) ≡ false
apart bs cs ks n y =
    let same : bytes_eq bs ks ≡ true = sym (is_eq-slice_cmp bs ks) ∙ y in
    is_eq-slice_cmp cs ks ∙ nat_list_eq_equiv.symm cs ks ∙ sym (nat_list_eq_equiv.congr bs ks cs same) ∙ n

other_entries : {K X : Type 0} (eq : K → K → Bool) (test : K → Bool) (old new : List (K × X))
    → KeepsOthers eq test old new
    → (other : K → Bool) → IsKeyTest eq other → AreApart test other → lookup other new ≡ lookup other old
unfolding KeepsOthers
other_entries eq test old new h = h

pub after : {A X : Type 0} (bs : List ℕ) (m n : BTreeMap (Vec ℕ A) X) (w : Option X)
    → UpdatesBy (λ (x y : Vec ℕ A). slice_cmp nat_cmp x.items y.items)
    (λ (k : Vec ℕ A). slice_cmp nat_cmp bs k.items) m n w
    → (cs : List ℕ) → in_map n cs ≡ (if bytes_eq bs cs then w else in_map m cs)
after bs m n w h cs = elim (cases_Bool (bytes_eq bs cs)) [
  | inl e ↦ rw e (subst (λ (l : List ℕ). in_map n l ≡ w) ((bytes_eq-Decides bs cs).0 e) h.1)
  | inr e ↦ rw e (other_entries _ _ _ _ h.3 _ (λ x y. (eq_by_cmp_equiv nat_list_cmp_total).congr cs x.items y.items) (λ k. apart bs cs k.items e))
]

inside : (b : Bool) (row : Bor RowTexts) (o : Option (Bor RowTexts))
    → option_map (λ (r : Bor RowTexts). r.now) (if b then Some row else o)
    ≡ (if b then Some row.now else option_map (λ (r : Bor RowTexts). r.now) o)
inside true row o = refl
inside false row o = refl

or-none : (o : Option RowTexts) → option_or o None ≡ o
or-none None = refl
or-none (Some r) = refl

at-more : (xs : List RowTexts) (x : RowTexts) (name : List ℕ)
    → named (xs ++ x ∷ []) name ≡ option_or (named xs name)
    (cond (bytes_eq name x.name) (Some x) None)
at-more xs x name = find-append (λ (r : RowTexts). bytes_eq name r.name) xs (x ∷ [])

there : (xs : List RowTexts) (x : RowTexts) (name : List ℕ) → bytes_eq name x.name ≡ true
    → named xs name ≡ None → Some x ≡ named (xs ++ x ∷ []) name
there xs x name is none = sym (at-more xs x name ∙ rw (none, is) refl)

elsewhere : (xs : List RowTexts) (x : RowTexts) (name : List ℕ) → bytes_eq name x.name ≡ false
    → named xs name ≡ named (xs ++ x ∷ []) name
elsewhere xs x name isnt = sym (at-more xs x name ∙ rw isnt (or-none (named xs name)))

-- a map of rows, with one more at a name
pub put : {A : Type 0} (bs : List ℕ) (m n : BTreeMap (Vec ℕ A) (Bor RowTexts)) (row : Bor RowTexts) → bs ≡ row.now.name
    → UpdatesBy (λ (x y : Vec ℕ A). slice_cmp nat_cmp x.items y.items)
    (λ (k : Vec ℕ A). slice_cmp nat_cmp bs k.items) m n (Some row)
    → (name : List ℕ) → option_map (λ (r : Bor RowTexts). r.now) (in_map n name)
    ≡ (if bytes_eq row.now.name name then Some row.now
    else option_map (λ (r : Bor RowTexts). r.now) (in_map m name))
put bs m n row is up name =
    ap (λ (o : Option (Bor RowTexts)). option_map (λ (r : Bor RowTexts). r.now) o) (after bs m n (Some row) up name)
    ∙ inside (bytes_eq bs name) row (in_map m name)
    ∙ ap (λ (l : List ℕ). if bytes_eq l name then Some row.now
    else option_map (λ (r : Bor RowTexts). r.now) (in_map m name)) is

-- the rows by their names, with one more whose name none of them had
pub one-more : (f g : List ℕ → Option RowTexts) (xs : List RowTexts) (x : RowTexts)
    → f x.name ≡ None → ((name : List ℕ) → g name
    ≡ (if bytes_eq x.name name then Some x else f name))
    → ((name : List ℕ) → f name ≡ named xs name) → (name : List ℕ) → g name ≡ named (xs ++ x ∷ []) name
one-more f g xs x none then_so so_far name = elim (cases_Bool (bytes_eq x.name name)) [
  | inl e ↦
      let same : x.name ≡ name = (bytes_eq-Decides x.name name).0 e in
      let missing : named xs name ≡ None = sym (so_far name) ∙ ap f (sym same) ∙ none in
      let here : bytes_eq name x.name ≡ true = (bytes_eq-Decides name x.name).1 (sym same) in
      then_so name ∙ rw e (there xs x name here missing)
  | inr e ↦
      let isnt : bytes_eq name x.name ≡ false = nat_list_eq_equiv.symm name x.name ∙ e in
      then_so name ∙ rw e (so_far name ∙ elsewhere xs x name isnt)
]
