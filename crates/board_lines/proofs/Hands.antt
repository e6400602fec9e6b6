-- Hands and the lines that they hold, after a change of one line.
use Rattle.std.proofs.Common.{◌≡◌, ◌≢◌, ℕ, zero, suc, ◌<◌, List, [], ◌∷◌, Option, Some, None, length, set, get_or, slice_get, refl, sym, ap, subst, ◌∙◌, ◌⊎◌, inl, inr, arith, length-set, get_or-set_same}
use Rattle.std.specs.Prelude.{is_some, false, true}
use Rattle.std.proofs.lemmas.Bool.{cases_eq}
use Rattle.std.proofs.lemmas.Option.{none-some, same_Some, slice_get-get_or}
use Rattle.board_steps.specs.Board.{Row, holder}
use Rattle.board_lines.specs.Parts.{HandsHold}

pub get_set_same : {X : Type 0} (xs : List X) (i : ℕ) (y : X) → i < length xs → slice_get (set xs i y) i ≡ Some y
get_set_same xs i y lt =
    slice_get-get_or (set xs i y) i y (omega (arith, lt, length-set xs i y)) ∙ ap (λ x. Some x) (get_or-set_same xs i y y lt)

pub get_set_other : {X : Type 0} (xs : List X) (i j : ℕ) (y : X) → j ≢ i → slice_get (set xs i y) j ≡ slice_get xs j
get_set_other [] i j y ne = refl
get_set_other (x ∷ xs) zero zero y ne = absurd (ne refl)
get_set_other (x ∷ xs) zero (suc j) y ne = refl
get_set_other (x ∷ xs) (suc i) zero y ne = refl
get_set_other (x ∷ xs) (suc i) (suc j) y ne = get_set_other xs i j y (λ e. ne (ap suc e))

-- a hand as it is read
pub hand_read : (hands : List (Option ℕ)) (w : ℕ) (x : Option ℕ) → w < length hands → x ≡ get_or hands w x → slice_get hands w ≡ Some x
hand_read hands w x lt e = slice_get-get_or hands w x lt ∙ ap (λ y. Some y) (sym e)

pub none_if : (x : Option ℕ) → is_some x ≡ false → x ≡ None
none_if (Some n) h = absurd (cc)
none_if None h = refl

pub some_if : (x : Option ℕ) → is_some x ≡ true → (n : ℕ) × (x ≡ Some n)
some_if None h = absurd (cc)
some_if (Some n) h = (n, refl)

module _ (hands : List (Option ℕ)) (rows others : ℕ → Row) (n : ℕ) (r : Row) (at : others n ≡ r) (off : (m : ℕ) → m ≢ n → others m ≡ rows m) (hold : HandsHold hands rows) where
  -- the hands stay, where the line has the same holder
  pub hand_same : holder r.state ≡ holder (rows n).state → HandsHold hands others
  hand_same is =
      let same : (m : ℕ) → holder (others m).state ≡ holder (rows m).state =
      λ m. elim (cases_eq m n) [
        | inl e ↦ subst (λ x. holder (others x).state ≡ holder (rows x).state) (sym e) (ap (λ (l : Row). holder l.state) at ∙ is)
        | inr ne ↦ ap (λ (l : Row). holder l.state) (off m ne)
      ] in
      λ v m. (λ h. same m ∙ (hold v m).0 h, λ h. (hold v m).1 (sym (same m) ∙ h))

  -- one hand changes: the worker had this line or nothing, and has this line or nothing
  module _ (w : ℕ) (x : Option ℕ) (within : w < length hands)
      (was : (holder (rows n).state ≡ Some w) ⊎ ((holder (rows n).state ≡ None) × (slice_get hands w ≡ Some None)))
      (is : ((x ≡ Some n) × (holder r.state ≡ Some w)) ⊎ ((x ≡ None) × (holder r.state ≡ None))) where
    held_new : (v : ℕ) → holder (others n).state ≡ Some v → holder r.state ≡ Some v
    held_new v h = ap (λ (l : Row). holder l.state) (sym at) ∙ h

    get_new : slice_get (set hands w x) w ≡ Some x
    get_new = get_set_same hands w x within

    get_off : (v : ℕ) → v ≢ w → slice_get (set hands w x) v ≡ slice_get hands v
    get_off v ne = get_set_other hands w v x ne

    hand_to : (v m : ℕ) → slice_get (set hands w x) v ≡ Some (Some m) → holder (others m).state ≡ Some v
    hand_to v m h = elim (cases_eq v w) [
      | inl e ↦ (let same : ◌≡◌ {A = Option (Option ℕ)} (Some x) (Some (Some m)) = sym get_new ∙ subst (λ y. slice_get (set hands w x) y ≡ Some (Some m)) e h in
          let x_is : x ≡ Some m = cc in
          elim is [
            | inl i ↦ (let here : n ≡ m = same_Some n m (sym i.0 ∙ x_is) in
                subst (λ y. holder (others y).state ≡ Some v) here (ap (λ (l : Row). holder l.state) at ∙ i.1 ∙ ap (λ y. Some y) (sym e)))
            | inr i ↦ absurd (none-some m (sym i.0 ∙ x_is))
          ])
      | inr ne ↦ (let before : holder (rows m).state ≡ Some v = (hold v m).0 (sym (get_off v ne) ∙ h) in
          elim (cases_eq m n) [
            | inl e ↦ (let own : holder (rows n).state ≡ Some v = subst (λ y. holder (rows y).state ≡ Some v) e before in
                elim was [
                  | inl i ↦ absurd (ne (sym (same_Some w v (sym i ∙ own))))
                  | inr i ↦ absurd (none-some v (sym i.0 ∙ own))
                ])
            | inr apart ↦ ap (λ (l : Row). holder l.state) (off m apart) ∙ before
          ])
    ]

    hand_from : (v m : ℕ) → holder (others m).state ≡ Some v → slice_get (set hands w x) v ≡ Some (Some m)
    hand_from v m h = elim (cases_eq m n) [
      | inl e ↦ (let own : holder r.state ≡ Some v = held_new v (subst (λ y. holder (others y).state ≡ Some v) e h) in
          elim is [
            | inl i ↦ (let here : w ≡ v = same_Some w v (sym i.1 ∙ own) in
                subst (λ y. slice_get (set hands w x) y ≡ Some (Some m)) here (get_new ∙ ap (λ y. Some y) i.0 ∙ ap (λ y. Some (Some y)) (sym e)))
            | inr i ↦ absurd (none-some v (sym i.1 ∙ own))
          ])
      | inr apart ↦ (let before : slice_get hands v ≡ Some (Some m) = (hold v m).1 (ap (λ (l : Row). holder l.state) (sym (off m apart)) ∙ h) in
          elim (cases_eq v w) [
            | inl e ↦ (let here : slice_get hands w ≡ Some (Some m) = subst (λ y. slice_get hands y ≡ Some (Some m)) e before in
                elim was [
                  | inl i ↦ (let also : slice_get hands w ≡ Some (Some n) = (hold w n).1 i in
                      let two : ◌≡◌ {A = Option (Option ℕ)} (Some (Some m)) (Some (Some n)) = sym here ∙ also in
                      absurd (apart (cc)))
                  | inr i ↦ (let two : ◌≡◌ {A = Option (Option ℕ)} (Some (Some m)) (Some None) = sym here ∙ i.1 in absurd (cc))
                ])
            | inr ne ↦ get_off v ne ∙ before
          ])
    ]

    pub hand_put : HandsHold (set hands w x) others
    hand_put = λ v m. (hand_to v m, hand_from v m)
