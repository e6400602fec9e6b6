-- The records that a reader took from a text are the first of all of them.
use Rattle.std.proofs.Common.{◌≡◌, ◌≤◌, ◌<◌, ◌+◌, ◌-◌, ℕ, suc, List, [], ◌∷◌, ◌++◌, length, Option, Some, None, Bool, true, false, cond, refl, ap, subst, arith, ◌∙◌}
use Rattle.std.specs.Prelude.{◌==◌}
use Rattle.std.proofs.lemmas.List.{append-nil}
use Rattle.csv.specs.Machine.{Read, after_end, ends_at_end, ends_with, field_after, fields_after, in_field, is_end, next_record, start_field, start_record, step}
use Rattle.csv.specs.Reading.{Reached, default_config, records_from}
use Rattle.csv.specs.declared.parser.Action.{Action}
use Rattle.csv.specs.declared.parser.Action.TheVariants as act
use Rattle.csv.specs.declared.parser.State.{State}
use Rattle.csv.specs.declared.parser.State.TheVariants as st

-- what an action that ends a record leaves the machine between records
abbrev Between : State × Action → Type 0
Between p = is_end p.1 ≡ true → ends_at_end p.0 ≡ false

choose : (b : Bool) (p q : State × Action) → Between p → Between q → Between (cond b p q)
choose true p q x y = x
choose false p q x y = y

end-between : (c : ℕ) → Between (after_end default_config.terminator c, act.EndRecord)
end-between c = by (c == 13)
  where
    by : (b : Bool) → Between (cond b st.AfterCr st.StartRecord, act.EndRecord)
    by true e = refl
    by false e = refl

field-between : (c : ℕ) → Between (in_field default_config c)
field-between c =
    choose (c == 44) _ _ (λ e. cc e) (choose (ends_with default_config.terminator c) _ _ (end-between c) (λ e. cc e))

start-between : (c : ℕ) → Between (start_field default_config c)
start-between c = choose (c == 34) _ _ (λ e. cc e) (field-between c)

record-between : (c : ℕ) → Between (start_record default_config c)
record-between c = choose (ends_with default_config.terminator c) _ _ (λ e. refl) (start-between c)

step-between : (s : State) (c : ℕ) → Between (step default_config s c)
step-between st.StartRecord c = record-between c
step-between st.StartField c = start-between c
step-between st.InField c = field-between c
step-between st.InQuoted c = choose (c == 34) _ _ (λ e. cc e) (λ e. cc e)
step-between st.InEscape c = λ e. cc e
step-between st.AfterQuote c = choose (c == 34) _ _ (λ e. cc e) (field-between c)
step-between st.InComment c = choose (c == 10) _ _ (λ e. cc e) (λ e. cc e)
step-between st.AfterCr c = choose (c == 10) _ _ (λ e. cc e) (record-between c)

-- what reading one record leaves: no more than n bytes, and the machine between records
abbrev Leaves : ℕ → Option Read → Type 0
Leaves n None = Unit {0}
Leaves n (Some p) = (length p.2 ≤ n) × (ends_at_end p.1 ≡ false)

leaves-cond : (b : Bool) (n : ℕ) (x y : Option Read) → (b ≡ true → Leaves n x)
    → (b ≡ false → Leaves n y) → Leaves n (cond b x y)
leaves-cond true n x y f g = f refl
leaves-cond false n x y f g = g refl

leaves-more : (m n : ℕ) (o : Option Read) → m ≤ n → Leaves m o → Leaves n o
leaves-more m n None h l = tt
leaves-more m n (Some p) h l = (let a = l.0 in omega arith, l.1)

leaves-any : (s : State) (fields : List (List ℕ)) (field xs : List ℕ)
    → Leaves (length xs) (next_record default_config s fields field xs)
unfolding next_record
leaves-any s fields field [] = leaves-cond (ends_at_end s) 0 _ _ (λ e. (omega arith, refl)) (λ e. tt)
leaves-any s fields field (c ∷ rest) =
    leaves-cond (is_end (step default_config s c).1) _ _ _ (λ e. (omega arith, step-between s c e))
    (λ e. leaves-more _ _ _ (omega arith) (leaves-any (step default_config s c).0 (fields_after (step default_config s c).1 fields field) (field_after (step default_config s c).1 c field) rest))

-- a record that is read between records takes a byte
pub leaves-fewer : (s : State) (xs : List ℕ) (p : Read) → ends_at_end s ≡ false
    → next_record default_config s [] [] xs ≡ Some p
    → (length p.2 < length xs) × (ends_at_end p.1 ≡ false)
unfolding next_record
leaves-fewer s [] p e h = cc (rw e at h)
leaves-fewer s (c ∷ rest) p e h =
    let l : Leaves (length rest) (next_record default_config s [] [] (c ∷ rest)) = leaves-cond (is_end (step default_config s c).1) _ _ _ (λ t. (omega arith, step-between s c t))
    (λ t. leaves-any (step default_config s c).0 (fields_after (step default_config s c).1 [] []) (field_after (step default_config s c).1 c []) rest) in
    let q : Leaves (length rest) (Some p) = subst (Leaves (length rest)) h l in
    (let a = q.0 in omega arith, q.1)

-- what was reached, against all records
pub record Front (n : ℕ) (s : State) (xs : List ℕ) (rows : List (List (List ℕ))) (s2 : State) (ys : List ℕ) : Type 0 where
  pub fewer : length rows + length ys ≤ length xs
  pub between : ends_at_end s2 ≡ false
  pub front : records_from default_config (length rows + n) s xs ≡ rows ++ records_from default_config n s2 ys

pub front : (n : ℕ) (s : State) (xs : List ℕ) (rows : List (List (List ℕ))) (s2 : State)
    (ys : List ℕ) → ends_at_end s ≡ false
    → Reached default_config s xs rows s2 ys → Front n s xs rows s2 ys
unfolding Reached records_from
front n s xs [] s2 ys e h = record {
  fewer = let same = ap length h.1 in omega arith;
  between = rw (← h.0) e;
  front = let none : 0 + n ≡ n = omega arith in rw (none, h.0, h.1) refl;
}
front n s xs (r ∷ rs) s2 ys e h =
    let (p, read, row, rest) = h in
    let (fewer, between) = leaves-fewer s xs p e read in
    let more = front n p.1 p.2 rs s2 ys between rest in
    record {
      fewer = let a = more.fewer in omega arith;
      between = more.between;
      front = let one : length (r ∷ rs) + n ≡ suc (length rs + n) = omega arith in rw (one, read, row) (ap (λ (t : List (List (List ℕ))). p.0 ∷ t) more.front);
    }

-- where no record is left, what was reached is all
pub all-reached : (xs : List ℕ) (rows : List (List (List ℕ))) (s2 : State) (ys : List ℕ)
    → Reached default_config st.StartRecord xs rows s2 ys
    → next_record default_config s2 [] [] ys ≡ None
    → records_from default_config (length xs + 1) st.StartRecord xs ≡ rows
unfolding records_from
all-reached xs rows s2 ys h none =
    let f = front 0 st.StartRecord xs rows s2 ys refl h in
    let few = f.fewer in
    let left : ℕ = length xs - length rows in
    let g = front (suc left) st.StartRecord xs rows s2 ys refl h in
    let n : length xs + 1 ≡ length rows + suc left = omega arith in
    rw n (g.front ∙ rw none (append-nil rows))
