-- Of more days than there are closed dates, one is no closed date.
use Rattle.std.proofs.Common.{◌≡◌, ◌≢◌, ◌≤◌, ◌<◌, ◌+◌, ◌*◌, ◌%◌, ◌-◌, ℕ, suc, zero, List, [], ◌∷◌, length, get_or, Bool, true, false, cond, Ordering, Less, Equal, Greater, refl, sym, ◌∙◌, arith}
use Rattle.std.specs.Prelude.{◌||◌, not}
use Rattle.std.specs.List.{list_any}
use Rattle.std.specs.Ordering.{nat_cmp, is_eq}
use Rattle.std.specs.BTreeMap.{is_at}
use Rattle.std.proofs.lemmas.Map.Lookups.{exact_unsigned}
use Rattle.circ_policy.specs.Terms.{Closed}
use Rattle.circ_policy.specs.Due.{is_open}
use Rattle.circ_policy.proofs.Weekdays.{weekday-lem}

-- whether a number is in a list
abbrev has : ℕ → List ℕ → Bool
has n ks = list_any (is_at (nat_cmp n)) ks

-- the list without a number
abbrev without : ℕ → List ℕ → List ℕ
without v [] = []
without v (x ∷ xs) = cond (is_at (nat_cmp v) x) (without v xs) (x ∷ without v xs)

same-at : (n x : ℕ) → is_at (nat_cmp n) x ≡ true → n ≡ x
same-at n x e = exact_unsigned n x (equal (nat_cmp n x) e)
  where
    equal : (o : Ordering) → is_eq o ≡ true → o ≡ Equal
    equal Less e = cc e
    equal Equal e = refl
    equal Greater e = cc e

cond-shorter : (b : Bool) (x : ℕ) (ys zs : List ℕ) → length ys ≤ length zs → length (cond b ys (x ∷ ys)) ≤ length zs + 1
cond-shorter true x ys zs h = omega arith
cond-shorter false x ys zs h = omega arith

shorter : (v : ℕ) (ks : List ℕ) → length (without v ks) ≤ length ks
shorter v [] = omega arith
shorter v (x ∷ xs) = let h = cond-shorter (is_at (nat_cmp v) x) x (without v xs) xs (shorter v xs) in omega arith

cond-fewer : (b : Bool) (r : Bool) (x : ℕ) (ys zs : List ℕ) → (b || r) ≡ true → length ys ≤ length zs → (r ≡ true → length ys < length zs) → length (cond b ys (x ∷ ys)) ≤ length zs
cond-fewer true r x ys zs e h f = h
cond-fewer false r x ys zs e h f = let k = f e in omega arith

fewer : (v : ℕ) (ks : List ℕ) → has v ks ≡ true → length (without v ks) < length ks
fewer v [] e = cc e
fewer v (x ∷ xs) e =
    let h = cond-fewer (is_at (nat_cmp v) x) (has v xs) x (without v xs) xs e (shorter v xs) (fewer v xs) in omega arith

cond-absent : (b c : Bool) (n x : ℕ) (ys xs : List ℕ) → (b ≡ true → c ≡ false) → (has n ys ≡ false → has n xs ≡ false) → is_at (nat_cmp n) x ≡ c → has n (cond b ys (x ∷ ys)) ≡ false → (c || has n xs) ≡ false
cond-absent true c n x ys xs f g at h = rw (f refl) (g h)
cond-absent false true n x ys xs f g at h = cc (rw at at h)
cond-absent false false n x ys xs f g at h = g (rw at at h)

absent : (n v : ℕ) (ks : List ℕ) → n ≢ v → has n (without v ks) ≡ false → has n ks ≡ false
absent n v [] ne h = refl
absent n v (x ∷ xs) ne h = cond-absent (is_at (nat_cmp v) x) (is_at (nat_cmp n) x) n x (without v xs) xs (other (is_at (nat_cmp n) x) refl) (absent n v xs ne) refl h
  where
    other : (c : Bool) → is_at (nat_cmp n) x ≡ c → is_at (nat_cmp v) x ≡ true → c ≡ false
    other true e f = absurd (ne (same-at n x e ∙ sym (same-at v x f)))
    other false e f = refl

-- one of the days s, s + 7, .. is not in the list
free : (k s : ℕ) (ks : List ℕ) → length ks ≤ k → (i : ℕ) × (i ≤ k) × (has (s + 7 * i) ks ≡ false)
free zero s [] h = (0, omega arith, refl)
free zero s (x ∷ xs) h = absurd (omega arith)
free (suc k) s ks h = by (has (s + 7 * suc k) ks) refl (λ e. free k s (without (s + 7 * suc k) ks) (let f = fewer (s + 7 * suc k) ks e in omega arith))
  where
    by : (b : Bool) → has (s + 7 * suc k) ks ≡ b
        → (has (s + 7 * suc k) ks ≡ true → (i : ℕ) × (i ≤ k)
        × (has (s + 7 * i) (without (s + 7 * suc k) ks) ≡ false))
        → (i : ℕ) × (i ≤ suc k) × (has (s + 7 * i) ks ≡ false)
    by false e f = (suc k, omega arith, e)
    by true e f =
        let (i, le, none) = f e in
        (i, omega arith, absent (s + 7 * i) (s + 7 * suc k) ks (λ same. absurd (omega arith)) none)

-- an open weekday
open_weekday : (bs : List Bool) → list_any not bs ≡ true → (w : ℕ) × (w < length bs) × (get_or bs w true ≡ false)
open_weekday [] e = cc e
open_weekday (true ∷ bs) e = let (w, lt, open_) = open_weekday bs e in (suc w, omega arith, open_)
open_weekday (false ∷ bs) e = (0, omega arith, refl)

-- the first day of a weekday from a day on
first-of : (first w : ℕ) → w < 7 → (s : ℕ) × (first ≤ s) × (s ≤ first + 6) × (s % 7 ≡ w)
first-of first w h = (first + (w + 7 - first % 7) % 7, omega arith, omega arith, omega arith)

-- some day is open within 401 weeks
pub some-open : (closed : Closed) (first : ℕ) → length closed.weekdays ≡ 7
    → list_any not closed.weekdays ≡ true → length closed.dates ≤ 400
    → (n : ℕ) × (first ≤ n) × (n < first + 2807) × (is_open closed n ≡ true)
some-open closed first seven some few =
    let (w, lt, week) = open_weekday closed.weekdays some in
    let (s, from, to, on) = first-of first w (omega arith) in
    let (i, le, none) = free 400 s closed.dates few in
    let day : (s + 7 * i) % 7 ≡ w = omega arith in
    (s + 7 * i, omega arith, omega arith, rw (weekday-lem (s + 7 * i), day, week, none) refl)
