-- Requests that wait, by their places.
use Rattle.std.proofs.Common.{◌≡◌, ◌+◌, ◌-◌, ◌<◌, ◌≤◌, ℕ, suc, zero, List, [], ◌∷◌, ◌++◌, length, map, take, drop, set, get_or, Option, Some, None, Bool, true, false, refl, sym, ap, subst, arith, ◌∙◌, inl, inr}
use Rattle.std.specs.Prelude.{◌&&◌, ◌||◌, ◌==◌, IfNone, IfSome, is_some, nat_lt, not, if◌then◌else◌}
use Rattle.std.specs.List.{list_any}
use Rattle.std.proofs.lemmas.Bool.{cases_Bool, eq-eqb, eqb-true, lt-ltb}
use Rattle.std.proofs.lemmas.List.{length-set}
use Rattle.log_pairs.specs.Pairs.{GivesOne, IsGivenRightly, Pending, aged, answer_for, client_then, close_at, closed, gets, given, is_of, is_open_of, last_gets, last_is_open, may_have, more, takes_misfits, uses_digits}
use Rattle.log_pairs.specs.declared.client.Answered.{Answered}
use Rattle.log_pairs.specs.declared.client.Answered.TheVariants as answers
use Rattle.log_pairs.specs.declared.client.FitCounts.{FitCounts}
use Rattle.log_pairs.specs.declared.pairing.TheConstants.{PATIENCE}
use Rattle.log_pairs.specs.Devices.Places.{IsLast, IsPlaced, NonePasses, is_place, none_there, settled}

either : (a b : Bool) → b ≡ true → (a || b) ≡ true
either true b h = refl
either false b h = h

pub any-at : (test : Pending → Bool) (ps : List Pending) (i : ℕ) → i < length ps → test (get_or ps i none_there) ≡ true → list_any test ps ≡ true
any-at test [] i below is = absurd (omega arith)
any-at test (p ∷ ps) zero below is = rw is refl
any-at test (p ∷ ps) (suc i) below is = either (test p) (list_any test ps) (any-at test ps i (omega arith) is)

pub none-any : (test : Pending → Bool) (ps : List Pending) → ((k : ℕ) → k < length ps → test (get_or ps k none_there) ≡ false) → list_any test ps ≡ false
none-any test [] each = refl
none-any test (p ∷ ps) each =
    let first : test p ≡ false = each 0 (omega arith) in
    rw first (none-any test ps (λ k below. each (suc k) (omega arith)))

-- whether any passes, by the place of the last that does
pub any-last : (test : Pending → Bool) (ps : List Pending) (o : Option ℕ) (b : Bool) → IsLast test ps (length ps) o → b ≡ (is_some o) → b ≡ list_any test ps
any-last test ps None b none is = is ∙ sym (none-any test ps (λ k below. none k (omega arith) below))
any-last test ps (Some i) b (below, is-so, none) is = is ∙ sym (any-at test ps i below is-so)

pub last-set : (test : Pending → Bool) (m : List ℕ) (ps : List Pending) (i : ℕ) → i < length ps → test (get_or ps i none_there) ≡ true → NonePasses test ps (i + 1) (length ps)
    → last_gets test m ps ≡ set ps i (gets m (get_or ps i none_there))
last-set test m [] i below is none = absurd (omega arith)
last-set test m (p ∷ ps) zero below is none =
    let after : list_any test ps ≡ false = none-any test ps (λ k less. none (suc k) (omega arith) (omega arith)) in
    rw (after, is) refl
last-set test m (p ∷ ps) (suc i) below is none =
    let some : list_any test ps ≡ true = any-at test ps i (omega arith) is in
    rw some (ap (λ (qs : List Pending). p ∷ qs) (last-set test m ps i (omega arith) is (λ k from less. none (suc k) (omega arith) (omega arith))))

-- the last request of a connection, by its place
last-is : (c : List ℕ) (ps : List Pending) (j : ℕ) → j < length ps → is_of c (get_or ps j none_there) ≡ true → NonePasses (is_of c) ps (j + 1) (length ps)
    → last_is_open c ps ≡ is_open_of c (get_or ps j none_there)
last-is c [] j below is none = absurd (omega arith)
last-is c (p ∷ ps) zero below is none =
    let after : list_any (is_of c) ps ≡ false = none-any (is_of c) ps (λ k less. none (suc k) (omega arith) (omega arith)) in
    rw after refl
last-is c (p ∷ ps) (suc j) below is none =
    let some : list_any (is_of c) ps ≡ true = any-at (is_of c) ps j (omega arith) is in
    rw some (last-is c ps j (omega arith) is (λ k from less. none (suc k) (omega arith) (omega arith)))

open-own : (c : List ℕ) (p : Pending) → is_open_of c p ≡ true → is_of c p ≡ true
open-own c p h = by p.is_open (is_of c p) h
  where
    by : (a b : Bool) → (a && b) ≡ true → b ≡ true
    by true b h = h
    by false b h = cc h

-- the last open one is the last of all, or not
last-opened : (c : List ℕ) (ps : List Pending) (i : ℕ) (o : Option ℕ) (b : Bool) → IsLast (is_open_of c) ps (length ps) (Some i) → IsLast (is_of c) ps (length ps) o → b ≡ is_place o i → b ≡ last_is_open c ps
last-opened c ps i None b (below, is, none) other told =
    let bad : true ≡ false = sym (open-own c (get_or ps i none_there) is) ∙ other i (omega arith) below in
    cc bad
last-opened c ps i (Some j) b (below, is, none) (less, own, after) told = elim (cases_Bool (j == i)) [
  | inl e ↦
      let same : j ≡ i = eqb-true j i e in
      told ∙ e ∙ sym is ∙ ap (λ (k : ℕ). is_open_of c (get_or ps k none_there)) (sym same) ∙ sym (last-is c ps j less own after)
  | inr e ↦
      let apart : j ≡ i → ⊥ = λ same. let bad : true ≡ false = sym (eq-eqb j i same) ∙ e in cc bad in
      let not-before : j < i → ⊥ = λ before. let bad : true ≡ false = sym (open-own c (get_or ps i none_there) is) ∙ after i (omega (arith, before)) below in cc bad in
      let later : i + 1 ≤ j = omega (arith, apart, not-before) in
      told ∙ e ∙ sym (none j later less) ∙ sym (last-is c ps j less own after)
]

pub gives-last : (takes : Bool) (c : List ℕ) (ps : List Pending) (i : ℕ) (o : Option ℕ) (b : Bool) → takes ≡ true → IsLast (is_open_of c) ps (length ps) (Some i)
    → IsLast (is_of c) ps (length ps) o → b ≡ is_place o i → b ≡ (takes && last_is_open c ps)
gives-last true c ps i o b t last other is = last-opened c ps i o b last other is
gives-last false c ps i o b t last other is = cc t

pub closed-there : (n : ℕ) (ps : List Pending) (q : Pending) → n < length ps → q ≡ closed (get_or ps n none_there) → set ps n q ≡ close_at n ps
closed-there n [] q below is = absurd (omega arith)
closed-there zero (p ∷ ps) q below is = ap (λ (x : Pending). x ∷ ps) is
closed-there (suc n) (p ∷ ps) q below is = ap (λ (qs : List Pending). p ∷ qs) (closed-there n ps q (omega arith) is)

-- one more of them is changed
pub mapped-more : (f : Pending → Pending) (ps qs : List Pending) (i : ℕ) (q : Pending) → i < length ps → qs ≡ map f (take i ps) ++ drop i ps → q ≡ f (get_or qs i none_there)
    → set qs i q ≡ map f (take (i + 1) ps) ++ drop (i + 1) ps
mapped-more f ps qs i q below is told =
    let next : suc i ≡ i + 1 = omega arith in
    rw is (by ps i q below (told ∙ ap (λ (l : List Pending). f (get_or l i none_there)) is) ∙ ap (λ (k : ℕ). map f (take k ps) ++ drop k ps) next)
  where
    by : (ps : List Pending) (i : ℕ) (q : Pending) → i < length ps → q ≡ f (get_or (map f (take i ps) ++ drop i ps) i none_there)
        → set (map f (take i ps) ++ drop i ps) i q ≡ map f (take (suc i) ps) ++ drop (suc i) ps
    by [] i q below told = absurd (omega arith)
    by (p ∷ ps) zero q below told = ap (λ (x : Pending). x ∷ ps) told
    by (p ∷ ps) (suc i) q below told = ap (λ (l : List Pending). f p ∷ l) (by ps i q (omega arith) told)

pub mapped-length : (f : Pending → Pending) (ps : List Pending) (i : ℕ) → i ≤ length ps → length (map f (take i ps) ++ drop i ps) ≡ length ps
mapped-length f [] i below = by i
  where
    by : (i : ℕ) → length (map f (take i []) ++ drop i []) ≡ 0
    by zero = refl
    by (suc i) = refl
mapped-length f (p ∷ ps) zero below = refl
mapped-length f (p ∷ ps) (suc i) below = ap (λ (n : ℕ). suc n) (mapped-length f ps i (omega arith))

pub mapped-all : (f : Pending → Pending) (ps : List Pending) (i : ℕ) → length ps ≤ i → map f (take i ps) ++ drop i ps ≡ map f ps
mapped-all f [] zero all = refl
mapped-all f [] (suc i) all = refl
mapped-all f (p ∷ ps) zero all = absurd (omega arith)
mapped-all f (p ∷ ps) (suc i) all = ap (λ (l : List Pending). f p ∷ l) (mapped-all f ps i (omega arith))

pub any-default : (ps : List Pending) (k : ℕ) (p : Pending) → k < length ps → p ≡ get_or ps k p → p ≡ get_or ps k none_there
any-default [] k p below is = absurd (omega arith)
any-default (q ∷ ps) zero p below is = is
any-default (q ∷ ps) (suc k) p below is = any-default ps k p (omega arith) is

-- WHAT IS FOUND FOR A RESPONSE

-- one that it fits, by digit or by kind
fit-last : (digits : Bool) (c m : List ℕ) (ps : List Pending) (n : ℕ) (exact kind fit : Option ℕ) → IsLast (may_have true c m) ps n exact → IsLast (may_have false c m) ps n kind
    → fit ≡ (if digits then exact else kind) → IsLast (may_have digits c m) ps n fit
fit-last true c m ps n exact kind fit a b is = rw is a
fit-last false c m ps n exact kind fit a b is = rw is b

pub client-found : (k : FitCounts) (c m : List ℕ) (ps : List Pending) (n : ℕ) (opened kind exact fit : Option ℕ) (a b d e : Bool) → n ≡ length ps → IsLast (is_open_of c) ps n opened
    → IsLast (may_have false c m) ps n kind → IsLast (may_have true c m) ps n exact → fit ≡ (if uses_digits k then exact else kind)
    → a ≡ is_some opened → b ≡ is_some fit → d ≡ is_some kind → e ≡ is_some exact
    → ◌≡◌ {A = FitCounts} (record { responses = more k.responses a; misfits = more k.misfits (a && not b); kinds = more k.kinds d; off = more k.off (d && not e) }) (client_then k c m ps)
client-found k c m ps n opened kind exact fit a b d e size one two three chosen a-is b-is d-is e-is =
    let f : IsLast (may_have (uses_digits k) c m) ps (length ps) fit = subst (λ (l : ℕ). IsLast (may_have (uses_digits k) c m) ps l fit) size (fit-last (uses_digits k) c m ps n exact kind fit three two chosen) in
    let some : a ≡ list_any (is_open_of c) ps = any-last (is_open_of c) ps opened a (subst (λ (l : ℕ). IsLast (is_open_of c) ps l opened) size one) a-is in
    let fits : b ≡ list_any (may_have (uses_digits k) c m) ps = any-last (may_have (uses_digits k) c m) ps fit b f b-is in
    let kinds : d ≡ list_any (may_have false c m) ps = any-last (may_have false c m) ps kind d (subst (λ (l : ℕ). IsLast (may_have false c m) ps l kind) size two) d-is in
    let exacts : e ≡ list_any (may_have true c m) ps = any-last (may_have true c m) ps exact e (subst (λ (l : ℕ). IsLast (may_have true c m) ps l exact) size three) e-is in
    rw (some, fits, kinds, exacts) refl

pub answer-found : (k : FitCounts) (c m : List ℕ) (ps : List Pending) (n : ℕ) (opened kind exact fit : Option ℕ) (b : Bool) → n ≡ length ps → IsLast (is_open_of c) ps n opened
    → IsLast (may_have false c m) ps n kind → IsLast (may_have true c m) ps n exact → fit ≡ (if uses_digits k then exact else kind)
    → IfNone fit (IfSome opened (λ _. b ≡ (takes_misfits k && last_is_open c ps))) → (settled fit opened b).0 ≡ answer_for k c m ps
answer-found k c m ps n opened kind exact fit b size one two three chosen gives =
    by fit opened (subst (λ (l : ℕ). IsLast (may_have (uses_digits k) c m) ps l fit) size (fit-last (uses_digits k) c m ps n exact kind fit three two chosen))
    (subst (λ (l : ℕ). IsLast (is_open_of c) ps l opened) size one) gives
  where
    both : (x y : Bool) (j : ℕ) → x ≡ y → (settled None (Some j) x).0 ≡ (if y then answers.Misfit else answers.Withheld)
    both true true j e = refl
    both true false j e = cc e
    both false true j e = cc e
    both false false j e = refl

    by : (fit opened : Option ℕ) → IsLast (may_have (uses_digits k) c m) ps (length ps) fit → IsLast (is_open_of c) ps (length ps) opened
        → IfNone fit (IfSome opened (λ _. b ≡ (takes_misfits k && last_is_open c ps))) → (settled fit opened b).0 ≡ answer_for k c m ps
    by (Some i) opened f o gives =
        let some : list_any (may_have (uses_digits k) c m) ps ≡ true = any-at (may_have (uses_digits k) c m) ps i f.0 f.1 in
        rw some refl
    by None None f o gives =
        let no-fit : list_any (may_have (uses_digits k) c m) ps ≡ false = none-any (may_have (uses_digits k) c m) ps (λ j below. f j (omega arith) below) in
        let none : list_any (is_open_of c) ps ≡ false = none-any (is_open_of c) ps (λ j below. o j (omega arith) below) in
        rw (no-fit, none) refl
    by None (Some j) f o gives =
        let no-fit : list_any (may_have (uses_digits k) c m) ps ≡ false = none-any (may_have (uses_digits k) c m) ps (λ i below. f i (omega arith) below) in
        let some : list_any (is_open_of c) ps ≡ true = any-at (is_open_of c) ps j o.0 o.1 in
        rw (no-fit, some) (both b (takes_misfits k && last_is_open c ps) j gives)

pub place-found : (k : FitCounts) (c m : List ℕ) (ps : List Pending) (n : ℕ) (opened kind exact fit : Option ℕ) (b : Bool) → n ≡ length ps → IsLast (is_open_of c) ps n opened
    → IsLast (may_have false c m) ps n kind → IsLast (may_have true c m) ps n exact → fit ≡ (if uses_digits k then exact else kind)
    → IsPlaced (settled fit opened b).1 m ps (given (settled fit opened b).0 (uses_digits k) c m ps)
place-found k c m ps n opened kind exact fit b size one two three chosen =
    by fit opened b (subst (λ (l : ℕ). IsLast (may_have (uses_digits k) c m) ps l fit) size (fit-last (uses_digits k) c m ps n exact kind fit three two chosen))
    (subst (λ (l : ℕ). IsLast (is_open_of c) ps l opened) size one)
  where
    by : (fit opened : Option ℕ) (b : Bool) → IsLast (may_have (uses_digits k) c m) ps (length ps) fit → IsLast (is_open_of c) ps (length ps) opened
        → IsPlaced (settled fit opened b).1 m ps (given (settled fit opened b).0 (uses_digits k) c m ps)
    by (Some i) opened b f o = (f.0, last-set (may_have (uses_digits k) c m) m ps i f.0 f.1 f.2)
    by None None b f o = refl
    by None (Some j) true f o = (o.0, last-set (is_open_of c) m ps j o.0 o.1 o.2)
    by None (Some j) false f o = refl

pub placed-below : (o : Option ℕ) (m : List ℕ) (ps new : List Pending) → IsPlaced o m ps new → IfSome o (λ i. i < length ps)
placed-below None m ps new h = tt
placed-below (Some i) m ps new h = h.0

pub placed-same : (o : Option ℕ) (m n : List ℕ) (ps a b : List Pending) → IsPlaced o m ps a → IsPlaced o n ps b → m ≡ n → a ≡ b
placed-same None m n ps a b f g is = f ∙ sym g
placed-same (Some i) m n ps a b f g is = f.1 ∙ ap (λ (r : List ℕ). set ps i (gets r (get_or ps i none_there))) is ∙ sym g.1

pub placed-length : (o : Option ℕ) (m : List ℕ) (ps new : List Pending) → IsPlaced o m ps new → length new ≡ length ps
placed-length None m ps new h = ap length h
placed-length (Some i) m ps new h = ap length h.1 ∙ length-set ps i (gets m (get_or ps i none_there))

pub aged-now : (ps : List Pending) (n m : ℕ) (p q : Pending) → n ≡ length ps → m ≡ length ps → PATIENCE < m → p ≡ get_or ps (n - PATIENCE - 1) p → q ≡ closed p → set ps (n - PATIENCE - 1) q ≡ aged ps
aged-now ps n m p q size same more is told =
    let long : nat_lt PATIENCE (length ps) ≡ true = lt-ltb PATIENCE (length ps) (omega (arith, same, more)) in
    let at : n - PATIENCE - 1 ≡ length ps - suc PATIENCE = omega (arith, size) in
    let below : length ps - suc PATIENCE < length ps = omega (arith, same, more) in
    let its : p ≡ get_or ps (length ps - suc PATIENCE) p = subst (λ (k : ℕ). p ≡ get_or ps k p) at is in
    rw long (ap (λ (k : ℕ). set ps k q) at ∙ closed-there (length ps - suc PATIENCE) ps q below (told ∙ ap closed (any-default ps (length ps - suc PATIENCE) p below its)))

pub length-changed : (n ps : List Pending) (k i : ℕ) (q : Pending) → n ≡ set ps i q → k + length n ≡ k + length ps
length-changed n ps k i q is = ap (λ (l : List Pending). k + length l) is ∙ ap (λ (l : ℕ). k + l) (length-set ps i q)

-- THE LAW

last-one : (test : Pending → Bool) (m : List ℕ) (ps : List Pending) → list_any test ps ≡ true → GivesOne test m ps (last_gets test m ps)
last-one test m [] some = cc some
last-one test m (p ∷ ps) some = by (list_any test ps) refl (last-one test m ps)
  where
    its : (a b : Bool) → b ≡ false → (a || b) ≡ true → a ≡ true
    its true b none h = refl
    its false b none h = let bad : true ≡ false = sym h ∙ none in cc bad

    by : (b : Bool) → list_any test ps ≡ b → (list_any test ps ≡ true → GivesOne test m ps (last_gets test m ps)) → GivesOne test m (p ∷ ps) (last_gets test m (p ∷ ps))
    by true is rest =
        let (front, q, back, all, passes, new) = rest is in (
          p ∷ front,
          q,
          back,
          ap (λ (qs : List Pending). p ∷ qs) all,
          passes,
          rw is (ap (λ (qs : List Pending). p ∷ qs) new),
        )
    by false is rest =
        let passes : test p ≡ true = its (test p) (list_any test ps) is some in
        ([], p, ps, refl, passes, rw (is, passes) refl)

pub rightly : (k : FitCounts) (c m : List ℕ) (ps : List Pending) → IsGivenRightly (answer_for k c m ps) (uses_digits k) c m ps (given (answer_for k c m ps) (uses_digits k) c m ps)
rightly k c m ps = by (list_any (may_have (uses_digits k) c m) ps) (list_any (is_open_of c) ps) (takes_misfits k && last_is_open c ps) refl refl
  where
    fit : Pending → Bool
    fit = may_have (uses_digits k) c m

    chain : Bool → Bool → Bool → Answered
    chain a b d = if a then answers.Fitting else if not b then answers.Unasked else if d then answers.Misfit else answers.Withheld

    by : (a b d : Bool) → list_any fit ps ≡ a → list_any (is_open_of c) ps ≡ b → IsGivenRightly (chain a b d) (uses_digits k) c m ps (given (chain a b d) (uses_digits k) c m ps)
    by true b d one two = last-one fit m ps one
    by false false d one two = (one, refl)
    by false true true one two = (one, last-one (is_open_of c) m ps two)
    by false true false one two = (one, refl)
