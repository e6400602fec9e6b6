-- What an entry leaves of requests that wait after others that are closed.
use Rattle.std.proofs.Common.{◌≡◌, ◌+◌, ◌-◌, ◌<◌, ◌≤◌, ℕ, suc, zero, List, [], ◌∷◌, ◌++◌, length, map, Option, Some, None, Bool, true, false, refl, sym, ap, ap₂, subst, arith, append_assoc, length-append, ◌∙◌, inl, inr}
use Rattle.std.specs.Prelude.{◌&&◌, ◌||◌, if◌then◌else◌, nat_lt, not}
use Rattle.std.specs.List.{AllByRecursion, list_any}
use Rattle.std.specs.Str.{bytes_eq}
use Rattle.std.proofs.lemmas.Bool.{cases_Bool, cases_lt, le-ltb, lt-ltb}
use Rattle.std.proofs.lemmas.List.{length-map}
use Rattle.log_pairs.specs.Pairs.{Becomes, Open, Over, Pair, Pending, Request, Response, Said, aged, after, answer_for, asks, client_of, client_then, close_at, closed, closed_of, given, is_misfit, is_of, is_open_of, is_unasked, last_gets, last_is_open, may_have, more, no_client, pair_of, step, takes_misfits, uses_digits}
use Rattle.log_pairs.specs.declared.client.Answered.{Answered}
use Rattle.log_pairs.specs.declared.client.Answered.TheVariants as answers
use Rattle.log_pairs.specs.declared.client.FitCounts.{FitCounts}
use Rattle.log_pairs.specs.declared.pairing.TheConstants.{PATIENCE}
use Rattle.journal_run.specs.Making.{AreClosed, behind}

pub becomes-both : (a b c : Open) → Becomes a b → Becomes b c → Becomes a c
becomes-both a b c f g = record {
  asked = f.asked ∙ g.asked;
  pending = f.pending ∙ g.pending;
  clients = λ d. f.clients d ∙ g.clients d;
  unasked = f.unasked ∙ g.unasked;
  mismatched = f.mismatched ∙ g.mismatched;
}

pub behind-same : (gone : List Pending) (new o : Open) → Becomes new o → Becomes (behind gone new) (behind gone o)
behind-same gone new o b = record {
  asked = b.asked;
  pending = ap (λ (ps : List Pending). gone ++ ps) b.pending;
  clients = b.clients;
  unasked = b.unasked;
  mismatched = b.mismatched;
}

-- the same of both
pub step-same : (new o : Open) (x : Said) → Becomes new o → Becomes (step new x) (step o x)
step-same new o (Request c m) b = record {
  asked = ap (λ (n : ℕ). n + 1) b.asked;
  pending = ap (λ (ps : List Pending). aged (ps ++ asks c m ∷ [])) b.pending;
  clients = b.clients;
  unasked = b.unasked;
  mismatched = b.mismatched;
}
step-same new o (Response c m) b = record {
  asked = b.asked;
  pending = ap₂ (λ (k : FitCounts) (ps : List Pending). given (answer_for k c m ps) (uses_digits k) c m ps) (b.clients c) b.pending;
  clients = λ d. ap₂ (λ (k l : FitCounts). if bytes_eq c d then k else l) (ap₂ (λ (k : FitCounts) (ps : List Pending). client_then k c m ps) (b.clients c) b.pending) (b.clients d);
  unasked = ap₂ more b.unasked (ap₂ (λ (k : FitCounts) (ps : List Pending). is_unasked (answer_for k c m ps)) (b.clients c) b.pending);
  mismatched = ap₂ more b.mismatched (ap₂ (λ (k : FitCounts) (ps : List Pending). is_misfit (answer_for k c m ps)) (b.clients c) b.pending);
}
step-same new o (Over c) b = record {
  asked = b.asked;
  pending = ap (λ (ps : List Pending). map (closed_of false c) ps) b.pending;
  clients = λ d. ap (λ (l : FitCounts). if bytes_eq c d then no_client else l) (b.clients d);
  unasked = b.unasked;
  mismatched = b.mismatched;
}

-- CLOSED ONES

same-closed : (p : Pending) → p.is_open ≡ false → closed p ≡ p
same-closed p h = ap (λ (b : Bool). record p { is_open = b }) (sym h)

same-closed-of : (all : Bool) (c : List ℕ) (p : Pending) → p.is_open ≡ false → closed_of all c p ≡ p
same-closed-of all c p h = by (all || bytes_eq c p.pair.connection)
  where
    by : (b : Bool) → (if b then closed p else p) ≡ p
    by true = same-closed p h
    by false = refl

pub mapped-behind : (each : Bool) (c : List ℕ) (gone ps : List Pending) → AreClosed gone → map (closed_of each c) (gone ++ ps) ≡ gone ++ map (closed_of each c) ps
mapped-behind each c [] ps all = refl
mapped-behind each c (g ∷ gs) ps all = ap₂ (λ (p : Pending) (l : List Pending). p ∷ l) (same-closed-of each c g all.0) (mapped-behind each c gs ps all.1)

close-behind : (n : ℕ) (gone ps : List Pending) → close_at (length gone + n) (gone ++ ps) ≡ gone ++ close_at n ps
close-behind n [] ps = let none : 0 + n ≡ n = omega arith in ap (λ (k : ℕ). close_at k ps) none
close-behind n (g ∷ gs) ps =
    let next : length (g ∷ gs) + n ≡ suc (length gs + n) = omega arith in
    ap (λ (k : ℕ). close_at k (g ∷ (gs ++ ps))) next ∙ ap (λ (l : List Pending). g ∷ l) (close-behind n gs ps)

close-within : (n : ℕ) (gone ps : List Pending) → n < length gone → AreClosed gone → close_at n (gone ++ ps) ≡ gone ++ ps
close-within n [] ps below all = absurd (omega arith)
close-within zero (g ∷ gs) ps below all = ap (λ (p : Pending). p ∷ (gs ++ ps)) (same-closed g all.0)
close-within (suc n) (g ∷ gs) ps below all = ap (λ (l : List Pending). g ∷ l) (close-within n gs ps (omega arith) all.1)

aged-behind : (gone ps : List Pending) → AreClosed gone → gone ++ aged ps ≡ aged (gone ++ ps)
aged-behind gone ps all = elim (cases_lt PATIENCE (length ps)) [
  | inl long ↦
      let one : nat_lt PATIENCE (length ps) ≡ true = lt-ltb PATIENCE (length ps) long in
      let both : nat_lt PATIENCE (length (gone ++ ps)) ≡ true = lt-ltb PATIENCE (length (gone ++ ps)) (omega (arith, size)) in
      let place : length (gone ++ ps) - suc PATIENCE ≡ length gone + (length ps - suc PATIENCE) = omega (arith, size) in
      rw (one, both, place) (sym (close-behind (length ps - suc PATIENCE) gone ps))
  | inr short ↦
      let one : nat_lt PATIENCE (length ps) ≡ false = le-ltb PATIENCE (length ps) short in
      rw one (elim (cases_lt PATIENCE (length (gone ++ ps))) [
        | inl long ↦
            let both : nat_lt PATIENCE (length (gone ++ ps)) ≡ true = lt-ltb PATIENCE (length (gone ++ ps)) long in
            rw both (sym (close-within (length (gone ++ ps) - suc PATIENCE) gone ps (omega (arith, size)) all))
        | inr few ↦
            let both : nat_lt PATIENCE (length (gone ++ ps)) ≡ false = le-ltb PATIENCE (length (gone ++ ps)) few in
            rw both refl
      ])
]
  where
    size : length (gone ++ ps) ≡ length gone + length ps
    size = length-append gone ps

-- WHAT A RESPONSE FINDS

abbrev NonePass : (Pending → Bool) → List Pending → Type 0
NonePass test ps = AllByRecursion (λ p. test p ≡ false) ps

any-behind : (test : Pending → Bool) (gone ps : List Pending) → NonePass test gone → list_any test (gone ++ ps) ≡ list_any test ps
any-behind test [] ps none = refl
any-behind test (g ∷ gs) ps none = rw (none.0) (any-behind test gs ps none.1)

none-own : (c : List ℕ) (ps : List Pending) → list_any (is_of c) ps ≡ false → last_is_open c ps ≡ false
none-own c [] none = refl
none-own c (p ∷ ps) none =
    let (one, rest) = neither (is_of c p) (list_any (is_of c) ps) none in
    rw rest (by p.is_open (is_of c p) one)
  where
    neither : (a b : Bool) → (a || b) ≡ false → (a ≡ false) × (b ≡ false)
    neither true b h = cc h
    neither false b h = (refl, h)

    by : (a b : Bool) → b ≡ false → (a && b) ≡ false
    by true b h = h
    by false b h = refl

last-open-behind : (c : List ℕ) (gone ps : List Pending) → AreClosed gone → last_is_open c (gone ++ ps) ≡ last_is_open c ps
last-open-behind c [] ps all = refl
last-open-behind c (g ∷ gs) ps all = elim (cases_Bool (list_any (is_of c) (gs ++ ps))) [
  | inl some ↦ rw some (last-open-behind c gs ps all.1)
  | inr none ↦
      let shut : is_open_of c g ≡ false = rw (all.0) refl in
      rw none (shut ∙ sym (none-own c (gs ++ ps) none) ∙ last-open-behind c gs ps all.1)
]

last-none : (test : Pending → Bool) (m : List ℕ) (ps : List Pending) → list_any test ps ≡ false → last_gets test m ps ≡ ps
last-none test m [] none = refl
last-none test m (p ∷ ps) none =
    let (one, rest) = neither (test p) (list_any test ps) none in
    rw (rest, one) refl
  where
    neither : (a b : Bool) → (a || b) ≡ false → (a ≡ false) × (b ≡ false)
    neither true b h = cc h
    neither false b h = (refl, h)

last-behind : (test : Pending → Bool) (m : List ℕ) (gone ps : List Pending) → NonePass test gone → last_gets test m (gone ++ ps) ≡ gone ++ last_gets test m ps
last-behind test m [] ps none = refl
last-behind test m (g ∷ gs) ps none = elim (cases_Bool (list_any test (gs ++ ps))) [
  | inl some ↦ rw some (ap (λ (l : List Pending). g ∷ l) (last-behind test m gs ps none.1))
  | inr rest ↦
      let one = none.0 in
      rw (rest, one) (ap (λ (l : List Pending). g ∷ l) (sym (last-none test m (gs ++ ps) rest) ∙ last-behind test m gs ps none.1))
]

none-open : (c : List ℕ) (gone : List Pending) → AreClosed gone → NonePass (is_open_of c) gone
none-open c [] all = tt
none-open c (g ∷ gs) all = (rw (all.0) refl, none-open c gs all.1)

none-may : (digits : Bool) (c m : List ℕ) (gone : List Pending) → AreClosed gone → NonePass (may_have digits c m) gone
none-may digits c m [] all = tt
none-may digits c m (g ∷ gs) all = (rw (all.0) refl, none-may digits c m gs all.1)

abbrev chain : Bool → Bool → Bool → Bool → Answered
chain fit some takes one = if fit then answers.Fitting else if not some then answers.Unasked else if takes && one then answers.Misfit else answers.Withheld

answer-behind : (k : FitCounts) (c m : List ℕ) (gone ps : List Pending) → AreClosed gone → answer_for k c m (gone ++ ps) ≡ answer_for k c m ps
answer-behind k c m gone ps all =
    ap₂ (λ (fit some : Bool). chain fit some (takes_misfits k) (last_is_open c (gone ++ ps)))
    (any-behind (may_have (uses_digits k) c m) gone ps (none-may (uses_digits k) c m gone all)) (any-behind (is_open_of c) gone ps (none-open c gone all))
    ∙ ap (λ (one : Bool). chain (list_any (may_have (uses_digits k) c m) ps) (list_any (is_open_of c) ps) (takes_misfits k) one) (last-open-behind c gone ps all)

given-behind : (a : Answered) (digits : Bool) (c m : List ℕ) (gone ps : List Pending) → AreClosed gone → given a digits c m (gone ++ ps) ≡ gone ++ given a digits c m ps
given-behind answers.Fitting digits c m gone ps all = last-behind (may_have digits c m) m gone ps (none-may digits c m gone all)
given-behind answers.Misfit digits c m gone ps all = last-behind (is_open_of c) m gone ps (none-open c gone all)
given-behind answers.Withheld digits c m gone ps all = refl
given-behind answers.Unasked digits c m gone ps all = refl

abbrev counts : FitCounts → Bool → Bool → Bool → Bool → FitCounts
counts k some fit kind exact = record {
  responses = more k.responses some;
  misfits = more k.misfits (some && not fit);
  kinds = more k.kinds kind;
  off = more k.off (kind && not exact);
}

client-behind : (k : FitCounts) (c m : List ℕ) (gone ps : List Pending) → AreClosed gone → client_then k c m (gone ++ ps) ≡ client_then k c m ps
client-behind k c m gone ps all =
    ap₂ (λ (some fit : Bool). counts k some fit (list_any (may_have false c m) (gone ++ ps)) (list_any (may_have true c m) (gone ++ ps)))
    (any-behind (is_open_of c) gone ps (none-open c gone all)) (any-behind (may_have (uses_digits k) c m) gone ps (none-may (uses_digits k) c m gone all))
    ∙ ap₂ (λ (kind exact : Bool). counts k (list_any (is_open_of c) ps) (list_any (may_have (uses_digits k) c m) ps) kind exact)
    (any-behind (may_have false c m) gone ps (none-may false c m gone all)) (any-behind (may_have true c m) gone ps (none-may true c m gone all))

pub step-behind : (gone : List Pending) (o : Open) (x : Said) → AreClosed gone → Becomes (behind gone (step o x)) (step (behind gone o) x)
step-behind gone o (Request c m) all = record {
  asked = refl;
  pending = aged-behind gone (o.pending ++ asks c m ∷ []) all ∙ ap aged (sym (append_assoc gone o.pending (asks c m ∷ [])));
  clients = λ d. refl;
  unasked = refl;
  mismatched = refl;
}
step-behind gone o (Response c m) all =
    let k = client_of o.clients c in
    let same : answer_for k c m (gone ++ o.pending) ≡ answer_for k c m o.pending = answer-behind k c m gone o.pending all in
    record {
      asked = refl;
      pending = sym (ap (λ (a : Answered). given a (uses_digits k) c m (gone ++ o.pending)) same ∙ given-behind (answer_for k c m o.pending) (uses_digits k) c m gone o.pending all);
      clients = λ d. ap (λ (l : FitCounts). if bytes_eq c d then l else client_of o.clients d) (sym (client-behind k c m gone o.pending all));
      unasked = ap (λ (a : Answered). more o.unasked (is_unasked a)) (sym same);
      mismatched = ap (λ (a : Answered). more o.mismatched (is_misfit a)) (sym same);
    }
step-behind gone o (Over c) all = record {
  asked = refl;
  pending = sym (mapped-behind false c gone o.pending all);
  clients = λ d. refl;
  unasked = refl;
  mismatched = refl;
}

-- HOW MANY THERE ARE

length-closed : (n : ℕ) (ps : List Pending) → length (close_at n ps) ≡ length ps
length-closed n [] = refl
length-closed zero (p ∷ ps) = refl
length-closed (suc n) (p ∷ ps) = ap (λ (k : ℕ). suc k) (length-closed n ps)

length-aged : (ps : List Pending) → length (aged ps) ≡ length ps
length-aged ps = by (nat_lt PATIENCE (length ps))
  where
    by : (b : Bool) → length (if b then close_at (length ps - suc PATIENCE) ps else ps) ≡ length ps
    by true = length-closed (length ps - suc PATIENCE) ps
    by false = refl

length-gets : (test : Pending → Bool) (m : List ℕ) (ps : List Pending) → length (last_gets test m ps) ≡ length ps
length-gets test m [] = refl
length-gets test m (p ∷ ps) = elim (cases_Bool (list_any test ps)) [
  | inl some ↦ rw some (ap (λ (k : ℕ). suc k) (length-gets test m ps))
  | inr none ↦ rw none refl
]

length-given : (a : Answered) (digits : Bool) (c m : List ℕ) (ps : List Pending) → length (given a digits c m ps) ≡ length ps
length-given answers.Fitting digits c m ps = length-gets (may_have digits c m) m ps
length-given answers.Misfit digits c m ps = length-gets (is_open_of c) m ps
length-given answers.Withheld digits c m ps = refl
length-given answers.Unasked digits c m ps = refl

pub asked-step : (o : Open) (x : Said) → o.asked ≡ length o.pending → (step o x).asked ≡ length (step o x).pending
asked-step o (Request c m) is =
    let size = length-aged (o.pending ++ asks c m ∷ []) in
    let last = length-append o.pending (asks c m ∷ []) in
    omega (arith, is, size, last)
asked-step o (Response c m) is = is ∙ sym (length-given (answer_for (client_of o.clients c) c m o.pending) (uses_digits (client_of o.clients c)) c m o.pending)
asked-step o (Over c) is = is ∙ sym (length-map o.pending (closed_of false c))

pub after-append : (o : Open) (xs ys : List Said) → after o (xs ++ ys) ≡ after (after o xs) ys
after-append o [] ys = refl
after-append o (x ∷ xs) ys = after-append (step o x) xs ys
