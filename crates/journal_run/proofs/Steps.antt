-- What becomes of a journal that is made, step by step.
use Rattle.std.proofs.Common.{◌≡◌, ◌+◌, ◌-◌, ◌<◌, ◌≤◌, ℕ, suc, List, [], ◌∷◌, ◌++◌, length, map, Bool, true, false, refl, sym, subst, ap, ap₂, arith, append_assoc, length-append, ◌∙◌}
use Rattle.std.specs.Prelude.{◌||◌, if◌then◌else◌, is_some, min}
use Rattle.std.specs.List.{AllByRecursion}
use Rattle.std.specs.Str.{bytes_eq}
use Rattle.std.proofs.lemmas.List.{append-nil, length-map}
use Rattle.journal_table.specs.declared.TheConstants.{LINE_LIMIT}
use Rattle.log_pairs.specs.Pairs.{Becomes, Open, Pair, Pending, Said, after, answered, begins_open, client_of, closed_of, pair_of, pairs_of, start, step, top}
use Rattle.journal_run.specs.Making.{AreClosed, Closes, Collects, Keeps, KeepsSome, Stays, behind}
use Rattle.journal_run.specs.Stops.{most_of}
use Rattle.journal_run.specs.Sums.{Sums, made_sums, sums_of}
use Rattle.journal_run.specs.declared.making.JournalRows.{JournalRows}
use Rattle.journal_run.specs.declared.making.Making.{Making}
use Rattle.journal_run.proofs.Fronts.{after-append, asked-step, becomes-both, behind-same, mapped-behind, step-behind, step-same}

map-append : (xs ys : List Pending) → map pair_of (xs ++ ys) ≡ map pair_of xs ++ map pair_of ys
map-append [] ys = refl
map-append (x ∷ xs) ys = ap (λ (ps : List Pair). x.pair ∷ ps) (map-append xs ys)

answered-append : (xs ys : List Pair) → answered (xs ++ ys) ≡ answered xs + answered ys
answered-append [] ys = omega arith
answered-append (x ∷ xs) ys = let more = answered-append xs ys in omega arith

closed-both : (xs ys : List Pending) → AreClosed xs → AreClosed ys → AreClosed (xs ++ ys)
closed-both [] ys a b = b
closed-both (x ∷ xs) ys a b = (a.0, closed-both xs ys a.1 b)

-- an entry more, of which nothing was collected yet
pub keeps-step : (first : JournalRows) (o : Open) (gone : List Pending) (taken : List Pair) (m : Making) (w : Open) (x : Said) (a b : ℕ) → Keeps first o gone taken m → Becomes w (step m.pairing x)
    → (step o x).asked ≤ most_of first → Keeps first (step o x) gone taken (record m { pairing = w; withheld = a; undigited = b })
keeps-step first o gone taken m w x a b k new few = record {
  closed = k.closed;
  waits = becomes-both (behind gone w) (behind gone (step m.pairing x)) (step o x) (behind-same gone w (step m.pairing x) new)
      (becomes-both (behind gone (step m.pairing x)) (step (behind gone m.pairing) x) (step o x) (step-behind gone m.pairing x k.closed) (step-same (behind gone m.pairing) o x k.waits));
  whole = k.whole;
  asked = asked-step o x k.asked;
  few = few;
  limit = k.limit;
  number = k.number;
  begun = k.begun;
  exchanges = k.exchanges;
  unanswered = k.unanswered;
}

-- an entry more, and what can't change was collected
pub takes : (x : Said) (m : Making) (w : Open) (a b : ℕ) (new : Making) → Becomes w (step m.pairing x) → ((o : Open) (limit : ℕ) → m.pairing.asked ≡ o.asked → m.most ≡ limit → o.asked ≤ limit → (step o x).asked ≤ limit)
    → Collects (record m { pairing = w; withheld = a; undigited = b }) new → (first : JournalRows) (said : List Said) (taken : List Pair) → Stays first said taken m → Stays first (said ++ x ∷ []) taken new
takes x m w a b new is few collects first said taken (gone, k) =
    subst (λ (o : Open). KeepsSome first o taken new) (sym (after-append start said (x ∷ [])))
    (collects.1 first (step (after start said) x) taken (gone, keeps-step first (after start said) gone taken m w x a b k is (few (after start said) (most_of first) k.waits.asked k.limit k.few)))

-- a pair less waits
pub shorter : (o w : Open) (p : Pair) → o ≡ record w { pending = record { pair = p; is_open = false } ∷ w.pending } → length w.pending + 1 ≡ length o.pending
shorter o w p is = let size : length o.pending ≡ suc (length w.pending) = ap (λ (v : Open). length v.pending) is in omega arith

pub closed-less : (o w : Open) (p : Pair) → o ≡ record w { pending = record { pair = p; is_open = false } ∷ w.pending } → AreClosed o.pending → AreClosed w.pending
closed-less o w p is all = (subst (λ (v : Open). AreClosed v.pending) is all).1

counted : (b : Bool) (e u e2 u2 l a a2 n n2 : ℕ) → e2 ≡ min (e + 1) top → u2 ≡ min (u + l) top → l ≡ (if b then 0 else 1) → a2 ≡ a + ((if b then 1 else 0) + 0) → n2 ≡ n + 1 → e ≡ n → u + a ≡ n → n < 4294967295
    → (e2 ≡ n2) × (u2 + a2 ≡ n2)
counted true e u e2 u2 l a a2 n n2 v x y z w few same most = (omega arith, omega arith)
counted false e u e2 u2 l a a2 n n2 v x y z w few same most = (omega arith, omega arith)

most-small : (rows : JournalRows) → most_of rows ≤ 4294967295
most-small rows = by rows.is_split
  where
    by : (b : Bool) → (if b then 4294967295 else LINE_LIMIT) ≤ 4294967295
    by true = omega arith
    by false = omega arith

-- a pair more is whole
pub collects-one : (old : Making) (w : Open) (ready : List Pair) (e2 u2 l : ℕ) (p : Pair) → old.pairing ≡ record w { pending = record { pair = p; is_open = false } ∷ w.pending }
    → e2 ≡ min (old.exchanges + 1) top → u2 ≡ min (old.unanswered + l) top → l ≡ (if is_some p.response then 0 else 1) → ready ≡ old.ready.items ++ p ∷ []
    → (first : JournalRows) (o : Open) (taken : List Pair) (gone : List Pending) (new : Making) → Keeps first o gone taken old
    → new.pairing ≡ w → new.ready.items ≡ ready → new.exchanges ≡ e2 → new.unanswered ≡ u2 → new.number ≡ old.number → new.begun ≡ old.begun → new.most ≡ old.most → KeepsSome first o taken new
collects-one old w ready e2 u2 l p is e-is u-is l-is ready-is first o taken gone new k p-new r-new e-new u-new n-new b-new l-new =
    let q : Pending = record { pair = p; is_open = false } in
    let same : gone ++ old.pairing.pending ≡ (gone ++ q ∷ []) ++ w.pending = ap (λ (v : Open). gone ++ v.pending) is ∙ sym (append_assoc gone (q ∷ []) w.pending) in
    let pairs : map pair_of (gone ++ q ∷ []) ≡ map pair_of gone ++ p ∷ [] = map-append gone (q ∷ []) in
    let size : length (gone ++ q ∷ []) ≡ length gone + 1 = length-append gone (q ∷ []) in
    let all = length-append gone old.pairing.pending in
    let less = shorter old.pairing w p is in
    let waiting : length (gone ++ old.pairing.pending) ≡ length o.pending = ap length k.waits.pending in
    let asked = k.asked in
    let few = k.few in
    let more : answered (map pair_of (gone ++ q ∷ [])) ≡ answered (map pair_of gone) + ((if is_some p.response then 1 else 0) + 0) = ap answered pairs ∙ answered-append (map pair_of gone) (p ∷ []) in
    let limit = most-small first in
    let below : length gone < 4294967295 = omega (arith, all, less, waiting, asked, few, limit) in
    let (e-count, u-count) = counted (is_some p.response) old.exchanges old.unanswered e2 u2 l (answered (map pair_of gone)) (answered (map pair_of (gone ++ q ∷ []))) (length gone)
    (length (gone ++ q ∷ [])) e-is u-is l-is more size k.exchanges k.unanswered below in (
      gone ++ q ∷ [],
      record {
        closed = closed-both gone (q ∷ []) k.closed (refl, tt);
        waits = record {
          asked = ap (λ (v : Open). v.asked) p-new ∙ sym (ap (λ (v : Open). v.asked) is) ∙ k.waits.asked;
          pending = ap (λ (v : Open). (gone ++ q ∷ []) ++ v.pending) p-new ∙ sym same ∙ k.waits.pending;
          clients = λ d. subst (λ (v : Open). client_of v.clients d ≡ client_of o.clients d) (sym p-new)
              (subst (λ (v : Open). client_of v.clients d ≡ client_of o.clients d) is (k.waits.clients d));
          unasked = ap (λ (v : Open). v.unasked) p-new ∙ sym (ap (λ (v : Open). v.unasked) is) ∙ k.waits.unasked;
          mismatched = ap (λ (v : Open). v.mismatched) p-new ∙ sym (ap (λ (v : Open). v.mismatched) is) ∙ k.waits.mismatched;
        };
        whole = pairs ∙ ap (λ (ps : List Pair). ps ++ p ∷ []) k.whole ∙ append_assoc taken old.ready.items (p ∷ []) ∙ ap (λ (ps : List Pair). taken ++ ps) (sym (r-new ∙ ready-is));
        asked = k.asked;
        few = k.few;
        limit = l-new ∙ k.limit;
        number = n-new ∙ k.number;
        begun = λ e. k.begun (sym b-new ∙ e);
        exchanges = e-new ∙ e-count;
        unanswered = ap (λ (u : ℕ). u + answered (map pair_of (gone ++ q ∷ []))) u-new ∙ u-count;
      },
    )

pub collects-none : (old : Making) → Collects old old
collects-none old = (refl, λ first o taken k. k)

pub collects-both : (old mid new : Making) → Collects old mid → Collects mid new → Collects old new
collects-both old mid new (a, f) (b, g) = (b ∙ a, λ first o taken k. g first o taken (f first o taken k))

-- none waits
pub none-begins : (ps : List Pending) → length ps ≡ 0 → begins_open ps ≡ true
none-begins [] none = refl
none-begins (p ∷ ps) none = absurd (omega arith)

-- THE END

same-pairs : (c : Bool) (d : List ℕ) (ps : List Pending) → map pair_of (map (closed_of c d) ps) ≡ map pair_of ps
same-pairs c d [] = refl
same-pairs c d (p ∷ ps) = ap₂ (λ (q : Pair) (qs : List Pair). q ∷ qs) (by (c || bytes_eq d p.pair.connection)) (same-pairs c d ps)
  where
    by : (b : Bool) → (if b then record p { is_open = false } else p).pair ≡ p.pair
    by true = refl
    by false = refl

pub all-closed : (ps : List Pending) → AreClosed (map (closed_of true []) ps)
all-closed [] = tt
all-closed (p ∷ ps) = (refl, all-closed ps)

none-left : (ps : List Pending) → AreClosed ps → begins_open ps ≡ true → ps ≡ []
none-left [] all begins = refl
none-left (p ∷ ps) all begins = let bad : true ≡ false = sym begins ∙ all.0 in cc bad

keeps-closed : (first : JournalRows) (o : Open) (gone : List Pending) (taken : List Pair) (m : Making) (w : Open) → Keeps first o gone taken m → w ≡ record m.pairing { pending = map (closed_of true []) m.pairing.pending }
    → Keeps first (record o { pending = map (closed_of true []) o.pending }) gone taken (record m { pairing = w })
keeps-closed first o gone taken m w k is = record {
  closed = k.closed;
  waits = record {
    asked = ap (λ (v : Open). v.asked) is ∙ k.waits.asked;
    pending = ap (λ (v : Open). gone ++ v.pending) is ∙ sym (mapped-behind true [] gone m.pairing.pending k.closed) ∙ ap (map (closed_of true [])) k.waits.pending;
    clients = λ d. subst (λ (v : Open). client_of v.clients d ≡ client_of o.clients d) (sym is) (k.waits.clients d);
    unasked = ap (λ (v : Open). v.unasked) is ∙ k.waits.unasked;
    mismatched = ap (λ (v : Open). v.mismatched) is ∙ k.waits.mismatched;
  };
  whole = k.whole;
  asked = k.asked ∙ sym (length-map o.pending (closed_of true []));
  few = k.few;
  limit = k.limit;
  number = k.number;
  begun = k.begun;
  exchanges = k.exchanges;
  unanswered = k.unanswered;
}

same-sums : (a b c d e f g h : ℕ) → a ≡ e → b ≡ f → c ≡ g → d ≡ h
    → ◌≡◌ {A = Sums} (record { exchanges = a; unanswered = b; unasked = c; mismatched = d }) (record { exchanges = e; unanswered = f; unasked = g; mismatched = h })
same-sums a b c d e f g h x y z w = rw (x, y, z, w) refl

-- the journal is closed
pub closed-now : (first : JournalRows) (said : List Said) (taken : List Pair) (m : Making) (w : Open) (new : Making) → Stays first said taken m
    → w ≡ record m.pairing { pending = map (closed_of true []) m.pairing.pending } → Collects (record m { pairing = w }) new → begins_open new.pairing.pending ≡ true
    → (AreClosed w.pending → AreClosed new.pairing.pending) → Closes first said taken new
closed-now first said taken m w new (gone, k) is (begun, collects) begins all =
    let o = after start said in
    let shut : Open = record o { pending = map (closed_of true []) o.pending } in
    let shut-all : AreClosed w.pending = subst (λ (v : Open). AreClosed v.pending) (sym is) (all-closed m.pairing.pending) in
    let none : new.pairing.pending ≡ [] = none-left new.pairing.pending (all shut-all) begins in
    let (front, n) = collects first shut taken (gone, keeps-closed first o gone taken m w k is) in
    let rows : front ≡ map (closed_of true []) o.pending = sym (append-nil front) ∙ ap (λ (ps : List Pending). front ++ ps) (sym none) ∙ n.waits.pending in
    let pairs : map pair_of front ≡ pairs_of said = ap (map pair_of) rows ∙ same-pairs true [] o.pending in
    let exchanges = n.exchanges in
    let unanswered = n.unanswered in
    let size : length front ≡ length (pairs_of said) = sym (length-map front pair_of) ∙ ap length pairs in
    let some : answered (map pair_of front) ≡ answered (pairs_of said) = ap answered pairs in
    record {
      pairs = sym pairs ∙ n.whole;
      number = n.number;
      begun = n.begun;
      sums = same-sums new.exchanges new.unanswered new.pairing.unasked new.pairing.mismatched (sums_of said).exchanges (sums_of said).unanswered (sums_of said).unasked (sums_of said).mismatched
          (omega arith) (omega arith) n.waits.unasked n.waits.mismatched;
    }

-- SO FAR

-- how many requests were said
pub asked-now : (first : JournalRows) (said : List Said) (taken : List Pair) (m : Making) → Stays first said taken m → m.pairing.asked ≡ length (pairs_of said)
asked-now first said taken m (gone, k) = k.waits.asked ∙ k.asked ∙ sym (length-map (after start said).pending pair_of)

pub few-now : (first : JournalRows) (said : List Said) (taken : List Pair) (m : Making) → Stays first said taken m → length (pairs_of said) ≤ most_of first
few-now first said taken m (gone, k) =
    let size = length-map (after start said).pending pair_of in
    let asked = k.asked in
    let few = k.few in
    omega arith

-- all pairs so far: those that are whole, and those that wait
pub pairs-now : (first : JournalRows) (said : List Said) (taken : List Pair) (m : Making) → Stays first said taken m → pairs_of said ≡ (taken ++ m.ready.items) ++ map pair_of m.pairing.pending
pairs-now first said taken m (gone, k) =
    ap (map pair_of) (sym k.waits.pending) ∙ map-append gone m.pairing.pending ∙ ap (λ (ps : List Pair). ps ++ map pair_of m.pairing.pending) k.whole

pub number-now : (first : JournalRows) (said : List Said) (taken : List Pair) (m : Making) → Stays first said taken m → m.number ≡ first.number + length taken
number-now first said taken m (gone, k) = k.number

pub begun-now : (first : JournalRows) (said : List Said) (taken : List Pair) (m : Making) → Stays first said taken m → m.begun ≡ false → taken ≡ []
begun-now first said taken m (gone, k) = k.begun

-- before the first message
pub keeps-none : (first : JournalRows) (m : Making) → m.pairing ≡ start → m.ready.items ≡ [] → m.number ≡ first.number → m.most ≡ most_of first → m.exchanges ≡ 0 → m.unanswered ≡ 0 → Stays first [] [] m
keeps-none first m is none number limit e u = (
  [],
  record {
    closed = tt;
    waits = subst (λ (o : Open). Becomes o start) (sym is) (record { asked = refl; pending = refl; clients = λ d. refl; unasked = refl; mismatched = refl });
    whole = sym none;
    asked = refl;
    few = omega arith;
    limit = limit;
    number = omega arith;
    begun = λ _. refl;
    exchanges = e;
    unanswered = omega arith;
  },
)

pub becomes-equal : (new o : Open) → new ≡ o → Becomes new o
becomes-equal new o is = rw is (record { asked = refl; pending = refl; clients = λ d. refl; unasked = refl; mismatched = refl })

pub limit-now : (first : JournalRows) (said : List Said) (taken : List Pair) (m : Making) → Stays first said taken m → m.most ≡ most_of first
limit-now first said taken m (gone, k) = k.limit
