-- Keys of lines that are put after those of others.
use Rattle.std.proofs.Common.{◌≡◌, ◌∙◌, ◌+◌, ◌≤◌, ◌<◌, ℕ, zero, suc, List, [], ◌∷◌, ◌++◌, length, map, take, drop, Option, Some, None, refl, ap, ap₂, arith}
use Rattle.std.specs.Prelude.{slice_get, unwrap_or}
use Rattle.std.specs.List.{AllByRecursion}
use Rattle.std.proofs.lemmas.List.{drop-append-le, length-append, length-drop, take-append-le, take_all}
use Rattle.std.proofs.Math.Seq.{drop-append_seam}
use Rattle.std.proofs.lemmas.Option.{slice_get-map, slice_get_past}
use Rattle.circ_records.specs.declared.key.Key.{Key}
use Rattle.replay_run.specs.Devices.Spans.{IsWithin, keys_in}
use Rattle.replay_run.specs.declared.written.Span.{Span}

-- what is within stays there
within-more : (keys more : List Key) (s : Span) → IsWithin keys s → IsWithin (keys ++ more) s
within-more keys more s is = let n = length-append keys more in omega (arith, is, n)

pub all-within : (keys more : List Key) (spans : List Span) → AllByRecursion (IsWithin keys) spans
    → AllByRecursion (IsWithin (keys ++ more)) spans
all-within keys more [] all = tt
all-within keys more (s ∷ spans) all = (within-more keys more s all.0, all-within keys more spans all.1)

one-same : (keys more : List Key) (s : Span) → IsWithin keys s → keys_in (keys ++ more) s ≡ keys_in keys s
one-same keys more s is =
    let rest = length-drop s.from keys in
    ap (take s.count) (drop-append-le s.from keys more (omega (arith, is)))
    ∙ take-append-le s.count (drop s.from keys) more (omega (arith, is, rest))

pub all-same : (keys more : List Key) (spans : List Span) → AllByRecursion (IsWithin keys) spans
    → map (keys_in (keys ++ more)) spans ≡ map (keys_in keys) spans
all-same keys more [] all = refl
all-same keys more (s ∷ spans) all =
    ap₂ (λ (k : List Key) (ks : List (List Key)). k ∷ ks) (one-same keys more s all.0) (all-same keys more spans all.1)

-- the keys that were put last
pub last-keys : (keys more : List Key) (s : Span) → s.from ≡ length keys → s.count ≡ length more
    → keys_in (keys ++ more) s ≡ more
last-keys keys more s from count =
    ap₂ (λ n f. take n (drop f (keys ++ more))) count from
    ∙ ap (take (length more)) (drop-append_seam keys more)
    ∙ take_all (length more) more (omega arith)

-- those of a line more
pub added : (keys more : List Key) (spans : List Span) (s : Span)
    → AllByRecursion (IsWithin keys) spans → s.from ≡ length keys → s.count ≡ length more
    → map (keys_in (keys ++ more)) (spans ++ s ∷ []) ≡ map (keys_in keys) spans ++ more ∷ []
added keys more [] s all from count = ap (λ (ks : List Key). ks ∷ []) (last-keys keys more s from count)
added keys more (x ∷ spans) s all from count = ap₂ (λ (k : List Key) (ks : List (List Key)). k ∷ ks) (one-same keys more x all.0) (added keys more spans s all.1 from count)

-- the span at a place
pub span-within : (keys : List Key) (spans : List Span) (place : ℕ) (s : Span)
    → AllByRecursion (IsWithin keys) spans → Some s ≡ slice_get spans place → IsWithin keys s
span-within keys [] place s all at = cc at
span-within keys (x ∷ spans) zero s all at = let same : s ≡ x = cc at in rw same all.0
span-within keys (x ∷ spans) (suc place) s all at = span-within keys spans place s all.1 at

pub keys-there : (keys : List Key) (spans : List Span) (place : ℕ) (s : Span)
    → Some s ≡ slice_get spans place → unwrap_or (slice_get (map (keys_in keys) spans) place) []
    ≡ keys_in keys s
keys-there keys spans place s at = ap (λ (o : Option (List Key)). unwrap_or o []) (slice_get-map (keys_in keys) spans place) ∙ rw (← at) refl

pub no-keys : (keys : List Key) (spans : List Span) (place : ℕ) → None ≡ slice_get spans place
    → unwrap_or (slice_get (map (keys_in keys) spans) place) [] ≡ []
no-keys keys spans place at = ap (λ (o : Option (List Key)). unwrap_or o []) (slice_get-map (keys_in keys) spans place) ∙ rw (← at) refl

module _ {X : Type 0} where
  get-taken : (n i : ℕ) (xs : List X) → i < n → slice_get (take n xs) i ≡ slice_get xs i
  get-taken zero i xs lt = absurd (omega (arith, lt))
  get-taken (suc n) i [] lt = refl
  get-taken (suc n) zero (x ∷ xs) lt = refl
  get-taken (suc n) (suc i) (x ∷ xs) lt = get-taken n i xs (omega (arith, lt))

  get-dropped : (from i : ℕ) (xs : List X) → slice_get (drop from xs) i ≡ slice_get xs (from + i)
  get-dropped zero i xs = let at : 0 + i ≡ i = omega arith in rw at refl
  get-dropped (suc from) i [] = refl
  get-dropped (suc from) i (x ∷ xs) =
      let at : suc from + i ≡ suc (from + i) = omega arith in rw at (get-dropped from i xs)

pub key-there : (keys : List Key) (s : Span) (i : ℕ) → i < s.count
    → slice_get (keys_in keys s) i ≡ slice_get keys (s.from + i)
key-there keys s i lt = get-taken s.count i (drop s.from keys) lt ∙ get-dropped s.from i keys

pub few-keys : (keys : List Key) (s : Span) → length (keys_in keys s) ≤ s.count
few-keys keys s = few s.count (drop s.from keys)
  where
    few : (n : ℕ) (xs : List Key) → length (take n xs) ≤ n
    few zero xs = omega arith
    few (suc n) [] = omega arith
    few (suc n) (x ∷ xs) = let h = few n xs in omega (arith, h)

pub past-keys : (keys : List Key) (s : Span) (i : ℕ) → s.count ≤ i → slice_get (keys_in keys s) i ≡ None
past-keys keys s i past = let few = few-keys keys s in slice_get_past (keys_in keys s) i (omega (arith, past, few))
