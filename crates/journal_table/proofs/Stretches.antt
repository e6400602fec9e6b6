-- Stretches of readings: the i-th of all readings is in one of them.
use Rattle.std.proofs.Common.{◌≡◌, ◌+◌, ◌*◌, ◌<◌, ◌≤◌, ℕ, zero, suc, List, [], ◌∷◌, ◌++◌, length, map, take, drop, Option, Some, None, min, append_assoc, refl, sym, ap, ◌∙◌, arith, inl, inr}
use Rattle.std.specs.Prelude.{flat_map, option_copied, slice_get, Vec}
use Rattle.std.specs.Borrow.{Bor}
use Rattle.std.specs.Option.{option_map}
use Rattle.std.specs.Slice.{IsItemAt}
use Rattle.std.proofs.lemmas.List.{append-nil, length-drop, length-take, length-map, map-append}
use Rattle.std.proofs.lemmas.Option.{slice_get-map, slice_get_past, slice_get_read}
use Rattle.std.proofs.lemmas.Bool.{cases_lt}
use Rattle.rayon.specs.Lists.{chunks_from, chunks_of}
use Rattle.rayon.proofs.Chunks.{chunks-head}
use Rattle.rayon.proofs.ToStd.{chunks_of-concat}
use Rattle.sip_reader.specs.declared.request.Reading.{Reading}
use Rattle.sip_reader.specs.Reading.{reading}
use Rattle.journal_table.specs.Entry.{Entry}
use Rattle.journal_table.specs.Readings.{numbered_from, reading_at, requests_read}
use Rattle.journal_table.specs.Stretches.{AreFull, joined, stretches_of}
use Rattle.journal_table.proofs.Rising.{numbered-readings}

module _ {X : Type 0} where
  get-left : (xs ys : List X) (i : ℕ) → i < length xs → slice_get (xs ++ ys) i ≡ slice_get xs i
  get-left [] ys i h = absurd (omega arith)
  get-left (x ∷ xs) ys zero h = refl
  get-left (x ∷ xs) ys (suc i) h = get-left xs ys i (omega arith)

  get-right : (xs ys : List X) (i : ℕ) → slice_get (xs ++ ys) (length xs + i) ≡ slice_get ys i
  get-right [] ys i = let at : 0 + i ≡ i = omega arith in rw at refl
  get-right (x ∷ xs) ys i =
      let at : suc (length xs) + i ≡ suc (length xs + i) = omega arith in
      rw at (get-right xs ys i)

  -- the element at a place of a stretch, where there is that stretch
  abbrev pub get_within : Option (List X) → ℕ → Option X
  get_within None r = None
  get_within (Some s) r = slice_get s r

  empty-of : (ss : List (List X)) → (0 < length ss → ⊥) → ss ≡ []
  empty-of [] h = refl
  empty-of (s ∷ ss) h = absurd (h (omega arith))

  pub located : (size : ℕ) (ss : List (List X)) → AreFull size ss → (q r : ℕ) → r < size
      → slice_get (flat_map (λ s. s) ss) (q * size + r) ≡ get_within (slice_get ss q) r
  located size [] full q r h = refl
  located size (s ∷ ss) full zero r h = elim (cases_lt r (length s)) [
    | inl within ↦ rw (first r) (get-left s (flat_map (λ t. t) ss) r within)
    | inr past ↦
        let last : ss ≡ [] = empty-of ss (λ more. let long = full.1 more in omega arith) in
        rw (first r, last, append-nil s) refl
  ]
    where
      first : (r : ℕ) → zero * size + r ≡ r
      first r = omega arith
  located size (s ∷ ss) full (suc q) r h = elim (cases_lt 0 (length ss)) [
    | inl more ↦
        let long : length s ≡ size = full.1 more in
        let at : suc q * size + r ≡ length s + (q * size + r) = rw long (omega arith) in
        rw at (get-right s (flat_map (λ t. t) ss) (q * size + r) ∙ located size ss full.2 q r h)
    | inr none ↦
        let last : ss ≡ [] = empty-of ss (λ more. omega arith) in
        let short = full.0 in
        rw (last, append-nil s) (slice_get_past s (suc q * size + r) (omega arith))
  ]

-- what a call of `get` lends
pub lent : {X : Type 0} (xs : List X) (i : ℕ) (r : Option (Bor X)) → IsItemAt xs i r → option_copied r ≡ slice_get xs i
lent xs i None h = sym (slice_get_past xs i h.3)
lent xs i (Some x) h = sym (slice_get_read xs (length xs) i x.now refl h.3.0 h.1)

-- the readings of stretches, with numbers, and the one at a place
module _ {A : Type 0} (first : ℕ) (stretches : List (Vec Reading A)) where
  by_place : (size q r place : ℕ) → AreFull size (stretches_of stretches) → r < size → place ≡ q * size + r
      → slice_get (map reading_at (numbered_from first (joined (stretches_of stretches)))) place
      ≡ get_within (option_map (λ s. s.items) (slice_get stretches q)) r
  by_place size q r place full h e =
      rw (← numbered-readings first (joined (stretches_of stretches)), e)
      (located size (stretches_of stretches) full q r h ∙ ap (λ s. get_within s r) (slice_get-map (λ s. s.items) stretches q))

  pub missing : (size q r place : ℕ) → AreFull size (stretches_of stretches) → r < size
      → place ≡ q * size + r → None ≡ slice_get stretches q
      → None ≡ slice_get (map reading_at (numbered_from first (joined (stretches_of stretches)))) place
  missing size q r place full h e none = sym (by_place size q r place full h e ∙ rw (← none) refl)

  pub found : (size q r place : ℕ) (s : Vec Reading A) → AreFull size (stretches_of stretches)
      → r < size → place ≡ q * size + r → Some s ≡ slice_get stretches q
      → slice_get s.items r ≡ slice_get (map reading_at (numbered_from first (joined (stretches_of stretches)))) place
  found size q r place s full h e some = sym (by_place size q r place full h e ∙ rw (← some) refl)

-- chunks of lines, each read separately, are the readings in stretches
module _ {X Y : Type 0} (f : X → Y) (size : ℕ) (pos : 0 < size) where
  full-from : (n : ℕ) (xs : List X) → length xs ≤ n → AreFull size (map (map f) (chunks_from n size xs))
  full-from zero xs h = tt
  full-from (suc n) [] h = tt
  full-from (suc n) (x ∷ xs) h =
      let short = length-take size (x ∷ xs) in
      let same = length-map (take size (x ∷ xs)) f in
      let behind = length-drop size (x ∷ xs) in (
        omega arith,
        λ more. elim (cases_lt (length (x ∷ xs)) size) [
          | inl less ↦ absurd (none n (drop size (x ∷ xs)) (omega arith) more)
          | inr enough ↦ omega arith
        ],
        full-from n (drop size (x ∷ xs)) (omega arith),
      )
    where
      none : (n : ℕ) (ys : List X) → length ys ≡ 0 → 0 < length (map (map f) (chunks_from n size ys)) → ⊥
      none zero ys e more = omega arith
      none (suc n) [] e more = omega arith
      none (suc n) (y ∷ ys) e more = omega arith

  pub chunks-full : (xs : List X) → AreFull size (map (map f) (chunks_of size xs))
  chunks-full xs = full-from (length xs) xs (omega arith)

  pub chunks-whole : (xs : List X) → flat_map (λ s. s) (map (map f) (chunks_of size xs)) ≡ map f xs
  chunks-whole xs = map-joined (chunks_of size xs) ∙ ap (map f) (chunks_of-concat size xs pos)
    where
      map-joined : (ss : List (List X)) → flat_map (λ s. s) (map (map f) ss) ≡ map f (flat_map (λ s. s) ss)
      map-joined [] = refl
      map-joined (s ∷ ss) = ap (λ rest. map f s ++ rest) (map-joined ss) ∙ sym (map-append f s (flat_map (λ t. t) ss))

pub kept : {A : Type 0} (size : ℕ) (lines : List Entry) (stretches : List (Vec Reading A))
    → 0 < size → stretches_of stretches ≡ map requests_read (chunks_of size lines)
    → (joined (stretches_of stretches) ≡ requests_read lines) × AreFull size (stretches_of stretches)
kept size lines stretches pos same = rw same (chunks-whole (λ (line : Entry). reading line.request) size pos lines, chunks-full (λ (line : Entry). reading line.request) size pos lines)

-- a stretch more
pub goes_on : {A : Type 0} (size n : ℕ) (lines rest : List Entry) (stretches : List (Vec Reading A))
    (s : Vec Reading A) → 0 < size → 0 < length rest → n ≡ min (length rest) size
    → s.items ≡ requests_read (take n rest)
    → stretches_of stretches ++ map requests_read (chunks_of size rest) ≡ map requests_read (chunks_of size lines)
    → stretches_of (stretches ++ s ∷ []) ++ map requests_read (chunks_of size (drop n rest))
    ≡ map requests_read (chunks_of size lines)
goes_on size n lines rest stretches s pos some e read so_far =
    let head = chunks-head size pos rest some n (omega arith) in
    let more : stretches_of (stretches ++ s ∷ []) ≡ stretches_of stretches ++ s.items ∷ [] = map-append (λ (v : Vec Reading _). v.items) stretches (s ∷ []) in
    rw (more, read) (append_assoc (stretches_of stretches) (requests_read (take n rest) ∷ []) (map requests_read (chunks_of size (drop n rest))) ∙ rw head at so_far)

-- no line is left
pub is_done : {A : Type 0} (size : ℕ) (lines rest : List Entry) (stretches : List (Vec Reading A))
    → 0 < size → length rest ≡ 0
    → stretches_of stretches ++ map requests_read (chunks_of size rest) ≡ map requests_read (chunks_of size lines)
    → (joined (stretches_of stretches) ≡ requests_read lines) × AreFull size (stretches_of stretches)
is_done size lines [] stretches pos none so_far =
    kept size lines stretches pos (sym (append-nil (stretches_of stretches)) ∙ so_far)
is_done size lines (line ∷ rest) stretches pos none so_far = absurd (omega arith)
