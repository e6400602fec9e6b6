-- The first eight bytes of padded ones.
use Rattle.std.proofs.Common.{◌≡◌, ◌≤◌, ◌+◌, ◌-◌, ◌++◌, ◌∙◌, ℕ, zero, suc, List, [], ◌∷◌, length, take, drop, replicate, refl, ap, sym, arith, length-drop}
use Rattle.std.proofs.lemmas.List.{take-append-drop, take-append-le, drop-append-le}
use Rattle.std.specs.Slice.Scan.{big_endian}
use Rattle.sip_reader.specs.Devices.Hashes.{eight, id_hash, mixed}
use Rattle.sip_reader.specs.Devices.Padding.{IsPadded, front_length}

-- how many zeros there are doesn't count, where they suffice
enough : (n : ℕ) (xs : List ℕ) (a b : ℕ) → n ≤ length xs + a → n ≤ length xs + b
    → take n (xs ++ replicate a 0) ≡ take n (xs ++ replicate b 0)
enough zero xs a b g h = refl
enough (suc n) (x ∷ xs) a b g h = ap (λ (t : List ℕ). x ∷ t) (enough n xs a b (omega arith) (omega arith))
enough (suc n) [] zero b g h = absurd (omega arith)
enough (suc n) [] (suc a) zero g h = absurd (omega arith)
enough (suc n) [] (suc a) (suc b) g h = ap (λ (t : List ℕ). 0 ∷ t) (enough n [] a b (omega arith) (omega arith))

eight_at : (max len last : ℕ) (bytes : List ℕ) → IsPadded max len bytes → last ≤ len → last + 8 ≤ max
    → big_endian 0 (take 8 (drop last bytes)) ≡ eight (drop last (take len bytes))
eight_at max len last bytes h within room =
    let front = take len bytes in
    let size : length front ≡ len = front_length max len bytes h in
    let whole : bytes ≡ front ++ replicate (max - len) 0 = sym (take-append-drop len bytes) ∙ ap (λ t. front ++ t) h.rest in
    let left = length-drop last front in
    ap (λ t. big_endian 0 (take 8 (drop last t))) whole
    ∙ ap (λ t. big_endian 0 (take 8 t)) (drop-append-le last front (replicate (max - len) 0) (omega arith))
    ∙ ap (big_endian 0) (enough 8 (drop last front) (max - len) 8 (omega (arith, h.within)) (omega arith))

pub hashed : (len : ℕ) (bytes : List ℕ) → IsPadded 14 len bytes
    → mixed (big_endian 0 (take 8 bytes)) (big_endian 0 (take 8 (drop (len - 8) bytes)))
    ≡ id_hash (take len bytes)
unfolding id_hash
hashed len bytes h =
    rw (front_length 14 len bytes h, eight_at 14 len 0 bytes h (omega arith) (omega arith), eight_at 14 len (len - 8) bytes h (omega arith) (omega (arith, h.within))) refl

pub hashed_whole : (bytes : List ℕ) → 8 ≤ length bytes
    → mixed (big_endian 0 (take 8 bytes)) (big_endian 0 (take 8 (drop (length bytes - 8) bytes)))
    ≡ id_hash bytes
unfolding id_hash
hashed_whole bytes h =
    rw (take-append-le 8 bytes (replicate 8 0) h, take-append-le 8 (drop (length bytes - 8) bytes) (replicate 8 0) (omega (arith, length-drop (length bytes - 8) bytes))) refl
