-- The end of what is written: error detection is removed, and nothing else.
use Rattle.std.proofs.Common.{◌≡◌, ℕ, ◌+◌, ◌-◌, ◌/◌, ◌%◌, ◌≤◌, ◌<◌, Bool, true, false, ◌&&◌, leb, ltb, List, [], ◌∷◌, ◌++◌, length, take, drop, Option, Some, None, cond, refl, sym, append_assoc, arith}
use Rattle.std.specs.Prelude.{IfSome}
use Rattle.std.specs.Char.{is_ascii_digit, is_ascii_hexdigit}
use Rattle.std.specs.List.{list_all, suffix_len}
use Rattle.std.proofs.lemmas.Bool.{leb-true, le-leb, ltb-true, ltb-false}
use Rattle.std.proofs.lemmas.List.{reverse-append, drop-append-le, length-append, length-drop}
use Rattle.std.proofs.lemmas.List.Folds.{list_all-append}
use Rattle.std.proofs.Math.Bool.{and-false}
use Rattle.std.proofs.Math.Seq.{drop-append_seam, take-append_seam, take-length}
use Rattle.std.proofs.lemmas.Grind.{common_steps}
use Rattle.sip_reader.specs.Reading.{trimmed}
use Rattle.sip_reader.specs.Sum.{body, checksum, has_trailer, is_frame, is_trailer, last_nine}
use Rattle.sip_reader.specs.Texts.{is_line_end}
use Rattle.sip_answer.specs.Parts.{detection, hex_digit, hex_digits, with_sequence}

-- a text that ends in this byte
pub record EndsIn (y : ℕ) (t : List ℕ) : Type 0 where
  pub front : List ℕ
  pub is : t ≡ front ++ y ∷ []

less_none : (n : ℕ) → n - 0 ≡ n
less_none n = omega arith

-- no CR or LF is removed
pub untrimmed : (y : ℕ) (t : List ℕ) → EndsIn y t → is_line_end y ≡ false → trimmed t ≡ t
unfolding trimmed
untrimmed y t end other = rw (end.is) (same end.front)
  where
    none : (u : List ℕ) → suffix_len is_line_end (u ++ y ∷ []) ≡ 0
    none u = rw (reverse-append u (y ∷ []), other) refl

    same : (u : List ℕ) → take (length (u ++ y ∷ []) - suffix_len is_line_end (u ++ y ∷ [])) (u ++ y ∷ []) ≡ u ++ y ∷ []
    same u = rw (none u, less_none (length (u ++ y ∷ []))) (take-length (u ++ y ∷ []))

-- what doesn't end in a hexadecimal digit has no error detection
last_of_all : (xs : List ℕ) (y : ℕ) → is_ascii_hexdigit y ≡ false → list_all is_ascii_hexdigit (xs ++ y ∷ []) ≡ false
last_of_all xs y other =
    rw (list_all-append is_ascii_hexdigit xs (y ∷ []), other) (and-false (list_all is_ascii_hexdigit xs))

no_trailer : (u : List ℕ) (y : ℕ) → is_ascii_hexdigit y ≡ false → 9 ≤ length (u ++ y ∷ [])
    → is_trailer (last_nine (u ++ y ∷ [])) ≡ false
unfolding is_trailer
no_trailer u y other long =
    let one : length (u ++ y ∷ []) ≡ length u + 1 = length-append u (y ∷ []) in
    let front : length (u ++ y ∷ []) - 9 ≤ length u = omega arith in
    let cut = drop (length (u ++ y ∷ []) - 9) u in
    let back : 5 ≤ length cut = simp length-drop (omega arith) in
    rw (drop-append-le (length (u ++ y ∷ []) - 9) u (y ∷ []) front, drop-append-le 5 cut (y ∷ []) back, last_of_all (drop 5 cut) y other)
    (and-false (is_frame (cut ++ y ∷ [])))

pub unframed : (y : ℕ) (t : List ℕ) → EndsIn y t → is_ascii_hexdigit y ≡ false → body t ≡ t
unfolding body has_trailer
unframed y t end other =
    rw (end.is) (by (end.front ++ y ∷ []) (leb 9 (length (end.front ++ y ∷ []))) refl (no_trailer end.front y other))
  where
    by : (m : List ℕ) (b : Bool) → leb 9 (length m) ≡ b
        → (9 ≤ length m → is_trailer (last_nine m) ≡ false)
        → cond (leb 9 (length m) && is_trailer (last_nine m)) (take (length m - 9) m) m ≡ m
    by m true e none = rw (e, none (leb-true 9 (length m) e)) refl
    by m false e none = rw e refl

-- a hexadecimal digit as it is written
hex_fits : (n : ℕ) → n < 16 → (is_ascii_hexdigit (hex_digit n) ≡ true) × (is_line_end (hex_digit n) ≡ false)
hex_fits n small = by (ltb n 10) refl
  where
    by : (b : Bool) → ltb n 10 ≡ b → (is_ascii_hexdigit (hex_digit n) ≡ true) × (is_line_end (hex_digit n) ≡ false)
    by true e = let low = ltb-true n 10 e in rw e (grind (arith, common_steps), grind (arith, common_steps))
    by false e = let high = ltb-false n 10 e in rw e (grind (arith, common_steps), grind (arith, common_steps))

nine : ℕ → ℕ → List ℕ
nine s v = 65 ∷ 89 ∷ s ∷ 65 ∷ 90 ∷ hex_digits v

summed_is : (t : List ℕ) (s : ℕ) → with_sequence t (Some s) ≡ t ++ nine s (checksum (t ++ detection s))
unfolding nine
summed_is t s = append_assoc t (detection s) (hex_digits (checksum (t ++ detection s)))

nine_fits : (s v : ℕ) → is_ascii_digit s ≡ true → v < 65536 → is_trailer (nine s v) ≡ true
unfolding nine is_trailer hex_digits
nine_fits s v digit small =
    rw (digit, (hex_fits (v / 4096) (omega arith)).0, (hex_fits (v / 256 % 16) (omega arith)).0, (hex_fits (v / 16 % 16) (omega arith)).0, (hex_fits (v % 16) (omega arith)).0) refl

-- error detection as it is written is removed
framed : (t : List ℕ) (s v : ℕ) → is_ascii_digit s ≡ true → v < 65536 → body (t ++ nine s v) ≡ t
unfolding body has_trailer nine hex_digits
framed t s v digit small =
    let n : List ℕ = 65 ∷ 89 ∷ s ∷ 65 ∷ 90 ∷ hex_digits v in
    let more : length (t ++ n) ≡ length t + 9 = length-append t n in
    let long : leb 9 (length (t ++ n)) ≡ true = le-leb 9 (length (t ++ n)) (omega arith) in
    let cut : length (t ++ n) - 9 ≡ length t = omega arith in
    rw (long, cut, drop-append_seam t n, nine_fits s v digit small) (take-append_seam t n)

nine_ends : (t : List ℕ) (s v : ℕ) → EndsIn (hex_digit (v % 16)) (t ++ nine s v)
unfolding nine hex_digits
nine_ends t s v =
    let eight : List ℕ = 65 ∷ 89 ∷ s ∷ 65 ∷ 90 ∷ hex_digit (v / 4096) ∷ hex_digit (v / 256 % 16) ∷ hex_digit (v / 16 % 16) ∷ [] in
    record { front = t ++ eight; is = sym (append_assoc t eight (hex_digit (v % 16) ∷ [])) }

nine_length : (t : List ℕ) (s v : ℕ) → length (t ++ nine s v) ≡ length t + 9
unfolding nine hex_digits
nine_length t s v = length-append t (nine s v)

-- what is written with a sequence digit or without one, of a text that ends in a bar
pub record Framed (t written : List ℕ) : Type 0 where
  pub whole : trimmed written ≡ written
  pub read : body written ≡ t
  pub long : length t ≤ length written

pub unframed_again : (t : List ℕ) (sequence : Option ℕ) → EndsIn 124 t
    → IfSome sequence (λ s. is_ascii_digit s ≡ true) → Framed t (with_sequence t sequence)
unframed_again t None end digit =
    record { whole = untrimmed 124 t end refl; read = unframed 124 t end refl; long = omega arith }
unframed_again t (Some s) end digit =
    let v = checksum (t ++ detection s) in
    let small : v < 65536 = omega arith in
    rw (summed_is t s) (record {
      whole = untrimmed (hex_digit (v % 16)) (t ++ nine s v) (nine_ends t s v) (hex_fits (v % 16) (omega arith)).1;
      read = framed t s v digit small;
      long = omega (arith, nine_length t s v);
    })
