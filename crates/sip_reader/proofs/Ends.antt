-- The bytes at the front, and those at the end written over them.
use Rattle.std.proofs.Common.{◌≡◌, ◌≤◌, ◌+◌, ◌-◌, ◌++◌, ℕ, List, length, take, drop, replicate, refl, sym, ap, ◌∙◌, append_assoc, arith}
use borrow.Rule.Slice.PartMut.{put_mid}
use Rattle.std.proofs.lemmas.List.{drop-drop, drop-replicate, drop_at, length-take-le, take-append-drop, take-append-le, take-take}

front_more : (xs zs : List ℕ) (n end : ℕ) → n - end ≤ end → end ≤ n → length xs ≡ n
    → take (n - end) (take end xs ++ zs) ≡ take (n - end) xs
front_more xs zs n end few within long =
    take-append-le (n - end) (take end xs) zs (omega (arith, length-take-le end xs (omega arith))) ∙ take-take (n - end) end xs few

past_front : (front zs : List ℕ) (n end : ℕ) → length front ≡ end → end ≤ n → drop n (front ++ zs) ≡ drop (n - end) zs
past_front front zs n end long within =
    let more : end + (n - end) ≡ n = omega arith in
    ap (λ k. drop k (front ++ zs)) (sym more) ∙ sym (drop-drop (n - end) end (front ++ zs)) ∙ ap (drop (n - end)) (drop_at front zs end long)

zeros_after : (xs : List ℕ) (n end max : ℕ) → end ≤ n → n ≤ max → length xs ≡ n
    → drop n (take end xs ++ replicate (max - end) 0) ≡ replicate (max - n) 0
zeros_after xs n end max within fits long =
    let left : max - end - (n - end) ≡ max - n = omega arith in
    past_front (take end xs) (replicate (max - end) 0) n end (length-take-le end xs (omega arith)) within ∙ drop-replicate (n - end) (max - end) 0 ∙ ap (λ k. replicate k 0) left

pub ends_are_all : (xs : List ℕ) (n end max : ℕ) → length xs ≡ n → end ≤ n → n ≤ end + end → n ≤ max
    → take (n - end) (take end xs ++ replicate (max - end) 0)
    ++ (drop (n - end) xs ++ drop n (take end xs ++ replicate (max - end) 0))
    ≡ xs ++ replicate (max - n) 0
ends_are_all xs n end max long within all fits =
    rw (front_more xs (replicate (max - end) 0) n end (omega arith) within long, zeros_after xs n end max within fits long)
    (sym (append_assoc (take (n - end) xs) (drop (n - end) xs) (replicate (max - n) 0)) ∙ ap (λ r. r ++ replicate (max - n) 0) (take-append-drop (n - end) xs))

-- as the two copies leave them
pub ends_placed : (xs one two zeros : List ℕ) (end max : ℕ) → end ≤ length xs → length xs ≤ end + end → length xs ≤ max
    → one ≡ take end xs → two ≡ drop (length xs - end) xs → zeros ≡ replicate (max - end) 0
    → put_mid (length xs - end) (length xs - (length xs - end)) (one ++ zeros) two ≡ xs ++ replicate (max - length xs) 0
ends_placed xs one two zeros end max within all fits first last rest =
    let n = length xs in
    let whole : length xs - end + (length xs - (length xs - end)) ≡ length xs = omega arith in
    rw (first, last, rest) (
    ap (λ r. take (n - end) (take end xs ++ replicate (max - end) 0) ++ (drop (n - end) xs ++ r))
    (drop-drop (n - (n - end)) (n - end) (take end xs ++ replicate (max - end) 0) ∙ ap (λ k. drop k (take end xs ++ replicate (max - end) 0)) whole)
    ∙ ends_are_all xs n end max refl within all fits
    )
