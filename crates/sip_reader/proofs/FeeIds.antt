-- The id of a made fee is an id.
use Rattle.std.proofs.Common.{◌≡◌, ◌≤◌, ◌<◌, ◌^◌, ℕ, Bool, true, false, ◌&&◌, not, eqb, leb, List, [], ◌∷◌, ◌++◌, length, refl, arith}
use Rattle.std.specs.Prelude.{decimal, codes}
use Rattle.std.specs.Char.{digit_value}
use Rattle.std.specs.List.{list_any}
use Rattle.std.specs.Str.Parse.{AllDigits}
use Rattle.std.proofs.lemmas.Bool.{and_from, or_from, eqb-true, le-leb, not_from_false}
use Rattle.std.proofs.lemmas.Fmt.{decimal_is_IsNumeral, length-decimal-le}
use Rattle.std.proofs.lemmas.List.{length-append}
use Rattle.std.proofs.lemmas.List.Folds.{list_any-append}
use Rattle.sip_reader.specs.Texts.{fee_id, is_barred, is_id, is_line_end}

other : (c x : ℕ) → digit_value c < 10 → 10 ≤ digit_value x → eqb c x ≡ false
other c x small big = by (eqb c x) refl
  where
    by : (b : Bool) → eqb c x ≡ b → b ≡ false
    by true e = let same : c ≡ x = eqb-true c x e in absurd (omega (arith, rw same at small, big))
    by false e = refl

plain : (c : ℕ) → digit_value c < 10 → is_barred c ≡ false
plain c small = or_from (eqb c 124) (is_line_end c) (other c 124 small (omega arith)) (or_from (eqb c 13) (eqb c 10) (other c 13 small (omega arith)) (other c 10 small (omega arith)))

all_plain : (ds : List ℕ) → AllDigits 10 ds → list_any is_barred ds ≡ false
all_plain [] h = refl
all_plain (c ∷ cs) h = or_from (is_barred c) (list_any is_barred cs) (plain c h.0) (all_plain cs h.1)

plain_fee : (line k : ℕ) → line < 2 ^ 64 → k < 2 ^ 64 → list_any is_barred (fee_id line k) ≡ false
unfolding fee_id
plain_fee line k a b =
    rw (list_any-append is_barred (codes "R" ++ decimal line ++ codes "-") (decimal k), list_any-append is_barred (codes "R" ++ decimal line) (codes "-"), list_any-append is_barred (codes "R") (decimal line), all_plain (decimal line) (decimal_is_IsNumeral line a).0.1, all_plain (decimal k) (decimal_is_IsNumeral k b).0.1) refl

fee_len : (line k : ℕ) → line < 2 ^ 64 → k < 2 ^ 64 → (1 ≤ length (fee_id line k)) × (length (fee_id line k) ≤ 64)
unfolding fee_id
fee_len line k a b =
    (grind (arith, length-append), grind (arith, length-append, length-decimal-le 20 line, length-decimal-le 20 k))

pub is_id-fee : (line k : ℕ) → line < 2 ^ 64 → k < 2 ^ 64 → is_id (fee_id line k) ≡ true
unfolding is_id
is_id-fee line k a b =
    let len = fee_len line k a b in
    and_from (leb 1 (length (fee_id line k))) (leb (length (fee_id line k)) 64 && not (list_any is_barred (fee_id line k))) (le-leb 1 (length (fee_id line k)) len.0)
    (and_from (leb (length (fee_id line k)) 64) (not (list_any is_barred (fee_id line k))) (le-leb (length (fee_id line k)) 64 len.1) (not_from_false (list_any is_barred (fee_id line k)) (plain_fee line k a b)))
