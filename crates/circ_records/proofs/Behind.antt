-- A key after rising entries.
use Rattle.std.proofs.Common.{◌≡◌, ℕ, zero, suc, arith, [], ◌∷◌, true, Option, Some, length, ◌-◌, refl, sym, ap, ◌∙◌}
use Rattle.std.specs.Prelude.{slice_get}
use Rattle.std.specs.Map.{keys_of}
use Rattle.std.specs.Option.{unwrap_or}
use Rattle.std.specs.Ordering.{is_gt}
use Rattle.std.specs.declared.cmp.Ordering.{Ordering}
use Rattle.std.specs.declared.cmp.Ordering.TheVariants.{Less, Equal, Greater}
use Rattle.std.proofs.lemmas.Map.Keys.{sorted_head, sorted_tail}
use Rattle.circ_records.specs.Devices.Behind.{IsBehind}
use Rattle.circ_records.specs.Keys.{key_cmp, key_cmp_total}
use Rattle.circ_records.specs.Records.{AreRising, Entries}
use Rattle.circ_records.specs.declared.key.Key.{Key}
use Rattle.circ_records.specs.declared.record.Record.{Record}

-- ---- the greatest key

-- what `>` answers
pub greater : (o : Ordering) → is_gt o ≡ true → o ≡ Greater
greater Less h = cc
greater Equal h = cc
greater Greater h = refl

same-entry : (e last : Key × Record) → Some e ≡ Some last → e ≡ last
same-entry e last is = ap (λ (o : Option (Key × Record)). unwrap_or o e) is

-- a key after the last of rising entries is after all of them
behind-last : (es : Entries) (i : ℕ) (k : Key) (last : Key × Record) → AreRising es
    → length es ≡ suc i → slice_get es i ≡ Some last → key_cmp last.0 k ≡ Less → IsBehind k es
behind-last [] i k last r n is less = tt
behind-last (e ∷ []) zero k last r n is less =
    (ap (λ (x : Key × Record). key_cmp x.0 k) (same-entry e last is) ∙ less, tt)
behind-last (e ∷ []) (suc i) k last r n is less = absurd (omega (arith, n))
behind-last (e ∷ f ∷ es) zero k last r n is less = absurd (omega (arith, n))
behind-last (e ∷ f ∷ es) (suc i) k last r n is less =
    let rest = behind-last (f ∷ es) i k last (sorted_tail key_cmp e.0 (keys_of (f ∷ es)) r) (omega (arith, n)) is less in
    (key_cmp_total.trans e.0 f.0 k (sorted_head key_cmp e.0 (keys_of (f ∷ es)) r).0 rest.0, rest)

-- the last of a list
pub behind-list : (es : Entries) (k : Key) (last : Key × Record) → AreRising es
    → Some last ≡ slice_get es (length es - 1) → key_cmp last.0 k ≡ Less → IsBehind k es
behind-list [] k last r is less = tt
behind-list (e ∷ es) k last r is less = behind-last (e ∷ es) (length (e ∷ es) - 1) k last r (omega arith) (sym is) less
