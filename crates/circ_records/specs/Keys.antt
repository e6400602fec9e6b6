-- The order of keys: by kind, then by the bytes of the id.
use Rattle.std.specs.Prelude.{◌≡◌, ℕ, List, refl}
use Rattle.std.specs.Ordering.{nat_cmp, on, then_cmp, ordering_then}
use Rattle.std.specs.Cmp.{IsTotalOrder, nat_cmp_total}
use Rattle.std.specs.Cmp.Lexicographic.{slice_cmp, nat_list_cmp_total}
use Rattle.std.proofs.lemmas.Cmp.{on_total, then_total}
use Rattle.std.proofs.Common.{ap, arith}
use Rattle.std.specs.FinMap.{IsAntisymmetric, nat_cmp-IsAntisymmetric, slice_cmp-IsAntisymmetric}
use Rattle.std.specs.declared.cmp.Ordering.{Ordering}
use Rattle.std.specs.declared.cmp.Ordering.TheVariants.{Less, Equal, Greater}
use Rattle.circ_records.specs.declared.key.Key.{Key}
use Rattle.circ_records.specs.declared.key.Key.TheVariants.{Patron, Item, Fee}
use Rattle.circ_records.specs.declared.key.KeyRef.{KeyRef}
use Rattle.circ_records.specs.declared.key.KeyRef.TheVariants as refs

abbrev pub kind : Key → ℕ
kind (Patron id) = 0
kind (Item id) = 1
kind (Fee id) = 2

abbrev pub id_of : Key → List ℕ
id_of (Patron id) = id
id_of (Item id) = id
id_of (Fee id) = id

-- the key that a key with a borrowed id is
abbrev pub key_of : KeyRef → Key
key_of (refs.Patron id) = Patron id.now
key_of (refs.Item id) = Item id.now
key_of (refs.Fee id) = Fee id.now

abbrev pub key_cmp : Key → Key → Ordering
key_cmp = then_cmp (on kind nat_cmp) (on id_of (slice_cmp nat_cmp))

pub key_cmp_total : IsTotalOrder key_cmp
key_cmp_total = then_total (on_total kind nat_cmp_total) (on_total id_of nat_list_cmp_total)

both_equal : (p q : Ordering) → ordering_then p q ≡ Equal → (p ≡ Equal) × (q ≡ Equal)
both_equal Less q e = cc
both_equal Equal q e = (refl, e)
both_equal Greater q e = cc

same_parts : (x y : Key) → kind x ≡ kind y → id_of x ≡ id_of y → x ≡ y
same_parts (Patron a) (Patron b) k e = ap Patron e
same_parts (Item a) (Item b) k e = ap Item e
same_parts (Fee a) (Fee b) k e = ap Fee e
same_parts (Patron a) (Item b) k e = absurd (omega arith)
same_parts (Patron a) (Fee b) k e = absurd (omega arith)
same_parts (Item a) (Patron b) k e = absurd (omega arith)
same_parts (Item a) (Fee b) k e = absurd (omega arith)
same_parts (Fee a) (Patron b) k e = absurd (omega arith)
same_parts (Fee a) (Item b) k e = absurd (omega arith)

-- only equal keys tie
pub key_cmp-IsAntisymmetric : IsAntisymmetric key_cmp
key_cmp-IsAntisymmetric x y e =
    let h : (nat_cmp (kind x) (kind y) ≡ Equal) × (slice_cmp nat_cmp (id_of x) (id_of y) ≡ Equal) = both_equal _ _ e in
    same_parts x y (nat_cmp-IsAntisymmetric (kind x) (kind y) h.0)
    (slice_cmp-IsAntisymmetric nat_cmp-IsAntisymmetric (id_of x) (id_of y) h.1)
