-- The keys of a table in byte order.
use Rattle.std.specs.Prelude.{ℕ, Bool, not, List, [], ◌∷◌, Option, Some, None, ◌==◌}
use Rattle.std.specs.Cmp.Lexicographic.{pointwise, slice_cmp}
use Rattle.std.specs.List.{filter, list_any}
use Rattle.std.specs.List.Sorted.{IsStrictlySortedBy}
use Rattle.std.specs.Map.{keys_of}
use Rattle.std.specs.Ordering.{match_ordering, nat_cmp}
use Rattle.toml.specs.Data.{Data, Members, member, no_members}

-- the lesser of a key and another one, in byte order
abbrev pub lesser : List ℕ → Option (List ℕ) → List ℕ
lesser k None = k
lesser k (Some l) = match_ordering (slice_cmp nat_cmp k l) k k l

-- the least of some keys in byte order
abbrev pub least : List (List ℕ) → Option (List ℕ)
least [] = None
least (k ∷ ks) = Some (lesser k (least ks))

abbrev pub keys_in : Members → List (List ℕ)
keys_in no_members = []
keys_in (member k d ms) = k ∷ keys_in ms

abbrev pub is_among : List (List ℕ) → List ℕ → Bool
is_among known k = list_any (pointwise ◌==◌ k) known

-- Unknown keys: the least, in byte order, of a table's keys that aren't among the known ones
unfoldable pub least_unknown : List (List ℕ) → Members → Option (List ℕ)
least_unknown known ms = least (filter (λ k. not (is_among known k)) (keys_in ms))

-- the members with one more at its place in byte order
abbrev pub with_member : List ℕ → Data → Members → Members
with_member k d no_members = member k d no_members
with_member k d (member l e ms) =
    match_ordering (slice_cmp nat_cmp k l) (member k d (member l e ms)) (member k d (member l e ms))
    (member l e (with_member k d ms))

-- the members in byte order of their keys
abbrev pub in_byte_order : Members → Members
in_byte_order no_members = no_members
in_byte_order (member k d ms) = with_member k d (in_byte_order ms)

-- entries whose names rise in byte order
abbrev pub HaveRisingNames : {X : Type 0} → List (List ℕ × X) → Type 0
HaveRisingNames es = IsStrictlySortedBy (slice_cmp nat_cmp) (keys_of es)
