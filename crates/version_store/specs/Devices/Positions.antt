-- For proofs alone: how the entries of a line are stored, and the position of a key among them.
use Rattle.std.specs.Prelude.{◌≡◌, ℕ, ◌<◌, ◌≤◌, true, List, T, length, map, slice_index_or}
use Rattle.std.specs.FinMap.{is_sorted}
use Rattle.std.specs.declared.cmp.Ordering.TheVariants.{Less, Greater}
use Rattle.circ_records.specs.Keys.{key_cmp}
use Rattle.circ_records.specs.declared.key.Key.{Key}
use Rattle.version_store.specs.declared.entry.StoredEntry.{StoredEntry}

-- each key is below those after it
abbrev pub Rise : {X : Type 0} → List (Key × X) → Type 0
Rise es = T (is_sorted key_cmp es)

-- the key is at the position
pub record IsAt {X : Type 0} (es : List (Key × X)) (k : Key) (i : ℕ) : Type 0 where
  pub within : i < length es
  pub same : (d : Key × X) → (slice_index_or es i d).0 ≡ k

-- it isn't there, and goes to the position
pub record IsGap {X : Type 0} (es : List (Key × X)) (k : Key) (i : ℕ) : Type 0 where
  pub within : i ≤ length es
  pub below : (j : ℕ) (d : Key × X) → j < i → key_cmp (slice_index_or es j d).0 k ≡ Less
  pub above : (j : ℕ) (d : Key × X) → i ≤ j → j < length es → key_cmp (slice_index_or es j d).0 k ≡ Greater

-- an entry whose line's check has failed
abbrev pub marked : {J : Type 0} → StoredEntry J → StoredEntry J
marked e = record { attempt = e.attempt; suspect = true; place = e.place }

abbrev pub all_marked : {K J : Type 0} → List (K × StoredEntry J) → List (K × StoredEntry J)
all_marked es = map (λ e. (e.0, marked e.1)) es
