-- For proofs alone: where a key is among rising ones.
use Rattle.std.specs.Prelude.{ℕ, ◌+◌, [], ◌∷◌, Result, Ok, Err}
use Rattle.std.specs.Ordering.{match_ordering}
use Rattle.circ_records.specs.Keys.{key_cmp}
use Rattle.circ_records.specs.Records.{Entries}
use Rattle.circ_records.specs.declared.key.Key.{Key}

-- the position of a key among rising ones, or else the position to which it goes; the first has
-- this number
abbrev pub position_from : ℕ → Key → Entries → Result ℕ ℕ
position_from i k [] = Err i
position_from i k (e ∷ es) =
    match_ordering (key_cmp k e.0) (Err i) (Ok i) (position_from (i + 1) k es)
