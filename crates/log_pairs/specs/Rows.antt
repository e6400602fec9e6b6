-- The rows of a journal, one for each pair: number, connection, request, response. The numbers rise by one. The response
-- of a pair without one is empty.
use Rattle.std.specs.Prelude.{◌+◌, ℕ, List, [], ◌∷◌, unwrap_or}
use Rattle.std.specs.Fmt.{decimal}
use Rattle.journal_table.specs.Entry.{Entry}
use Rattle.log_pairs.specs.Pairs.{Pair}

abbrev pub row_of : ℕ → Pair → List (List ℕ)
row_of n p = decimal n ∷ p.connection ∷ p.request ∷ unwrap_or p.response [] ∷ []

abbrev pub rows_from : ℕ → List Pair → List (List (List ℕ))
rows_from n [] = []
rows_from n (p ∷ ps) = row_of n p ∷ rows_from (n + 1) ps

-- the same pairs, as a reader of the journal gets them
abbrev pub entry_of : ℕ → Pair → Entry
entry_of n p = record { number = n; connection = p.connection; request = p.request; response = unwrap_or p.response [] }

abbrev pub entries_from : ℕ → List Pair → List Entry
entries_from n [] = []
entries_from n (p ∷ ps) = entry_of n p ∷ entries_from (n + 1) ps
