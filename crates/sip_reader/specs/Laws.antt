-- What the definitions promise together.
use Rattle.std.specs.Prelude.{◌≡◌, ◌≤◌, ◌==◌, ℕ, List, ◌∷◌, ◌++◌, true, not, Some, None}
use Rattle.std.specs.List.{join_with_byte, list_all, list_any}
use Rattle.sip_reader.specs.Amounts.{amount_of, amount_text}
use Rattle.sip_reader.specs.Bytes as byte
use Rattle.sip_reader.specs.Fields.{field, pieces}
use Rattle.sip_reader.specs.declared.amount.TheConstants.{AMOUNT_MAX}

-- each amount is read back from its written text
abbrev pub AmountsReadBack : Type 0
AmountsReadBack = (n : ℕ) → n ≤ AMOUNT_MAX → amount_of (amount_text n) ≡ Some n

-- the pieces have no bar, and joined by bars they are the rest again
abbrev pub PiecesTellTheRest : Type 0
PiecesTellTheRest =
    (rest : List ℕ) → (join_with_byte byte.bar (pieces rest) ≡ rest)
    × (list_all (λ piece. not (list_any (λ b. b == byte.bar) piece)) (pieces rest) ≡ true)

-- the first piece that begins with an identifier counts, whatever comes after it
abbrev pub FirstFieldCounts : Type 0
FirstFieldCounts =
    (a b : ℕ) (before after : List (List ℕ)) (text : List ℕ) → field a b before ≡ None
    → field a b (before ++ (a ∷ b ∷ text) ∷ after) ≡ Some text
