-- The numbers of a journal's lines end before 10,000,000,000, for none has more than ten digits.
use Rattle.std.proofs.Common.{◌≡◌, ◌≤◌, ◌+◌, ℕ, suc, List, [], ◌∷◌, not, Option, Some, None, Result, Ok, length, get_or, refl, sym, ap, arith}
use Rattle.std.specs.Prelude.{nat_lt, unwrap_or}
use Rattle.std.specs.List.{AllByRecursion}
use Rattle.journal_table.specs.Entry.{EndsInTime, Entry, Numbered, NumberedFrom, first_number}
use Rattle.journal_table.specs.Journal.{follows, line_at, lines_from, lines_of, numbered_line}
use Rattle.journal_table.specs.Number.{number_of}
use Rattle.journal_table.specs.declared.TheConstants.{CONNECTION_LIMIT, LINE_LIMIT}
use Rattle.journal_table.specs.declared.error.JournalError.{JournalError}
use Rattle.journal_table.proofs.Lines.{bind-ok, guard-ok, numbered-lines}
use Rattle.journal_table.proofs.Numbers.{spells}

ok-number : (a b : Entry) → ◌≡◌ {A = Result Entry JournalError} (Ok a) (Ok b) → b.number ≡ a.number
ok-number a b e = let same : a ≡ b = cc e in ap (λ (l : Entry). l.number) (sym same)

small-number : (row : ℕ) (before : Option ℕ) (fields : List (List ℕ)) (o : Option ℕ) (line : Entry)
    → ((n : ℕ) → o ≡ Some n → n ≤ 9999999999) → numbered_line row before fields o ≡ Ok line
    → line.number ≤ 9999999999
small-number row before fields None line small h = cc h
small-number row before fields (Some m) line small h =
    let next = guard-ok (not (follows before m)) _ _ line h in
    let short = guard-ok (nat_lt CONNECTION_LIMIT (length (get_or fields 1 []))) _ _ line next.1 in
    let same : line.number ≡ m = ok-number _ line short.1 in
    let few : m ≤ 9999999999 = small m refl in
    omega arith

line-small : (row : ℕ) (before : Option ℕ) (fields : List (List ℕ)) (line : Entry)
    → line_at row before fields ≡ Ok line → line.number ≤ 9999999999
line-small row before fields line h =
    let rest = guard-ok (nat_lt LINE_LIMIT row) _ _ line h in
    small-number row before fields (number_of (get_or fields 0 [])) line (λ n e. (spells (get_or fields 0 []) n e).2) rest.1

-- each line has such a number
AreSmall : List Entry → Type 0
AreSmall lines = AllByRecursion (λ (line : Entry). line.number ≤ 9999999999) lines

all-small : (rows : List (List (List ℕ))) (row : ℕ) (before : Option ℕ) (lines : List Entry)
    → lines_from row before rows ≡ Ok lines → AreSmall lines
unfolding AreSmall
all-small [] row before lines h = let none : lines ≡ [] = cc h in rw none tt
all-small (fields ∷ rows) row before lines h =
    let (line, at, more) = bind-ok (line_at row before fields) _ lines h in
    let (rest, below, is) = bind-ok (lines_from (suc row) (Some line.number) rows) _ lines more in
    let whole : line ∷ rest ≡ lines = cc is in
    rw (← whole) (line-small row before fields line at, all-small rows (suc row) (Some line.number) rest below)

small-lines : (rows : Option (List (List (List ℕ)))) (lines : List Entry) → lines_of rows ≡ Ok lines → AreSmall lines
small-lines None lines h = cc h
small-lines (Some rows) lines h = all-small rows 1 None lines h

-- so has the last one
end-from : (n : ℕ) (lines : List Entry) → NumberedFrom (n + 1) lines → AreSmall lines
    → n ≤ 9999999999 → n + 1 + length lines ≤ 10000000000
unfolding AreSmall
end-from n [] numbered small h = omega arith
end-from n (line ∷ rest) numbered small h =
    let same : line.number ≡ n + 1 = numbered.0 in
    let low : line.number ≤ 9999999999 = small.0 in
    let more : n + 1 + 1 + length rest ≤ 10000000000 = end-from (n + 1) rest numbered.1 small.1 (omega arith) in
    omega arith

end-small : (lines : List Entry) → Numbered lines → AreSmall lines → EndsInTime lines
unfolding AreSmall
end-small [] numbered small = omega arith
end-small (line ∷ rest) numbered small =
    let low : line.number ≤ 9999999999 = small.0 in
    let more : line.number + 1 + length rest ≤ 10000000000 = end-from line.number rest numbered small.1 low in
    omega arith

-- the lines of a journal end in time
pub ends-lines : (rows : Option (List (List (List ℕ)))) (lines : List Entry)
    → lines_of rows ≡ Ok lines → EndsInTime lines
ends-lines rows lines h = end-small lines (numbered-lines rows lines h) (small-lines rows lines h)

-- so they do where those without a first line begin at 0
pub ends-from-none : (lines : List Entry) → EndsInTime lines
    → unwrap_or (first_number lines) 0 + length lines ≤ 10000000000
ends-from-none [] h = omega arith
ends-from-none (line ∷ rest) h = h
