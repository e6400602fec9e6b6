-- The texts of a line, taken out of where they are one after the other.
use Rattle.std.proofs.Common.{◌≡◌, ℕ, suc, ◌+◌, ◌++◌, ◌∷◌, [], List, length, take, drop, refl, arith}
use Rattle.std.proofs.lemmas.Grind.{common_steps}
use Rattle.journal_table.specs.Entry.{Entry}
use Rattle.journal_table.specs.Layout.{comma, joined}

first : (c r s : List ℕ) → take (length c) (joined c r s) ≡ c
first c r s = grind (arith, common_steps)

-- after a text and a comma
behind : (c : List ℕ) (x : ℕ) (rest : List ℕ) → drop (length c + 1) (c ++ x ∷ rest) ≡ rest
behind [] x rest = refl
behind (y ∷ c) x rest = let is : length (y ∷ c) + 1 ≡ suc (length c + 1) = omega arith in rw is (behind c x rest)

-- n bytes further
further : (c : List ℕ) (x : ℕ) (rest : List ℕ) (n : ℕ) → drop (length c + 1 + n) (c ++ x ∷ rest) ≡ drop n rest
further [] x rest n = let is : length {A = ℕ} [] + 1 + n ≡ suc n = omega arith in rw is refl
further (y ∷ c) x rest n =
    let is : length (y ∷ c) + 1 + n ≡ suc (length c + 1 + n) = omega arith in rw is (further c x rest n)

front_of : (r rest : List ℕ) → take (length r) (r ++ rest) ≡ r
front_of r rest = grind (arith, common_steps)

second : (c r s : List ℕ) → take (length r) (drop (length c + 1) (joined c r s)) ≡ r
second c r s = rw (behind c comma (r ++ comma ∷ s)) (front_of r (comma ∷ s))

third : (c r s : List ℕ) → drop (length c + 1 + length r + 1) (joined c r s) ≡ s
third c r s =
    let is : length c + 1 + length r + 1 ≡ length c + 1 + (length r + 1) = omega arith in
    rw (is, further c comma (r ++ comma ∷ s) (length r + 1), behind r comma s) refl

pub entry_is : (n : ℕ) (t c r s : List ℕ) → t ≡ joined c r s
    → ◌≡◌ {A = Entry} (record {
      number = n;
      connection = take (length c) t;
      request = take (length r) (drop (length c + 1) t);
      response = drop (length c + 1 + length r + 1) t;
    })
    (record { number = n; connection = c; request = r; response = s })
entry_is n t c r s is = rw (is, first c r s, second c r s, third c r s) refl
