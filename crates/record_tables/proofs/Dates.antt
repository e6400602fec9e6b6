-- The digits of a date.
use Rattle.std.proofs.Common.{◌≡◌, ℕ, List, true, length}
use Rattle.std.specs.Prelude.{◌==◌, ◌&&◌}
use Rattle.std.proofs.lemmas.Bool.{and_parts}
use Rattle.record_tables.specs.Values.{are_digits, is_date}

-- those of the month and of the day
pub last-digits : (text : List ℕ) → is_date text ≡ true → (are_digits 4 text ≡ true) × (are_digits 6 text ≡ true)
unfolding is_date
last-digits text h =
    let long = and_parts (length text == 8) (are_digits 0 text && (are_digits 2 text && (are_digits 4 text && are_digits 6 text))) h in
    let century = and_parts (are_digits 0 text) (are_digits 2 text && (are_digits 4 text && are_digits 6 text)) long.1 in
    let year = and_parts (are_digits 2 text) (are_digits 4 text && are_digits 6 text) century.1 in
    and_parts (are_digits 4 text) (are_digits 6 text) year.1
