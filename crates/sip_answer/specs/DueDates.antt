-- How a due date is written, and which day a recorded one has.
use Rattle.std.specs.Prelude.{ℕ, ◌+◌, ◌/◌, ◌%◌, List, [], ◌∷◌, ◌++◌, codes}
use Rattle.sip_reader.specs.Bytes as byte
use Rattle.sip_reader.specs.Days.{year_of, month_of, day_of_month}
use Rattle.circ_policy.specs.declared.due_form.DueForm.{DueForm}
use Rattle.circ_policy.specs.declared.due_form.DueForm.TheVariants as form

-- two digits, and four
unfoldable pub two_digits : ℕ → List ℕ
two_digits n = (byte.zero + n / 10) ∷ (byte.zero + n % 10) ∷ []

unfoldable pub four_digits : ℕ → List ℕ
four_digits n = two_digits (n / 100) ++ two_digits (n % 100)

-- The forms of a due date (the profile of this project): sip is the date and time of SIP 2.00 at
-- one minute before midnight.
abbrev pub date_text : DueForm → ℕ → ℕ → ℕ → List ℕ
date_text form.Sip y m d = four_digits y ++ two_digits m ++ two_digits d ++ codes "    235900"
date_text form.Iso y m d = four_digits y ++ codes "-" ++ two_digits m ++ codes "-" ++ two_digits d
date_text form.Us y m d = two_digits m ++ codes "/" ++ two_digits d ++ codes "/" ++ four_digits y

-- the due date of a day
unfoldable pub due_text : DueForm → ℕ → List ℕ
due_text f day = date_text f (year_of day) (month_of day) (day_of_month day)
