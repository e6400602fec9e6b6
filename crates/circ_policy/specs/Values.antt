-- What single values of a policy file say. The file is TOML, as the crate toml reads it; its keys
-- are this project's own.
use Rattle.std.specs.Prelude.{ℕ, suc, Bool, true, false, List, [], ◌∷◌, Option, Some, None, ℤ, pos, negsuc, codes, length, replicate, fold, slice_index, slice_set, option_map, option_and_then, nat_le, ◌==◌, ◌&&◌, ◌+◌, ◌-◌, ◌*◌, position, if◌then◌else◌}
use Rattle.std.specs.BTreeSet.{insert_key}
use Rattle.std.specs.Char.{is_ascii_digit}
use Rattle.std.specs.Cmp.Lexicographic.{pointwise}
use Rattle.std.specs.List.{list_all}
use Rattle.std.specs.Ordering.{nat_cmp}
use Rattle.sip_reader.specs.Bytes as byte
use Rattle.sip_reader.specs.Days.{day_at}
use Rattle.sip_reader.specs.Texts.{is_id}
use Rattle.toml.specs.Data.{Data, Items, no_items, item, as_array, as_integer, as_str}
use Rattle.circ_policy.specs.declared.due_form.DueForm.{DueForm}
use Rattle.circ_policy.specs.declared.due_form.DueForm.TheVariants.{Sip, Iso, Us}

abbrev pub in_range : ℕ → ℕ → ℤ → Option ℕ
in_range low high (negsuc n) = None
in_range low high (pos n) = if nat_le low n && nat_le n high then Some n else None

-- Numbers of the policy file: a whole number from low to high, in any notation of TOML
abbrev pub whole_of : ℕ → ℕ → Option Data → Option ℕ
whole_of low high o = option_and_then (in_range low high) (option_and_then as_integer o)

-- what is read from a value that is a text; other values give nothing
abbrev pub text_of : {X : Type 0} → (List ℕ → Option X) → Option Data → Option X
text_of take_text o = option_and_then take_text (option_and_then as_str o)

-- Institution and names of classes (policy file): an id, 1 to 64 bytes without a bar, CR or LF
abbrev pub id_in : List ℕ → Option (List ℕ)
id_in s = if is_id s then Some s else None

abbrev pub is_capital : ℕ → Bool
is_capital b = nat_le byte.A b && nat_le b byte.Z

-- Currency (SIP 2.00, currency type): three letters A to Z
unfoldable pub currency_in : List ℕ → Option (List ℕ)
currency_in s = if (length s == 3) && list_all is_capital s then Some s else None

-- Form of due dates (policy file): `sip`, `iso` or `us`
unfoldable pub due_form_in : List ℕ → Option DueForm
due_form_in s = if pointwise ◌==◌ s (codes "sip") then Some Sip else (if pointwise ◌==◌ s (codes "iso") then Some Iso else (if pointwise ◌==◌ s (codes "us") then Some Us else None))

abbrev pub weekday_names : List (List ℕ)
weekday_names = codes "monday" ∷ codes "tuesday" ∷ codes "wednesday" ∷ codes "thursday" ∷ codes "friday" ∷ codes "saturday" ∷ codes "sunday" ∷ []

-- a weekday by its name, counted from Monday as 0
unfoldable pub weekday_in : List ℕ → Option ℕ
weekday_in s = position (pointwise ◌==◌ s) weekday_names

-- the number that two digits spell
abbrev pub two_digits : ℕ → ℕ → Option ℕ
two_digits a b =
    if is_ascii_digit a && is_ascii_digit b then Some (10 * (a - byte.zero) + (b - byte.zero))
    else None

abbrev pub two_at : List ℕ → ℕ → Option ℕ
two_at s i = two_digits (slice_index s i) (slice_index s (i + 1))

infixl 10 ◌>>=◌
abbrev pub ◌>>=◌ : {A B : Type 0} → Option A → (A → Option B) → Option B
o >>= f = option_and_then f o

-- the day of the digits in `YYYY-MM-DD`
unfoldable pub written_day : List ℕ → Option ℕ
written_day s = do
  century ← two_at s 0
  year ← two_at s 2
  month ← two_at s 5
  day ← two_at s 8
  day_at (100 * century + year) month day

-- a date `YYYY-MM-DD`: a real day in the years 1900 to 9999, as its number
unfoldable pub date_in : List ℕ → Option ℕ
date_in s =
    if (length s == 10) && ((slice_index s 4 == byte.hyphen) && (slice_index s 7 == byte.hyphen))
    then written_day s else None

-- what is read from each item of a list; nothing if one item gives nothing
abbrev pub each : {X : Type 0} → (Data → Option X) → Items → Option (List X)
each read no_items = Some []
each read (item d ds) = option_and_then (λ x. option_map (λ xs. x ∷ xs) (each read ds)) (read d)

-- flags for the weekdays from Monday on, with these weekdays set too
abbrev pub marked : List Bool → List ℕ → List Bool
marked = fold (λ flags weekday. slice_set flags weekday true)

-- the flags, where not all of them are set
abbrev pub not_all : List Bool → Option (List Bool)
not_all flags = if list_all (λ b. b) flags then None else Some flags

-- Closed weekdays (policy file): a list of weekdays, doubles allowed, but not all seven; none where
-- it is missing
unfoldable pub closed_weekdays_of : Option Data → Option (List Bool)
closed_weekdays_of None = Some (replicate 7 false)
closed_weekdays_of (Some d) = do
  items ← as_array d
  flags ← option_map (marked (replicate 7 false)) (each (λ i. text_of weekday_in (Some i)) items)
  not_all flags

abbrev pub item_count : Items → ℕ
item_count no_items = 0
item_count (item d ds) = suc (item_count ds)

abbrev pub at_most : ℕ → Items → Option Items
at_most most items = if nat_le (item_count items) most then Some items else None

-- a set of days, rising, with these days added
abbrev pub day_set : List ℕ → List ℕ → List ℕ
day_set = fold (insert_key nat_cmp)

-- Closed dates (policy file): a list of at most 400 dates, doubles allowed and counted; none where
-- it is missing
unfoldable pub closed_dates_of : Option Data → Option (List ℕ)
closed_dates_of None = Some []
closed_dates_of (Some d) = do
  items ← as_array d
  few ← at_most 400 items
  option_map (day_set []) (each (λ i. text_of date_in (Some i)) few)
