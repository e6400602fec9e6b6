-- What is kept of the rows that were read: ids alone, since a text that is no id is looked for
-- nowhere.
use Rattle.std.specs.Prelude.{◌≡◌, ℕ, true, List, Option, Some, None, length, nat_le, option_map, unwrap_or, if◌then◌else◌}
use Rattle.std.specs.BTreeMap.{BTreeMap, get}
use Rattle.std.specs.BTreeSet.{BTreeSet, contains}
use Rattle.std.specs.Cmp.Lexicographic.{slice_cmp}
use Rattle.std.specs.Ordering.{nat_cmp}
use Rattle.sip_reader.specs.Texts.{is_id}
use Rattle.record_tables.specs.Read.{pair_cmp}
use Rattle.record_tables.specs.Rules.{has_hold, has_row}
use Rattle.record_tables.specs.Tables.{Row, field}
use Rattle.record_tables.specs.Told.{row_with, rows_with}
use Rattle.circ_records.specs.declared.holds.TheConstants.{QUEUE_MAX}

-- a set has just the ids that rows have in a column
abbrev pub HasIds : ℕ → List Row → BTreeSet (List ℕ) → Type 0
HasIds column rows ids =
    (id : List ℕ) → is_id id ≡ true → contains (slice_cmp nat_cmp) ids id ≡ has_row column id rows

-- a text that is an id
abbrev pub id_in : List ℕ → Option (List ℕ)
id_in text = if is_id text then Some text else None

-- a map has the patron of each item's first loan, where it is an id
abbrev pub HasLoans : List Row → BTreeMap (List ℕ) (Option (List ℕ)) → Type 0
HasLoans loans patrons = (item : List ℕ) → is_id item ≡ true
    → get (slice_cmp nat_cmp) patrons item
    ≡ option_map (λ loan. id_in (field 0 loan)) (row_with 1 item loans)

-- a set has the items and patrons of rows of holds
abbrev pub HasHolds : List Row → BTreeSet (List ℕ × List ℕ) → Type 0
HasHolds holds waiting =
    (item patron : List ℕ) → is_id item ≡ true → is_id patron ≡ true
    → contains pair_cmp waiting (item, patron) ≡ has_hold item patron holds

-- a number, counted as far as a queue goes
abbrev pub as_far : ℕ → ℕ
as_far n = if nat_le QUEUE_MAX n then QUEUE_MAX else n

-- a map has how many rows of holds each item has, counted as far as a queue goes
abbrev pub HasQueues : List Row → BTreeMap (List ℕ) ℕ → Type 0
HasQueues holds lengths = (item : List ℕ) → is_id item ≡ true
    → unwrap_or (get (slice_cmp nat_cmp) lengths item) 0 ≡ as_far (length (rows_with 0 item holds))
