-- Tables that are written row by row.
use Rattle.std.proofs.Common.{◌≡◌, ◌<◌, ◌+◌, ◌∙◌, ℕ, List, [], ◌∷◌, ◌++◌, Option, Some, sym, ap, append_assoc, refl, arith, get_or, length, suc, take, take-suc}
use Rattle.std.proofs.lemmas.Grind.{flat_map-append}
use Rattle.std.proofs.lemmas.List.{append-nil}
use Rattle.std.specs.List.{flat_map}
use Rattle.csv_table.specs.Text.{Written, written}
use Rattle.csv_table.proofs.Written.{with_row-written}
use Rattle.circ_records.specs.Records.{Entries}
use Rattle.record_tables.specs.Tables.{Row}
use Rattle.schema.specs.Names.{patrons_header, items_header, loans_header, fees_header, closed_header, holds_header}
use Rattle.record_tables.specs.Writing.{GainsItem, GainsPatron, HoldsItems, HoldsPatrons, ItemWidths, PatronWidths, with_rows}
use Rattle.record_tables.specs.Written.{patron_rows, item_rows, loan_rows, fee_rows, closed_rows, hold_rows}
use Rattle.circ_records.specs.declared.key.Key.{Key}
use Rattle.circ_records.specs.declared.record.Record.{Record}
use Rattle.record_tables.specs.declared.table_texts.ItemTexts.{ItemTexts}
use Rattle.record_tables.specs.declared.table_texts.PatronTexts.{PatronTexts}

-- a table with rows more
with_rows-written : (header : Row) (xs rows : List Row)
    → with_rows rows (Some (written header xs)) ≡ Some (written header (xs ++ rows))
with_rows-written header xs [] = ap (λ (rows : List Row). Some (written header rows)) (sym (append-nil xs))
with_rows-written header xs (row ∷ rows) =
    ap (λ (t : Written). with_rows rows (Some t)) (with_row-written header xs row)
    ∙ with_rows-written header (xs ++ row ∷ []) rows
    ∙ ap (λ (rows : List Row). Some (written header rows)) (append_assoc xs (row ∷ []) rows)

-- a table with the rows of one entry more
more-rows : (rows : Key × Record → List Row) (header : Row) (entries : Entries)
    (entry : Key × Record) (old new : Option Written)
    → old ≡ Some (written header (flat_map rows entries)) → new ≡ with_rows (rows entry) old
    → new ≡ Some (written header (flat_map rows (entries ++ entry ∷ [])))
more-rows rows header entries entry old new was is =
    is
    ∙ ap (with_rows (rows entry)) was
    ∙ with_rows-written header (flat_map rows entries) (rows entry)
    ∙ ap (λ (last : List Row). Some (written header (flat_map rows entries ++ last))) (sym (append-nil (rows entry)))
    ∙ ap (λ (all : List Row). Some (written header all)) (sym (flat_map-append rows entries (entry ∷ [])))

-- the first entries with the next one
pub one-more : (n : ℕ) (all : Entries) (entry : Key × Record) → entry ≡ get_or all n entry
    → n < length all → take n all ++ entry ∷ [] ≡ take (n + 1) all
one-more n all entry is within =
    let next : suc n ≡ n + 1 = omega arith in
    ap (λ e. take n all ++ e ∷ []) is ∙ sym (take-suc all n entry within) ∙ ap (λ m. take m all) next

-- the tables with the rows of one entry more
pub patrons-more : (map : Entries) (entries : Entries) (entry : Key × Record) (old new : PatronTexts)
    → HoldsPatrons map entries old → GainsPatron map entry old new → HoldsPatrons map (entries ++ entry ∷ []) new
patrons-more map entries entry old new holds gains = record {
  patrons = more-rows patron_rows patrons_header entries entry old.patrons new.patrons holds.patrons gains.patrons;
  loans = more-rows (loan_rows map) loans_header entries entry old.loans new.loans holds.loans gains.loans;
  fees = more-rows (fee_rows map) fees_header entries entry old.fees new.fees holds.fees gains.fees;
  closed = more-rows closed_rows closed_header entries entry old.closed new.closed holds.closed gains.closed;
}

pub items-more : (entries : Entries) (entry : Key × Record) (old new : ItemTexts)
    → HoldsItems entries old → GainsItem entry old new → HoldsItems (entries ++ entry ∷ []) new
items-more entries entry old new holds gains = record {
  items = more-rows item_rows items_header entries entry old.items new.items holds.items gains.items;
  holds = more-rows hold_rows holds_header entries entry old.holds new.holds holds.holds gains.holds;
}

-- tables with their headers have the columns of these
pub patron-widths : (map : Entries) (entries : Entries) (t : PatronTexts) → HoldsPatrons map entries t → PatronWidths t
patron-widths map entries t holds = record { patrons = rw holds.patrons refl; loans = rw holds.loans refl; fees = rw holds.fees refl; closed = rw holds.closed refl }

pub item-widths : (entries : Entries) (t : ItemTexts) → HoldsItems entries t → ItemWidths t
item-widths entries t holds = record { items = rw holds.items refl; holds = rw holds.holds refl }
