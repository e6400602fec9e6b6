-- Lines that are written one after the other.
use Rattle.std.proofs.Common.{◌≡◌, ◌∙◌, ◌<◌, ◌≤◌, ◌^◌, ◌-◌, ℕ, zero, suc, List, [], ◌∷◌, ◌++◌, length, take, Option, Some, None, arith, refl, sym, ap, subst}
use Rattle.std.specs.List.{cons_option, filter_map}
use Rattle.std.proofs.lemmas.List.{append-nil, length-append}
use Rattle.std.proofs.lemmas.List.Elements.{filter_map-append}
use Rattle.csv_table.proofs.Written.{with_row-written}
use Rattle.result_report.specs.Report.{Row, LineResult, answer_row, passed_row, report_row}
use Rattle.schema.specs.Names.{answers_header, passed_header, report_header}
use Rattle.result_report.specs.Listings.{Gains, HasRoomFor, Lists}
use Rattle.result_report.specs.Tellings.{Gained, HasRoom, Tells}
use Rattle.result_report.specs.declared.listing.Listing.{Listing}
use Rattle.result_report.specs.declared.telling.Telling.{Telling}

-- one row more, where there is one
row-more : (h : Row) (rows : List Row) (o : Option Row) (old new : Listing) → Lists h rows old
    → Gains o old new → Lists h (rows ++ cons_option o []) new
row-more h rows None old new lists gains = record {
  text = rw (append-nil rows) (gains.text ∙ lists.text);
  count = rw (append-nil rows) (gains.count ∙ lists.count);
}
row-more h rows (Some row) old new lists gains = record {
  text = gains.text ∙ rw lists.text (ap (λ t. Some t) (with_row-written h rows row));
  count = gains.count ∙ rw (lists.count, length-append rows (row ∷ [])) refl;
}

lists-more : (row : LineResult → Option Row) (h : Row) (lines : List LineResult) (line : LineResult)
    (old new : Listing) → Lists h (filter_map row lines) old → Gains (row line) old new
    → Lists h (filter_map row (lines ++ line ∷ [])) new
lists-more row h lines line old new lists gains =
    subst (λ (rows : List Row). Lists h rows new) (sym (filter_map-append row lines (line ∷ []))) (row-more h (filter_map row lines) (row line) old new lists gains)

-- one line more
pub tells-more : (lines : List LineResult) (line : LineResult) (old new : Telling) → Tells lines old
    → Gained line old new → Tells (lines ++ line ∷ []) new
tells-more lines line old new tells gained = record {
  answers = lists-more answer_row answers_header lines line old.answers new.answers tells.answers gained.answers;
  report = lists-more report_row report_header lines line old.report new.report tells.report gained.report;
  passed = lists-more passed_row passed_header lines line old.passed new.passed tells.passed gained.passed;
}

-- no more rows than lines
one-or-none : {Y : Type 0} (o : Option Y) (ys : List Y) (n : ℕ) → length ys ≤ n → length (cons_option o ys) ≤ suc n
one-or-none None ys n le = omega (arith, le)
one-or-none (Some y) ys n le = omega (arith, le)

pub few-rows : (row : LineResult → Option Row) (lines : List LineResult) → length (filter_map row lines) ≤ length lines
few-rows row [] = omega arith
few-rows row (line ∷ lines) = one-or-none (row line) (filter_map row lines) (length lines) (few-rows row lines)

few-taken : (i : ℕ) (lines : List LineResult) → length (take i lines) ≤ i
few-taken zero lines = omega arith
few-taken (suc i) [] = omega arith
few-taken (suc i) (line ∷ lines) = omega (arith, few-taken i lines)

room : (row : LineResult → Option Row) (h : Row) (i : ℕ) (lines : List LineResult) (l : Listing)
    → length h ≡ 3 → i < 2 ^ 64 - 1 → Lists h (filter_map row (take i lines)) l → HasRoomFor l
room row h i lines l three small lists = record {
  wide = rw lists.text three;
  few = rw lists.count (omega (arith, small, few-rows row (take i lines), few-taken i lines));
}

-- each line's rows can be added
pub has-room : (i : ℕ) (lines : List LineResult) (t : Telling) → i < 2 ^ 64 - 1 → Tells (take i lines) t → HasRoom t
has-room i lines t small tells = record {
  answers = room answer_row answers_header i lines t.answers refl small tells.answers;
  report = room report_row report_header i lines t.report refl small tells.report;
  passed = room passed_row passed_header i lines t.passed refl small tells.passed;
}
