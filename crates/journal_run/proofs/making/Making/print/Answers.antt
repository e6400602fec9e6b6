use Rattle.std.proofs.Common.{◌++◌, [], List, ℕ, ap, refl, sym}
use Rattle.std.proofs.lemmas.List.{append-nil}
use Rattle.std.proofs.lemmas.Result.{err_from_is_err_and}
use Rattle.csv_table.specs.Text.{table_text}
use Rattle.log_pairs.specs.Rows.{rows_from}
use Rattle.journal_run.specs.Printing.{head_to_print, to_print}
use Rattle.journal_run.proofs.Shown.{broken, printed-both, printed-none}
use Rattle.journal_run.proofs.making.Making.print.Goals as goal

pub returns-in_err-print_head-clause-stops : goal.returns-in_err-print_head-clause-stops
returns-in_err-print_head-clause-stops g c =
    let m = c.args.self.now in
    let rows : List ℕ = table_text (rows_from m.number m.ready.items) in
    let p = err_from_is_err_and c.from_residual.result c.from_residual.ensures.1 in rw (p.1, p.2)
    (broken [] (head_to_print m.begun) rows (to_print m) _ _ _ _ refl (printed-none _) c.in_err-print_head.ensures.stops)

pub returns-in_err-print_rows-clause-stops : goal.returns-in_err-print_rows-clause-stops
returns-in_err-print_rows-clause-stops g c =
    let m = c.args.self.now in
    let rows : List ℕ = table_text (rows_from m.number m.ready.items) in
    let p = err_from_is_err_and c.from_residual-in_err-print_rows.result c.from_residual-in_err-print_rows.ensures.1 in rw (p.1, p.2)
    (broken (head_to_print m.begun) rows [] (to_print m) _ _ _ _ (ap (λ (t : List ℕ). head_to_print m.begun ++ t) (sym (append-nil rows))) c.in_ok-print_head.ensures.text
    (rw (c.in_ok-print_head.ensures.printed) at c.in_err-print_rows.ensures.stops))

pub returns-clause-text : goal.returns-clause-text
returns-clause-text g c =
    let m = c.args.self.now in
    printed-both (head_to_print m.begun) (table_text (rows_from m.number m.ready.items)) _ _ _ c.in_ok-print_head.ensures.text
    (rw (c.in_ok-print_head.ensures.printed) at c.in_ok-print_rows.ensures.text)
