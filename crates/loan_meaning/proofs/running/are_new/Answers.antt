use Rattle.std.proofs.Common.{ℕ, List, ap, ◌∙◌}
use Rattle.std.specs.Prelude.{nat_eq, not}
use Rattle.std.specs.List.{list_all, starts_with}
use Rattle.loan_meaning.proofs.Sums.{cut-front, first-some}
use Rattle.loan_meaning.proofs.running.are_new.Goals as goal

pub slice_bounds-none_begins_with-count : goal.slice_bounds-none_begins_with-count
slice_bounds-none_begins_with-count c = rw (c.as_bytes-bytes.ensures, c.in_ok-first.ensures) (first-some c.args.n)

pub returns : goal.returns
returns c =
    c.none_begins_with.ensures
    ∙ rw (c.as_bytes-bytes.ensures, c.in_ok-first.ensures) (ap (λ (front : List ℕ). list_all (λ id. not (starts_with nat_eq id front)) c.args.fees.now) (cut-front c.args.n))
