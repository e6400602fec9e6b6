-- What becomes of the case that was made.
use Rattle.std.proofs.Common.{◌≡◌, ℕ, List, Option, Some, None, Result, Ok, Err, subst, sym}
use Rattle.std.specs.Prelude.{IfNone, IfOk, IfSome}
use Rattle.journal_table.specs.Entry.{Entry}
use Rattle.read_set.specs.Plans.{Planned}
use Rattle.why_lines.specs.Cases.{IsCertified, IsDropped, IsOfLine, Replays}
use Rattle.why_lines.specs.declared.making.LineCase.{LineCase}

-- it is given out with its certificate
pub given_out : {E : Type 0} (r : Result (Option LineCase) E) (case : LineCase) (given : List ℕ) (plan : Planned) (line : Entry) → IsOfLine given plan line case
    → IfOk r (λ c. IfSome c (λ it. (it ≡ case) × Replays case)) → IfOk r (λ c. IfSome c (IsCertified given plan line))
given_out (Ok (Some it)) case given plan line made e = (subst (IsOfLine given plan line) (sym e.0) made, subst Replays (sym e.0) e.1)
given_out (Ok None) case given plan line made e = tt
given_out (Err e) case given plan line made h = tt

-- or dropped
pub not_given : {E : Type 0} (r : Result (Option LineCase) E) (case : LineCase) (given : List ℕ) (plan : Planned) (line : Entry) → IsOfLine given plan line case
    → IfOk r (λ c. IfNone c (Replays case → ⊥)) → IfOk r (λ c. IfNone c (IsDropped given plan line))
not_given (Ok (Some it)) case given plan line made e = tt
not_given (Ok None) case given plan line made e = (case, made, e)
not_given (Err e) case given plan line made h = tt
