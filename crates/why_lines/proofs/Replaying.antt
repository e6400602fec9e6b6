-- Replays of a case: what one gives, each gives.
use Rattle.std.proofs.Common.{◌≡◌, ◌∙◌, ℕ, List, Bool, true, false, ap, refl, subst, sym, Result, Ok, Err}
use Rattle.std.specs.Prelude.{◌==◌, not}
use Rattle.std.specs.Cmp.Lexicographic.{nat_list_eq_equiv, pointwise}
use Rattle.replay_run.specs.Judgements.{Accepted, Refused, Fails}
use Rattle.replay_run.specs.OneThread.{IsOneThread, IsOutputOf, judgement}
use Rattle.replay_run.specs.declared.fault.Fault.{Fault}
use Rattle.replay_run.specs.declared.fault.Fault.TheVariants as faults
use Rattle.replay_run.specs.declared.inputs.Output.{Output}
use Rattle.why_lines.specs.Cases.{Replays}
use Rattle.why_lines.specs.declared.making.LineCase.{LineCase}

same_answers : (due : Result Accepted Refused) (o p : Output) → IsOutputOf due o → IsOutputOf due p → o.answers.items ≡ p.answers.items
same_answers (Ok j) o p a b = a.results.answers ∙ sym b.results.answers
same_answers (Err refused) o p a b = absurd a

-- other answers than the case's are those of every replay
pub answers_otherwise : (c : LineCase) (o : Output) → IsOneThread c.inputs (Ok o) → (o.answers.items ≡ c.answers.items → ⊥) → Replays c → ⊥
answers_otherwise c o one other again = other (same_answers (judgement c.inputs) o again.0 one again.1 ∙ again.2)

refused_none : (fault : Fault) (due : Result Accepted Refused) (o : Output) → (fault ≡ faults.Memory → ⊥) → Fails fault due → IsOutputOf due o → ⊥
refused_none faults.BadWorkers due o n fails out = fails
refused_none faults.PolicyText due o n fails out = subst (λ d. IsOutputOf d o) fails out
refused_none (faults.PolicyRule key) due o n fails out = subst (λ d. IsOutputOf d o) fails out
refused_none (faults.BaseTable table) due o n fails out = subst (λ d. IsOutputOf d o) fails out
refused_none (faults.BaseRule table row rule values) due o n fails out = subst (λ d. IsOutputOf d o) fails out
refused_none faults.JournalTable due o n fails out = subst (λ d. IsOutputOf d o) fails out
refused_none (faults.JournalRule row rule) due o n fails out = subst (λ d. IsOutputOf d o) fails out
refused_none (faults.Attempts line) due o n fails out = fails
refused_none faults.ClockSpent due o n fails out = fails
refused_none faults.Memory due o n fails out = n refl

-- a case that is refused has no replay
pub is_refused : (c : LineCase) (fault : Fault) → IsOneThread c.inputs (Err fault) → (fault ≡ faults.Memory → ⊥) → Replays c → ⊥
is_refused c fault fails n again = refused_none fault (judgement c.inputs) again.0 n fails again.1

-- answers that a comparison found to differ
pub told_apart : (b : Bool) (xs ys : List ℕ) → b ≡ not (pointwise ◌==◌ xs ys) → b ≡ true → xs ≡ ys → ⊥
told_apart b xs ys is apart same =
    let clash : true ≡ false = sym apart ∙ is ∙ ap not (ap (λ zs. pointwise ◌==◌ xs zs) (sym same) ∙ nat_list_eq_equiv.refl xs) in cc
