-- Both ways a line's answer is the answer of the rules.
use Rattle.std.proofs.Common.{◌≡◌, ◌∙◌, ℕ, Bool, true, false, cond, List, Option, Some, None, refl, ap}
use Rattle.circ_policy.specs.Terms.{Terms}
use Rattle.sip_answer.specs.declared.deed.Deed.{Deed}
use Rattle.sip_reader.specs.declared.request.Act.{Act}
use Rattle.read_set.specs.AsRecorded.{agrees_with, answering, carried, followed}
use Rattle.read_set.specs.Asks.{Asks, Give, over, ◌>>=◌}
use Rattle.read_set.specs.Maps.{Map}
use Rattle.read_set.specs.Meaning.{rule_of, rule_with}
use Rattle.read_set.specs.declared.effect.Effect.{Effect}
use Rattle.read_set.proofs.Following.{over_all, over_then}

either_answers : (b : Bool) (M : Map) (ruled : Effect) (done : Asks Effect)
    → (over M (cond b (Give ruled) (done >>= λ e. Give (answering ruled.answer e)))).answer ≡ ruled.answer
either_answers true M ruled done = refl
either_answers false M ruled done =
    over_all M done (λ e. Give (answering ruled.answer e)) (λ (e : Effect). e.answer ≡ ruled.answer) (λ e. refl)

followed_answers : (p : Terms) (n : ℕ) (date : List ℕ) (act : Act) (o : Deed) (M : Map) (ruled : Effect)
    → (over M (followed p n date act o ruled)).answer ≡ ruled.answer
unfolding followed
followed_answers p n date act o M ruled = either_answers (agrees_with ruled.answer o) M ruled (carried p n date act o)

-- whatever deed a line has, its answer is that of the rules on the records before it
pub answer_is_ruled : (p : Terms) (n : ℕ) (date : List ℕ) (act : Act) (o : Option Deed) (M : Map)
    → (over M (rule_with p n date act o)).answer ≡ (over M (rule_of p n date act)).answer
unfolding rule_with
answer_is_ruled p n date act None M = refl
answer_is_ruled p n date act (Some o) M =
    ap (λ (e : Effect). e.answer) (over_then M (rule_of p n date act) (λ ruled. followed p n date act o ruled))
    ∙ followed_answers p n date act o M (over M (rule_of p n date act))
