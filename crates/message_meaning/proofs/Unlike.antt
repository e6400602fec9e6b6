-- What is carried out if the rule's answer doesn't agree with it.
use Rattle.std.proofs.Common.{◌≡◌, ℕ, List, Bool, false, cond, ap}
use Rattle.circ_policy.specs.Terms.{Terms}
use Rattle.sip_answer.specs.declared.deed.Deed.{Deed}
use Rattle.sip_reader.specs.declared.request.Act.{Act}
use Rattle.read_set.specs.AsRecorded.{agrees_with, answering, carried, followed}
use Rattle.read_set.specs.Asks.{Give, ◌>>=◌}
use Rattle.read_set.specs.declared.effect.Effect.{Effect}

pub not_agreed : (p : Terms) (n : ℕ) (date : List ℕ) (act : Act) (o : Deed) (ruled : Effect) → agrees_with ruled.answer o ≡ false
    → followed p n date act o ruled ≡ (carried p n date act o >>= λ done. Give (answering ruled.answer done))
unfolding followed
not_agreed p n date act o ruled e = ap (λ (b : Bool). cond b (Give ruled) (carried p n date act o >>= λ done. Give (answering ruled.answer done))) e
