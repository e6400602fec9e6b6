use Rattle.std.proofs.Common.{◌≡◌, ◌+◌, ℕ, List, Some, Bool, ap, ◌∷◌, map, ◌∙◌}
use Rattle.log_pairs.specs.Pairs.{Pending, answer_for, client_of, client_then, given, is_misfit, is_unasked, more, uses_digits}
use Rattle.log_pairs.specs.Devices.Places.{named}
use Rattle.log_pairs.specs.declared.client.Answered.{Answered}
use Rattle.log_pairs.specs.declared.client.FitCounts.{FitCounts}
use Rattle.log_pairs.proofs.Keys.{client-after}
use Rattle.log_pairs.proofs.Places.{placed-length, placed-same}
use Rattle.log_pairs.proofs.pairing.Pairing.answer.Goals as goal

pub returns-clause-steps : goal.returns-clause-steps
returns-clause-steps c =
    let a = c.self.inside in
    let ps = a.waiting.items in
    let d = c.args.connection.now in
    let m = c.args.response.now in
    let found = c.find-found.result in
    let its : c.client.result ≡ client_of (map named a.clients.entries) d = rw (← c.self.view_is) at c.client.ensures in
    let f = rw (← c.self.view_is) at c.find-found.ensures in
    let answer : found.answer ≡ answer_for (client_of (map named a.clients.entries) d) d m ps = f.answer ∙ ap (λ (k : FitCounts). answer_for k d m ps) its in
    rw (← c.self.view_is) (record {
      asked = ap (λ (n : ℕ). a.taken + n) (placed-length found.place c.in_ok-bytes.bytes.items ps c.give.new.waiting.items c.give.ensures);
      pending = placed-same found.place c.in_ok-bytes.bytes.items m ps c.give.new.waiting.items (given found.answer (uses_digits c.client.result) d m ps) c.give.ensures f.place c.in_ok-bytes.ensures.items
          ∙ ap (λ (x : Answered). given x (uses_digits c.client.result) d m ps) answer
          ∙ ap (λ (k : FitCounts). given (answer_for (client_of (map named a.clients.entries) d) d m ps) (uses_digits k) d m ps) its;
      clients = λ e. client-after d a.clients c.insert.new.self (Some found.client) c.in_ok-name.name.items c.in_ok-name.ensures.items c.in_ok-insert.ensures.updates e
          ∙ ap (λ (k : FitCounts). client_of ((d, k) ∷ map named a.clients.entries) e) (f.client ∙ ap (λ (k : FitCounts). client_then k d m ps) its);
      unasked = c.more-self-inside.ensures ∙ ap (λ (b : Bool). more a.unasked b) (c.is_unasked.ensures ∙ ap is_unasked answer);
      mismatched = c.more-self-inside-2.ensures ∙ ap (λ (b : Bool). more a.mismatched b) (c.is_misfit.ensures ∙ ap is_misfit answer);
    })
