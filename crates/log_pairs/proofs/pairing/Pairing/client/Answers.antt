use Rattle.std.proofs.Common.{Some, None, ap, sym, ◌∙◌}
use Rattle.std.specs.Prelude.{Option, unwrap_or}
use Rattle.log_pairs.specs.Pairs.{no_client}
use Rattle.log_pairs.specs.declared.client.FitCounts.{FitCounts}
use Rattle.log_pairs.proofs.Keys.{client-in}
use Rattle.log_pairs.proofs.pairing.Pairing.client.Goals as goal

pub returns-in-Some : goal.returns-in-Some
returns-in-Some c =
    rw (← c.self.view_is) (ap (λ (o : Option FitCounts). unwrap_or o no_client) (c.in-Some.ensures.value) ∙ sym (client-in c.self.inside.clients c.args.connection.now))

pub returns-in-None : goal.returns-in-None
returns-in-None c =
    rw (← c.self.view_is) (c.new.ensures ∙ ap (λ (o : Option FitCounts). unwrap_or o no_client) (c.in-None.ensures.value) ∙ sym (client-in c.self.inside.clients c.args.connection.now))
