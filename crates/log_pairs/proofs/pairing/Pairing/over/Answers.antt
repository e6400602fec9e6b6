use Rattle.std.proofs.Common.{◌+◌, ℕ, List, None, false, length, ap, refl, ◌∙◌}
use Rattle.std.proofs.lemmas.List.{length-map}
use Rattle.log_pairs.specs.Pairs.{Pending, closed_of}
use Rattle.log_pairs.proofs.Keys.{client-after}
use Rattle.log_pairs.proofs.pairing.Pairing.over.Goals as goal

pub returns : goal.returns
returns c =
    let a = c.self.inside in
    rw (← c.self.view_is) (record {
      asked = ap (λ (ps : List Pending). a.taken + length ps) c.close_of.ensures ∙ ap (λ (n : ℕ). a.taken + n) (length-map a.waiting.items (closed_of false c.args.connection.now));
      pending = c.close_of.ensures;
      clients = client-after c.args.connection.now a.clients c.remove.new.self None c.args.connection.now refl c.remove.ensures.updates;
      unasked = refl;
      mismatched = refl;
    })
