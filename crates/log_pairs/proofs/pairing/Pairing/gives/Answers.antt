use Rattle.std.proofs.Common.{length, subst, sym, ◌∙◌, ℕ}
use Rattle.log_pairs.specs.Pairs.{is_of, is_open_of, takes_misfits}
use Rattle.log_pairs.specs.Devices.Places.{IsLast}
use Rattle.log_pairs.proofs.Places.{gives-last}
use Rattle.log_pairs.proofs.pairing.Pairing.gives.Goals as goal

pub returns-in-None-Some : goal.returns-in-None-Some
returns-in-None-Some c =
    let ps = c.self.inside.waiting.items in
    let d = c.args.connection.now in
    rw (c.in-None-Some.is-0, c.in-None-Some.is-1, ← c.self.view_is)
    (gives-last (takes_misfits c.args.client) d ps c.in-None-Some.at c.last.result c.is_place.result
    (sym c.takes_misfits.ensures ∙ c.if-takes_misfits.true) (rw (c.in-None-Some.is-1, ← c.self.view_is) at c.requires)
    (subst (λ (n : ℕ). IsLast (is_of d) ps n c.last.result) (c.len-all.ensures ∙ c.self.inside.waiting.ok.0) c.last.ensures) c.is_place.ensures)
