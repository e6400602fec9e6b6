use Rattle.std.proofs.Common.{◌∙◌, ap, sym, length}
use Rattle.log_pairs.specs.Pairs.{Open}
use Rattle.log_pairs.proofs.Places.{answer-found, client-found, place-found}
use Rattle.log_pairs.proofs.pairing.Pairing.find.Goals as goal

pub returns-clause-client : goal.returns-clause-client
returns-clause-client c =
    let a = c.self.inside in
    rw (← c.self.view_is) (c.then.ensures ∙ client-found c.args.client c.args.connection.now c.args.response.now a.waiting.items c.len-all.result c.last-opened.result c.last-kind.result c.last-exact.result
    c.chosen-fit.result c.is_some.result c.is_some-2.result c.is_some-3.result c.is_some-4.result (c.len-all.ensures ∙ a.waiting.ok.0) c.last-opened.ensures c.last-kind.ensures c.last-exact.ensures
    (rw (c.uses_digits.ensures) at c.chosen-fit.ensures) c.is_some.ensures c.is_some-2.ensures c.is_some-3.ensures c.is_some-4.ensures)

pub returns-clause-answer : goal.returns-clause-answer
returns-clause-answer c =
    let a = c.self.inside in
    rw (← c.self.view_is) (rw (c.settled-answer.ensures) (answer-found c.args.client c.args.connection.now c.args.response.now a.waiting.items c.len-all.result c.last-opened.result c.last-kind.result c.last-exact.result
    c.chosen-fit.result c.gives-gives.result (c.len-all.ensures ∙ a.waiting.ok.0) c.last-opened.ensures c.last-kind.ensures c.last-exact.ensures (rw (c.uses_digits.ensures) at c.chosen-fit.ensures)
    (rw (← c.self.view_is) at c.gives-gives.ensures)))

pub returns-clause-place : goal.returns-clause-place
returns-clause-place c =
    let a = c.self.inside in
    rw (← c.self.view_is) (rw (c.settled-answer.ensures) (place-found c.args.client c.args.connection.now c.args.response.now a.waiting.items c.len-all.result c.last-opened.result c.last-kind.result c.last-exact.result
    c.chosen-fit.result c.gives-gives.result (c.len-all.ensures ∙ a.waiting.ok.0) c.last-opened.ensures c.last-kind.ensures c.last-exact.ensures (rw (c.uses_digits.ensures) at c.chosen-fit.ensures)))
