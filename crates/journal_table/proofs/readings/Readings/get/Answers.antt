use Rattle.std.proofs.Common.{◌/◌, ◌%◌, sym, ap, ◌∙◌, option_copied, arith}
use Rattle.std.specs.Prelude.{slice_get}
use Rattle.journal_table.proofs.Stretches.{found, lent, missing}
use Rattle.journal_table.proofs.readings.Readings.get.Goals as goal

pub returns-in_err-stretch : goal.returns-in_err-stretch
returns-in_err-stretch c =
    let inside = c.self.inside in
    let place = c.args.place in
    let look = lent c.deref.result.now (place / 4096) c.get.result c.get.ensures.lookup in
    let none = sym (ap option_copied c.in_err-stretch.was) ∙ look ∙ ap (λ l. slice_get l (place / 4096)) c.deref.ensures.value in
    rw (c.from_residual.ensures, ← c.self.view_is)
    (missing inside.first inside.stretches.items 4096 (place / 4096) (place % 4096) place c.self.invariant.full (omega arith) (omega arith) none)

pub returns : goal.returns
returns c =
    let inside = c.self.inside in
    let place = c.args.place in
    let s = c.in_ok-stretch.stretch in
    let look = lent c.deref.result.now (place / 4096) c.get.result c.get.ensures.lookup in
    let some = sym (ap option_copied c.in_ok-stretch.was) ∙ look ∙ ap (λ l. slice_get l (place / 4096)) c.deref.ensures.value in
    let item = lent c.deref-2.result.now (place % 4096) c.get-2.result c.get-2.ensures.lookup ∙ ap (λ l. slice_get l (place % 4096)) c.deref-2.ensures.value in
    rw (← c.self.view_is)
    (item ∙ found inside.first inside.stretches.items 4096 (place / 4096) (place % 4096) place s.now c.self.invariant.full (omega arith) (omega arith) some)
