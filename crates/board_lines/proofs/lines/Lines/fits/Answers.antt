use Rattle.std.proofs.Common.{◌≡◌, List, sym, ap, subst, ◌∙◌}
use Rattle.std.specs.Bool.{Decides}
use Rattle.read_set.specs.Plans.{Planned}
use Rattle.read_set.specs.Settling.{Contents}
use Rattle.read_set.specs.declared.notes.Note.{Note}
use Rattle.board_lines.specs.Notes.{notes_by}
use Rattle.board_lines.specs.Parts.{row_shown}
use Rattle.board_lines.proofs.Publications.{not_fits, fits_by}
use Rattle.board_lines.proofs.Standing.{noted_may}
use Rattle.board_lines.proofs.lines.Lines.fits.Goals as goal

pub returns-then-line-hand-clause-fits : goal.returns-then-line-hand-clause-fits
returns-then-line-hand-clause-fits g c =
    λ w notes may. not_fits c.args.self.now c.args.hand.line notes c.args.place.version.now c.args.hand.attempt c.requires.attempt
    (λ e. c.if-line-hand.true (c.line.ensures ∙ ap (λ (v : Contents). v.line) c.show-version.ensures ∙ e.0))

pub returns-then-attempt-hand-clause-fits : goal.returns-then-attempt-hand-clause-fits
returns-then-attempt-hand-clause-fits g c =
    λ w notes may. not_fits c.args.self.now c.args.hand.line notes c.args.place.version.now c.args.hand.attempt c.requires.attempt
    (λ e. c.if-attempt-hand.true (c.attempt.ensures ∙ ap (λ (v : Contents). v.attempt) c.show-version.ensures ∙ e.1))

pub returns-in_default-clause-fits : goal.returns-in_default-clause-fits
returns-in_default-clause-fits g c = absurd (c.in_default.ensures c.requires.there)

pub returns-clause-fits : goal.returns-clause-fits
returns-clause-fits g c =
    let plan = g.J.PlanName.plan in
    let v : Contents = c.args.place.version.now in
    let row = c.in-Some.row.now in
    λ w notes may.
    let r = c.same_notes.result in
    let theirs_is : c.reads-reads.result.now ≡ v.reads = c.reads-reads.ensures.reads ∙ ap (λ (x : Contents). x.reads) c.show-version.ensures in
    let notes_is : notes ≡ notes_by c.self.inside.plan.now.base row.notes =
    noted_may plan c.args.self.now c.args.hand.line c.in-Some.field-0-0 (row_shown row) c.in-Some.ensures w notes may ∙ ap (λ (x : Planned). notes_by x.base row.notes) (sym c.self.invariant.0) in
    let decided : Decides r (v.reads ≡ notes) =
    subst (λ (xs : List Note). Decides r (xs ≡ notes)) theirs_is (subst (λ (ys : List Note). Decides r (c.reads-reads.result.now ≡ ys)) (sym notes_is) c.same_notes.ensures) in
    fits_by c.args.self.now c.args.hand.line notes v c.args.hand.attempt c.requires.attempt r
    (ap (λ (x : Contents). x.line) (sym c.show-version.ensures) ∙ sym c.line.ensures ∙ c.if-line-hand.false)
    (ap (λ (x : Contents). x.attempt) (sym c.show-version.ensures) ∙ sym c.attempt.ensures ∙ c.if-attempt-hand.false)
    decided
