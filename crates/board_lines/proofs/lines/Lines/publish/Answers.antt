use Rattle.std.proofs.Common.{◌≡◌, suc, false, true, refl, sym, ◌∙◌, arith}
use Rattle.read_set.specs.Settling.{Contents}
use Rattle.board_steps.specs.Board.{IsLine, row_at}
use Rattle.board_steps.specs.Steps.{MayPublish, Fits}
use Rattle.board_lines.specs.Acts.{notes_at}
use Rattle.board_lines.proofs.lines.Lines.publish.Goals as goal

pub returns-in_default : goal.returns-in_default
returns-in_default g c =
    (c.in_default.ensures, refl)

pub fits-requires : goal.fits-requires
fits-requires g c =
    let b = c.args.self.now in
    let w = c.args.worker in
    let n = c.in-Some.hand.line in
    let ready : IsLine b n × MayPublish b w n (notes_at b n) × (suc c.in-Some.hand.attempt ≡ (row_at b n).next) = c.in-Some.ensures in
    record { there = ready.0; attempt = ready.2 }

pub returns-then-not-fits : goal.returns-then-not-fits
returns-then-not-fits g c =
    let b = c.args.self.now in
    let w = c.args.worker in
    let n = c.in-Some.hand.line in
    let ready : IsLine b n × MayPublish b w n (notes_at b n) × (suc c.in-Some.hand.attempt ≡ (row_at b n).next) = c.in-Some.ensures in
    (n, notes_at b n, ready.1, λ f. (let z : true ≡ false = sym ((c.fits.ensures.fits w (notes_at b n) ready.1).1 f) ∙ c.if-not-fits.true in cc), refl)

pub next_act-requires : goal.next_act-requires
next_act-requires g c =
    let b = c.args.self.now in
    let w = c.args.worker in
    let n = c.in-Some.hand.line in
    let v : Contents = c.args.place.version.now in
    let ready : IsLine b n × MayPublish b w n (notes_at b n) × (suc c.in-Some.hand.attempt ≡ (row_at b n).next) = c.in-Some.ensures in
    let fit : Fits b n (notes_at b n) v = (c.fits.ensures.fits w (notes_at b n) ready.1).0 c.if-not-fits.false in
    record { may = ready.1; fits = fit; version = c.fits.ensures.version; placed = λ j x lt h. absurd (omega (arith, lt)) }
