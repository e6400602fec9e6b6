use Rattle.std.proofs.Common.{◌≡◌, true, false, replicate}
use Rattle.speculate.proofs.ready.Ready.new.Goals as goal

pub returns : goal.returns
returns c =
    let e1 : c.in_ok-new.field-0 ≡ replicate c.args.len true = c.in_ok-new.ensures in
    let e2 : c.in_ok-new-2.field-0 ≡ replicate c.args.len false = c.in_ok-new-2.ensures in
    let e3 : c.in_ok-new-3.field-0 ≡ replicate c.args.len false = c.in_ok-new-3.ensures in
    let e4 : c.in_ok-new-4.field-0 ≡ replicate c.args.len false = c.in_ok-new-4.ensures in
    rw (e1, e2, e3, e4)
