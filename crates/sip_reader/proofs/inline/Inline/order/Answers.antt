use Rattle.std.proofs.Common.{◌∙◌, sym, ap}
use Rattle.std.specs.Ordering.{nat_cmp, ordering_then}
use Rattle.sip_reader.proofs.Ordered.{padded_order}
use Rattle.sip_reader.proofs.inline.Inline.order.Goals as goal

pub returns-in-Less : goal.returns-in-Less
returns-in-Less c =
    let xs = c.self.inside in
    let ys = c.other.inside in
    rw (← c.self.view_is, ← c.other.view_is, padded_order 14 xs.len ys.len xs.bytes ys.bytes c.self.invariant c.other.invariant)
    (ap (λ r. ordering_then r (nat_cmp xs.len ys.len)) (sym c.in-Less.is ∙ c.order_of.ensures))

pub returns-in-Equal : goal.returns-in-Equal
returns-in-Equal c =
    let xs = c.self.inside in
    let ys = c.other.inside in
    rw (← c.self.view_is, ← c.other.view_is, padded_order 14 xs.len ys.len xs.bytes ys.bytes c.self.invariant c.other.invariant)
    (c.cmp.ensures ∙ ap (λ r. ordering_then r (nat_cmp xs.len ys.len)) (sym c.in-Equal.is ∙ c.order_of.ensures))

pub returns-in-Greater : goal.returns-in-Greater
returns-in-Greater c =
    let xs = c.self.inside in
    let ys = c.other.inside in
    rw (← c.self.view_is, ← c.other.view_is, padded_order 14 xs.len ys.len xs.bytes ys.bytes c.self.invariant c.other.invariant)
    (ap (λ r. ordering_then r (nat_cmp xs.len ys.len)) (sym c.in-Greater.is ∙ c.order_of.ensures))
