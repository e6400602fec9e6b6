use Rattle.std.proofs.Common.{◌∙◌, ap, drop, sym, take, arith}
use Rattle.std.specs.Ordering.{nat_cmp}
use Rattle.std.specs.Slice.Scan.{big_endian}
use Rattle.sip_reader.proofs.Ordered.{decided, last_word}
use Rattle.sip_reader.proofs.inline.order_of.Goals as goal

pub returns-then-first-other : goal.returns-then-first-other
returns-then-first-other c =
    c.cmp.ensures
    ∙ decided c.args.a.now c.args.b.now c.requires.these c.requires.others
    (λ k. let f = c.type_inv.a k in omega arith) (λ k. let f = c.type_inv.b k in omega arith)
    c.word_at-first.result c.word_at-other.result c.word_at-first.ensures c.word_at-other.ensures c.if-first-other.true

pub returns : goal.returns
returns c =
    c.cmp-2.ensures
    ∙ ap (λ z. nat_cmp z c.word_at-another.result) c.word_at-last.ensures
    ∙ ap (nat_cmp (big_endian 0 (take 8 (drop 6 c.args.a.now)))) c.word_at-another.ensures
    ∙ last_word c.args.a.now c.args.b.now c.requires.these c.requires.others
    (λ k. let f = c.type_inv.a k in omega arith) (λ k. let f = c.type_inv.b k in omega arith)
    (sym c.word_at-first.ensures ∙ c.if-first-other.false ∙ c.word_at-other.ensures)
