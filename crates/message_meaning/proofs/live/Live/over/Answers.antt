use Rattle.std.proofs.Common.{◌∙◌, map, sym, ap, subst}
use Rattle.std.specs.List.Sorted.{IsStrictlySortedBy}
use Rattle.circ_records.specs.Keys.{key_cmp}
use Rattle.circ_records.specs.Records.{Entries, record_at}
use Rattle.message_meaning.proofs.Copying.{all_copied, copied_more}
use Rattle.message_meaning.proofs.live.Live.over.Goals as goal

pub loop-entry-preserved : goal.loop-entry-preserved
loop-entry-preserved c =
    let put = rw (c.in_ok-key.ensures.cases, c.in_ok-record.ensures) at c.in_ok-put.ensures.put in
    copied_more c.keys-keys.result.now c.loop-entry.records c.put.new.self c.loop-entry.entry-index c.entry-item.result
    (subst (λ (es : Entries). IsStrictlySortedBy key_cmp (map (λ x. x.0) es)) (sym c.keys-keys.ensures.keys) c.keys-keys.ensures.rising)
    c.loop-entry-test.true c.entry-item.is put c.loop-entry.invariant

pub returns : goal.returns
returns c = λ k.
    all_copied c.keys-keys.result.now c.loop-entry.records c.loop-entry.entry-index c.loop-entry-test.false k (c.loop-entry.invariant k)
    ∙ ap (λ (es : Entries). record_at es k) c.keys-keys.ensures.keys
