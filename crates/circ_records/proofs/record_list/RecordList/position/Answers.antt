use Rattle.std.proofs.Common.{rules, subst, sym}
use Rattle.std.proofs.lemmas.Fn.{always_returns_same}
use Rattle.circ_records.specs.Keys.{key_cmp, key_of}
use Rattle.circ_records.specs.Records.{AreRising}
use Rattle.circ_records.specs.declared.key.Key.{Key}
use Rattle.circ_records.specs.declared.record.Record.{Record}
use Rattle.circ_records.proofs.Positions.{halved}
use Rattle.circ_records.proofs.record_list.RecordList.position.Goals as goal

-- the closure says how the key of an entry compares with the one that is looked for
pub returns : goal.returns
returns c =
    let facts = c.binary_search_by.ensures in
    let by = facts.position (λ (e : Key × Record). key_cmp e.0 (key_of c.args.key)) (always_returns_same _ _ _ (λ a r f' called. (search rules, search rules))) in
    rw (← c.as_slice-listed.ensures.value) (halved c.as_slice-listed.result.now (key_of c.args.key) c.binary_search_by.result (subst AreRising (sym c.as_slice-listed.ensures.value) c.requires) facts.bound by)
