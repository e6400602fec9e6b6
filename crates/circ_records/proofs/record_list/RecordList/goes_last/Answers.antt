use Rattle.std.proofs.Common.{◌≡◌, Some, length, ◌-◌, ◌∙◌, ap, rules, sym}
use Rattle.std.specs.Ordering.{is_gt}
use Rattle.std.specs.Prelude.{slice_get}
use Rattle.std.specs.declared.cmp.Ordering.TheVariants.{Less}
use Rattle.circ_records.specs.Keys.{key_cmp, key_of}
use Rattle.circ_records.proofs.Behind.{behind-list, greater}
use Rattle.circ_records.proofs.Positions.{ends, turned}
use Rattle.circ_records.proofs.record_list.RecordList.goes_last.Goals as goal

-- the last is below the key, so all are
pub returns-in-Some : goal.returns-in-Some
returns-in-Some c = λ yes.
    let es = c.args.self.now.entries.items in
    let k = key_of c.args.key in
    let there : Some c.in-Some.last.now ≡ slice_get es (length es - 1) = search rules in
    let below : key_cmp c.in-Some.last.now.0 k ≡ Less = turned _ k (greater _ (ap is_gt (sym c.compare.ensures) ∙ sym c.is_gt.ensures ∙ yes)) in
    ends es k (behind-list es k c.in-Some.last.now c.requires there below)
