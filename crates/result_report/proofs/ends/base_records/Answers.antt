use Rattle.std.proofs.Common.{◌≡◌, ◌∙◌, ◌+◌, ◌++◌, ◌∷◌, [], map, take, ap, rules, Some, subst, sym}
use Rattle.std.proofs.lemmas.List.{map-append, take_all, take_more}
use Rattle.circ_records.specs.declared.key.Key.{Key}
use Rattle.circ_records.specs.declared.record.Record.{Record}
use Rattle.read_set.specs.Plans.{Planned}
use Rattle.result_report.specs.Ends.{HasAt}
use Rattle.result_report.proofs.Collected.{nothing, taken}
use Rattle.result_report.proofs.ends.base_records.Goals.{in-Some+in_ok-clone+in_ok-copy+in_ok-put, in_default}
use Rattle.result_report.proofs.ends.base_records.Goals as goal

pub loop-entry-preserved : goal.loop-entry-preserved
loop-entry-preserved g c =
    let M = g.E.End.left c.args.end.now in
    let keys = c.keys-keys.result.now in
    let i = c.loop-entry.entry-index in
    let entry = c.entry-item.result in
    let key = λ (e : Key × Record). e.0 in
    let more : take (i + 1) keys ≡ take i keys ++ entry ∷ [] = take_more keys i entry c.loop-entry-test.true ∙ ap (λ (e : Key × Record). take i keys ++ e ∷ []) (sym c.entry-item.is) in
    let next : map (λ e. e.0) (take (i + 1) keys) ≡ map (λ e. e.0) (take i keys) ++ entry.0 ∷ [] = ap (map key) more ∙ map-append key (take i keys) (entry ∷ []) in
    elim c.match-final_of.branch [
      | in-Some+in_ok-clone+in_ok-copy+in_ok-put w ↦
          let same : w.in_ok-clone.field-0 ≡ entry.0 = search rules in
          let put = rw same at w.in_ok-put.ensures.put in
          rw (w.records-is, next)
          (taken (map (λ e. e.0) (take i keys)) M c.loop-entry.records w.put.new.self entry.0 w.in_ok-copy.field-0 (ap (λ r. Some r) w.in_ok-copy.ensures ∙ w.in-Some.ensures) put c.loop-entry.invariant)
      | in_default w ↦ rw (w.records-is, next) (nothing (map (λ e. e.0) (take i keys)) M c.loop-entry.records entry.0 w.in_default.ensures c.loop-entry.invariant)
    ]

pub returns : goal.returns
returns g c =
    let all = take_all c.loop-entry.entry-index c.keys-keys.result.now c.loop-entry-test.false ∙ c.keys-keys.ensures.keys ∙ ap (λ (plan : Planned). plan.base) c.plan.ensures in
    subst (λ es. HasAt (map (λ e. e.0) es) (g.E.End.left c.args.end.now) c.loop-entry.records) all c.loop-entry.invariant
