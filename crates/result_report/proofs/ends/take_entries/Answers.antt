use Rattle.std.proofs.Common.{◌≡◌, ◌∙◌, ℕ, ◌++◌, ◌∷◌, [], map, take, ap, subst, rules, Some}
use Rattle.circ_records.specs.declared.key.Key.{Key}
use Rattle.result_report.specs.Ends.{HasAt, keys_named}
use Rattle.result_report.proofs.Collected.{entry-more, keys-all, nothing, settled, taken}
use Rattle.result_report.proofs.ends.take_entries.Goals.{then-not-is_taken+in-Some-final_of+in_ok-clone+in_ok-copy+in_ok-put, then-not-is_taken+in_default-final_of, else-not-is_taken}
use Rattle.result_report.proofs.ends.take_entries.Goals as goal

pub loop-entry-preserved : goal.loop-entry-preserved
loop-entry-preserved g c further has =
    let M = g.E.End.left c.args.end.now in
    let entries = g.E.End.entered c.args.end.now c.args.line in
    let e : Key × ℕ = (c.in-Some.entry.0.now, c.in-Some.entry.1) in
    let base = (g.E.End.planned c.args.end.now).base in
    let keys = map (λ e. e.0) base ++ further in
    let front = keys ++ keys_named (take c.loop-entry.i entries) in
    let so_far = c.loop-entry.invariant further has in
    let more : HasAt (front ++ e.0 ∷ []) M c.if-not-is_taken.records = elim c.if-not-is_taken.branch [
      | then-not-is_taken+in-Some-final_of+in_ok-clone+in_ok-copy+in_ok-put w ↦
          let same : w.in_ok-clone.field-0 ≡ e.0 = search rules in
          let put = rw same at w.in_ok-put.ensures.put in
          rw w.records-is (taken front M c.loop-entry.records w.put.new.self e.0 w.in_ok-copy.field-0 (ap (λ r. Some r) w.in_ok-copy.ensures ∙ w.in-Some-final_of.ensures) put so_far)
      | then-not-is_taken+in_default-final_of w ↦ rw w.records-is (nothing front M c.loop-entry.records e.0 w.in_default-final_of.ensures so_far)
      | else-not-is_taken w ↦ rw w.records-is (settled base further (keys_named (take c.loop-entry.i entries)) M c.loop-entry.records e.0 (c.is_taken.ensures.0 w.if-not-is_taken.false) so_far)
    ] in
    entry-more M c.if-not-is_taken.records keys entries c.loop-entry.i e c.in-Some.ensures.value more

pub returns : goal.returns
returns g c further has =
    let M = g.E.End.left c.args.end.now in
    let entries = g.E.End.entered c.args.end.now c.args.line in
    subst (λ es. HasAt ((map (λ e. e.0) (g.E.End.planned c.args.end.now).base ++ further) ++ keys_named es) M c.loop-entry.records) (keys-all entries c.loop-entry.i c.in_default.ensures.value) (c.loop-entry.invariant further has)
