use Rattle.std.proofs.Common.{◌≡◌, ◌∙◌, ◌+◌, ◌++◌, ◌∷◌, [], false, map, ap, sym, subst, length, arith}
use Rattle.std.proofs.lemmas.Grind.{common_steps}
use Rattle.std.specs.BTreeMap.{is_at}
use Rattle.std.specs.List.{list_any}
use Rattle.std.specs.Option.{option_or}
use Rattle.circ_records.specs.Keys.{key_cmp}
use Rattle.circ_records.specs.Records.{Entries, record_at}
use Rattle.circ_records.specs.declared.key.Key.{Key}
use Rattle.read_set.specs.Plans.{Planned}
use Rattle.read_set.specs.Replay.{after}
use Rattle.replay_run.proofs.Ended.{unfound}
use Rattle.replay_run.proofs.Replayed.{SoFar, next, written-over}
use Rattle.replay_run.specs.Answers.{first_answers}
use Rattle.replay_run.specs.ReplayEnd.{ChangeThere}
use Rattle.replay_run.proofs.replay.replay.Goals as goal

pub loop-i-preserved : goal.loop-i-preserved
loop-i-preserved c =
    let plan : Planned = c.args.plan.now in
    let i = c.loop-i.i in
    let so = c.loop-i.invariant in
    let line = ap (λ first. first + i) c.first-first.ensures in
    let effect = c.in_ok-writes.field-0 in
    let gives = c.in_ok-writes.ensures.gives (after plan i) so.records in
    let kept = c.in_ok-writes.ensures.same in
    let answers = c.in_ok-push.ensures.items in
    let keys = map (λ w. w.0) effect.writes in
    let wrote = c.in_ok-add.ensures ∙ ap (λ (ws : Entries). c.loop-i.written ++ map (λ w. w.0) ws ∷ []) c.as_slice.ensures.writes in
    let stands = written-over plan (c.first-first.result + i) effect.writes (record_at c.effect_of.new.live) (after plan i) (record_at c.put.new.self) (λ k. kept k ∙ so.records k) c.in_ok-put.ensures gives.0 in
    let unchanged : (k : Key) → list_any (is_at (key_cmp k)) keys ≡ false → record_at c.put.new.self k ≡ record_at c.loop-i.live k = λ k none. c.in_ok-put.ensures k ∙ ap (λ found. option_or found (record_at c.effect_of.new.live k)) (unfound (is_at (key_cmp k)) effect.writes none) ∙ kept k in
    subst (λ given. SoFar plan (i + 1) (record_at c.put.new.self) given c.add.new.self) (sym answers)
    (subst (λ written. SoFar plan (i + 1) (record_at c.put.new.self) (c.loop-i.answers.items ++ effect.answer ∷ []) written) (sym wrote)
    (next plan i (c.first-first.result + i) (record_at c.loop-i.live) (record_at c.put.new.self) c.loop-i.answers.items effect.answer c.loop-i.written keys line so (sym gives.1) stands unchanged))

pub returns : goal.returns
returns c =
    let so = c.loop-i.invariant in
    let plan : Planned = c.args.plan.now in
    let all : c.loop-i.i ≡ length plan.readings = grind (arith, common_steps) in
    record {
      records = record {
        rising = c.in_ok-into_records.ensures.rising;
        same = λ k. ap (λ (r : Entries). record_at r k) c.in_ok-into_records.ensures.same ∙ so.records k ∙ ap (λ n. after plan n k) all;
      };
      answers = so.answers ∙ ap (first_answers plan) all;
      written = subst (λ n. ChangeThere plan n c.loop-i.written) all so.changes;
    }
