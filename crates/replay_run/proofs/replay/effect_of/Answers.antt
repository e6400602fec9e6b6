use Rattle.std.proofs.Common.{◌≡◌, ◌∙◌, None, refl, sym, ap, unwrap_or}
use Rattle.circ_records.specs.Records.{record_at}
use Rattle.circ_records.specs.declared.key.Key.{Key}
use Rattle.replay_run.proofs.replay.effect_of.Goals as goal

pub returns-in-Ok-clause-gives : goal.returns-in-Ok-clause-gives
returns-in-Ok-clause-gives c M same =
    let kept : (j : Key) → record_at c.perform.new.source j ≡ record_at c.args.live.now j = λ j. ap (λ o. unwrap_or o None) (c.perform.ensures.keeps.grows j (record_at c.args.live.now j) refl) in
    let gives = c.in-Ok.ensures.gives M (λ j found e. sym (same j) ∙ sym (kept j) ∙ ap (λ o. unwrap_or o None) e) in
    (gives.0, gives.1)
