use Rattle.std.proofs.Common.{◌∙◌, ◌++◌, ◌∷◌, [], List, length, map, ap, ap₂, sym}
use Rattle.std.proofs.lemmas.List.{length-map}
use Rattle.circ_records.specs.declared.key.Key.{Key}
use Rattle.replay_run.specs.Devices.Spans.{keys_in}
use Rattle.replay_run.specs.declared.written.Span.{Span}
use Rattle.replay_run.proofs.Spans.{added}
use Rattle.replay_run.proofs.written.WrittenKeys.add.Goals as goal

pub returns : goal.returns
returns c =
    let more : List Key = map (λ w. w.0) c.args.writes.now in
    let span : Span = record { from = c.len-from.result; count = length c.args.writes.now } in
    ap₂ (λ (keys : List Key) (spans : List Span). map (keys_in keys) spans) c.in_ok-put_keys.ensures.put c.in_ok-push.ensures.items
    ∙ added c.self.inside.keys.items more c.self.inside.spans.items span c.self.invariant
    (c.len-from.ensures ∙ c.self.inside.keys.ok.0) (sym (length-map c.args.writes.now (λ w. w.0)))
    ∙ ap (λ (old : List (List Key)). old ++ more ∷ []) c.self.view_is
