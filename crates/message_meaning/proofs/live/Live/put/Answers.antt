use Rattle.std.proofs.Common.{rules, ◌≡◌, ◌∙◌, ◌∷◌, [], ◌++◌, sym, ap}
use Rattle.std.specs.Option.{option_or}
use Rattle.circ_records.specs.Records.{Entries, record_at}
use Rattle.circ_records.specs.declared.key.Key.{Key}
use Rattle.read_set.specs.Maps.{put}
use Rattle.message_meaning.proofs.Puts.{put_last}
use Rattle.message_meaning.proofs.live.Live.put.Goals as goal

pub loop-key-preserved : goal.loop-key-preserved
loop-key-preserved c = λ (k : Key).
    let all : c.loop-key.left.items ≡ c.pop.new.self.items ++ (c.in-Some.key, c.in-Some.written) ∷ [] = search rules in
    ap (λ found. option_or (record_at c.pop.new.self.items k) found) (c.in_ok-put.ensures.put k)
    ∙ sym (put_last c.pop.new.self.items (c.in-Some.key, c.in-Some.written) (record_at c.loop-key.self-inside.records) k)
    ∙ ap (λ (writes : Entries). put writes (record_at c.loop-key.self-inside.records) k) (sym all)
    ∙ c.loop-key.invariant k
