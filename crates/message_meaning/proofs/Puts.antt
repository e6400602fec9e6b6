-- Records put over records.
use Rattle.std.proofs.Common.{◌≡◌, ◌∙◌, Bool, true, false, cond, [], ◌∷◌, ◌++◌, Option, Some, None, refl, sym, ap}
use Rattle.std.specs.BTreeMap.{is_at}
use Rattle.std.specs.Option.{option_or}
use Rattle.std.specs.Ordering.{eq_by_cmp}
use Rattle.circ_records.specs.Keys.{key_cmp}
use Rattle.circ_records.specs.Records.{Entries, record_at}
use Rattle.circ_records.specs.declared.key.Key.{Key}
use Rattle.circ_records.specs.declared.record.Record.{Record}
use Rattle.read_set.specs.Maps.{Map, put}
use Rattle.read_set.proofs.Keeping.{either-way}

over_more : (b : Bool) (r : Record) (found rest : Option Record) → option_or (cond b (Some r) found) rest ≡ cond b (Some r) (option_or found rest)
over_more true r found rest = refl
over_more false r found rest = refl

-- writes, the last of which is put first
pub put_last : (writes : Entries) (last : Key × Record) (M : Map) (k : Key) → put (writes ++ last ∷ []) M k ≡ put writes (λ q. cond (eq_by_cmp key_cmp last.0 q) (Some last.1) (M q)) k
put_last [] last M k = over_more (is_at (key_cmp k) last.0) last.1 None (M k) ∙ ap (λ b. cond b (Some last.1) (M k)) (either-way k last.0)
put_last (w ∷ writes) last M k =
    over_more (is_at (key_cmp k) w.0) w.1 (record_at (writes ++ last ∷ []) k) (M k)
    ∙ ap (λ found. cond (is_at (key_cmp k) w.0) (Some w.1) found) (put_last writes last M k)
    ∙ sym (over_more (is_at (key_cmp k) w.0) w.1 (record_at writes k) (cond (eq_by_cmp key_cmp last.0 k) (Some last.1) (M k)))
