-- Keys that are marked one by one.
use Rattle.std.proofs.Common.{◌≡◌, ◌∙◌, ◌<◌, ◌+◌, ℕ, Bool, true, false, cond, [], ◌∷◌, ◌++◌, Option, Some, None, length, get_or, take, refl, sym, ap}
use Rattle.std.specs.Prelude.{is_some}
use Rattle.std.specs.BTreeMap.{is_at}
use Rattle.std.specs.Ordering.{eq_by_cmp}
use Rattle.std.proofs.lemmas.List.{take_more}
use Rattle.circ_records.specs.Keys.{key_cmp}
use Rattle.circ_records.specs.Records.{Entries, record_at}
use Rattle.circ_records.specs.declared.key.Key.{Key}
use Rattle.circ_records.specs.declared.record.Record.{Record}
use Rattle.line_origins.specs.Origins.{written_by}
use Rattle.read_set.proofs.Keeping.{either-way}

alone : (b : Bool) (r : Record) (line : ℕ) (w : Option ℕ) → cond b (Some line) w ≡ cond (is_some (cond b (Some r) None)) (Some line) w
alone true r line w = refl
alone false r line w = refl

past : (a b : Bool) (r : Record) (f g : Option Record) (line : ℕ) (w : Option ℕ) → cond b (Some line) (cond (is_some f) (Some line) w) ≡ cond (is_some g) (Some line) w
    → cond b (Some line) (cond (is_some (cond a (Some r) f)) (Some line) w) ≡ cond (is_some (cond a (Some r) g)) (Some line) w
past true true r f g line w h = refl
past true false r f g line w h = refl
past false b r f g line w h = h

-- one write more
written_more : (writes : Entries) (e : Key × Record) (line : ℕ) (w : Option ℕ) (k : Key) → cond (is_at (key_cmp k) e.0) (Some line) (written_by writes line w k) ≡ written_by (writes ++ e ∷ []) line w k
written_more [] e line w k = alone (is_at (key_cmp k) e.0) e.1 line w
written_more (x ∷ writes) e line w k =
    past (is_at (key_cmp k) x.0) (is_at (key_cmp k) e.0) x.1 (record_at writes k) (record_at (writes ++ e ∷ []) k) line w (written_more writes e line w k)

-- the next write of a list
pub marked : (writes : Entries) (i : ℕ) (e : Key × Record) (line : ℕ) (w : Option ℕ) (k : Key) → i < length writes → e ≡ get_or writes i e
    → cond (eq_by_cmp key_cmp e.0 k) (Some line) (written_by (take i writes) line w k) ≡ written_by (take (i + 1) writes) line w k
marked writes i e line w k within is =
    ap (λ b. cond b (Some line) (written_by (take i writes) line w k)) (either-way e.0 k)
    ∙ written_more (take i writes) e line w k
    ∙ ap (λ (es : Entries). written_by es line w k) (sym (take_more writes i e within ∙ ap (λ (x : Key × Record). take i writes ++ x ∷ []) (sym is)))
