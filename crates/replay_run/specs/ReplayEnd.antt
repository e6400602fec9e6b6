-- The end of a run by one thread.
use Rattle.std.specs.Prelude.{◌≡◌, ◌<◌, ◌-◌, ℕ, suc, false, if◌then◌else◌, List, [], length, map, nat_lt, slice_get, unwrap_or}
use Rattle.std.specs.BTreeMap.{is_at}
use Rattle.std.specs.List.{list_any}
use Rattle.circ_records.specs.Keys.{key_cmp}
use Rattle.circ_records.specs.declared.key.Key.{Key}
use Rattle.read_set.specs.Plans.{Planned}
use Rattle.read_set.specs.Replay.{after, last}
use Rattle.replay_run.specs.Answers.{answers_of}
use Rattle.replay_run.specs.Entries.{AreEntries}
use Rattle.replay_run.specs.declared.replay.Replayed.{Replayed}

-- the keys that the line at a place wrote
abbrev pub keys_at : List (List Key) → ℕ → List Key
keys_at written place = unwrap_or (slice_get written place) []

-- those of the line of a number, each by attempt 0
abbrev pub entered_at : ℕ → List (List Key) → ℕ → List (Key × ℕ)
entered_at first written line =
    if nat_lt line first then [] else map (λ key. (key, 0)) (keys_at written (line - first))

-- of the first `count` lines each changes nothing but at the keys that it wrote
abbrev pub ChangeThere : Planned → ℕ → List (List Key) → Type 0
ChangeThere plan count written =
    (n : ℕ) → n < count → (k : Key) → list_any (is_at (key_cmp k)) (keys_at written n) ≡ false
    → after plan n k ≡ after plan (suc n) k

-- the outcome of the lines of a plan, taken in order by one thread
pub record IsReplay (plan : Planned) (r : Replayed) : Type 0 where
  pub records : AreEntries (last plan) r.records
  pub answers : r.answers.items ≡ answers_of plan
  pub written : ChangeThere plan (length plan.readings) r.written
