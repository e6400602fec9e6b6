use Rattle.std.proofs.Common.{◌≡◌, ℕ, ◌+◌, ◌*◌, ◌^◌, ◌<◌, ◌≤◌, List, length, get_or, drop, Option, arith}
use Rattle.read_set.specs.Asks.{Done, IsAsked, follow}
use Rattle.read_set.specs.Owing.{owed_from}
use Rattle.read_set.specs.Fees.{rest_of}
use Rattle.circ_records.specs.Records.{Entries}
use Rattle.read_set.specs.Known.{as_fee}
use Rattle.read_set.specs.Stops.{StopsAt}
use Rattle.read_set.specs.Lookups.{ask_after}
use Rattle.circ_records.specs.declared.key.Key.{Key}
use Rattle.circ_records.specs.declared.key.Key.TheVariants as keys
use Rattle.circ_records.specs.declared.record.Record.{Record}
use Rattle.read_set.specs.declared.source.Stop.{Stop}
use Rattle.read_set.proofs.Following.{follow_done, stop_then}
use Rattle.read_set.proofs.Gaining.{asked_first, asked_next}
use Rattle.loan_meaning.proofs.Walking.{cut}

-- one fee of the walk
pub step : (has : Key → Option (Option Record)) (w : Entries) (fees : List (List ℕ)) (i : ℕ) (d : List ℕ) (sum : ℕ) (found : Option Record)
    → i < length fees → d ≡ get_or fees i d → follow has (ask_after w (keys.Fee d)) ≡ Done found
    → follow has (owed_from w sum (drop i fees)) ≡ follow has (owed_from w (sum + rest_of (as_fee found)) (drop (i + 1) fees))
step has w fees i d sum found within e h =
    rw (cut fees i d within e) (follow_done has (ask_after w (keys.Fee d)) (λ r. owed_from w (sum + rest_of (as_fee r)) (drop (i + 1) fees)) found h)

-- a walk that stops at a fee
pub stop_step : (has : Key → Option (Option Record)) (w : Entries) (fees : List (List ℕ)) (i : ℕ) (d : List ℕ) (sum : ℕ) (stop : Stop)
    → i < length fees → d ≡ get_or fees i d → StopsAt stop (follow has (ask_after w (keys.Fee d)))
    → StopsAt stop (follow has (owed_from w sum (drop i fees)))
stop_step has w fees i d sum stop within e h =
    rw (cut fees i d within e) (stop_then has (ask_after w (keys.Fee d)) (λ r. owed_from w (sum + rest_of (as_fee r)) (drop (i + 1) fees)) stop h)

-- what one fee of the walk asks for, and what the walk after it asks for
pub asks_here : (has : Key → Option (Option Record)) (w : Entries) (fees : List (List ℕ)) (i : ℕ) (d : List ℕ) (sum : ℕ) (k : Key)
    → i < length fees → d ≡ get_or fees i d → IsAsked has (ask_after w (keys.Fee d)) k → IsAsked has (owed_from w sum (drop i fees)) k
asks_here has w fees i d sum k within e h =
    rw (cut fees i d within e) (asked_first has (ask_after w (keys.Fee d)) (λ r. owed_from w (sum + rest_of (as_fee r)) (drop (i + 1) fees)) k h)

pub asks_after : (has : Key → Option (Option Record)) (w : Entries) (fees : List (List ℕ)) (i : ℕ) (d : List ℕ) (sum : ℕ) (found : Option Record) (k : Key)
    → i < length fees → d ≡ get_or fees i d → follow has (ask_after w (keys.Fee d)) ≡ Done found
    → IsAsked has (owed_from w (sum + rest_of (as_fee found)) (drop (i + 1) fees)) k → IsAsked has (owed_from w sum (drop i fees)) k
asks_after has w fees i d sum found k within e is h =
    rw (cut fees i d within e) (asked_next has (ask_after w (keys.Fee d)) (λ r. owed_from w (sum + rest_of (as_fee r)) (drop (i + 1) fees)) found k is h)

-- the sum stays in its type
pub small_step : (sum i rest : ℕ) → sum ≤ i * (2 ^ 64) → rest < 2 ^ 64 → sum + rest ≤ (i + 1) * (2 ^ 64)
small_step sum i rest h r = omega arith
