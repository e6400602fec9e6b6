use Rattle.std.proofs.Common.{◌≡◌, ℕ, ◌+◌, ◌<◌, List, length, get_or, drop, Option, true, false, refl}
use Rattle.std.specs.Prelude.{◌==◌}
use Rattle.read_set.specs.Asks.{Done, IsAsked, follow}
use Rattle.read_set.specs.Payments.{pay_rule_each, pay_one}
use Rattle.read_set.specs.Known.{as_fee}
use Rattle.read_set.specs.Stops.{StopsAt}
use Rattle.read_set.specs.Lookups.{ask_after}
use Rattle.read_set.specs.declared.progress.Payments.{Payments}
use Rattle.circ_records.specs.declared.key.Key.{Key}
use Rattle.circ_records.specs.declared.key.Key.TheVariants as keys
use Rattle.circ_records.specs.declared.record.Record.{Record}
use Rattle.read_set.specs.declared.source.Stop.{Stop}
use Rattle.read_set.proofs.Following.{follow_done, stop_then}
use Rattle.read_set.proofs.Gaining.{asked_first, asked_next}
use Rattle.loan_meaning.proofs.Walking.{cut}

-- one fee of the walk, while something is left
pub step : (has : Key → Option (Option Record)) (ids : List (List ℕ)) (i : ℕ) (d : List ℕ) (done : Payments) (found : Option Record)
    → i < length ids → d ≡ get_or ids i d → (done.left == 0) ≡ false → follow has (ask_after done.writes (keys.Fee d)) ≡ Done found
    → follow has (pay_rule_each (drop i ids) done) ≡ follow has (pay_rule_each (drop (i + 1) ids) (pay_one d done (as_fee found)))
step has ids i d done found within e left h =
    rw (cut ids i d within e, left) (follow_done has (ask_after done.writes (keys.Fee d)) (λ r. pay_rule_each (drop (i + 1) ids) (pay_one d done (as_fee r))) found h)

-- a walk that stops at a fee
pub stop_step : (has : Key → Option (Option Record)) (ids : List (List ℕ)) (i : ℕ) (d : List ℕ) (done : Payments) (stop : Stop)
    → i < length ids → d ≡ get_or ids i d → (done.left == 0) ≡ false → StopsAt stop (follow has (ask_after done.writes (keys.Fee d)))
    → StopsAt stop (follow has (pay_rule_each (drop i ids) done))
stop_step has ids i d done stop within e left h =
    rw (cut ids i d within e, left) (stop_then has (ask_after done.writes (keys.Fee d)) (λ r. pay_rule_each (drop (i + 1) ids) (pay_one d done (as_fee r))) stop h)

-- a walk ends where nothing is left
pub spent : (has : Key → Option (Option Record)) (ids : List (List ℕ)) (i : ℕ) (d : List ℕ) (done : Payments)
    → i < length ids → d ≡ get_or ids i d → (done.left == 0) ≡ true → follow has (pay_rule_each (drop i ids) done) ≡ Done done
spent has ids i d done within e left = rw (cut ids i d within e, left) refl

-- what one fee of the walk asks for, while something is left, and what the walk after it asks for
pub asks_here : (has : Key → Option (Option Record)) (ids : List (List ℕ)) (i : ℕ) (d : List ℕ) (done : Payments) (k : Key)
    → i < length ids → d ≡ get_or ids i d → (done.left == 0) ≡ false → IsAsked has (ask_after done.writes (keys.Fee d)) k → IsAsked has (pay_rule_each (drop i ids) done) k
asks_here has ids i d done k within e left h =
    rw (cut ids i d within e, left) (asked_first has (ask_after done.writes (keys.Fee d)) (λ r. pay_rule_each (drop (i + 1) ids) (pay_one d done (as_fee r))) k h)

pub asks_after : (has : Key → Option (Option Record)) (ids : List (List ℕ)) (i : ℕ) (d : List ℕ) (done : Payments) (found : Option Record) (k : Key)
    → i < length ids → d ≡ get_or ids i d → (done.left == 0) ≡ false → follow has (ask_after done.writes (keys.Fee d)) ≡ Done found
    → IsAsked has (pay_rule_each (drop (i + 1) ids) (pay_one d done (as_fee found))) k → IsAsked has (pay_rule_each (drop i ids) done) k
asks_after has ids i d done found k within e left is h =
    rw (cut ids i d within e, left) (asked_next has (ask_after done.writes (keys.Fee d)) (λ r. pay_rule_each (drop (i + 1) ids) (pay_one d done (as_fee r))) found k is h)
