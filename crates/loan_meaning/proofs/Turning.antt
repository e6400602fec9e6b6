use Rattle.std.proofs.Common.{◌≡◌, ℕ, Bool, ◌+◌, ◌<◌, List, length, get_or, drop, Option}
use Rattle.circ_policy.specs.Terms.{Terms}
use Rattle.circ_records.specs.declared.key.Key.{Key}
use Rattle.circ_records.specs.declared.record.Record.{Record}
use Rattle.sip_reader.specs.declared.request.RenewAll.{RenewAll}
use Rattle.read_set.specs.RenewAlls.{turn_rule, turns_rule, by_renew_all}
use Rattle.read_set.specs.Asks.{Done, IsAsked, follow}
use Rattle.read_set.specs.Stops.{StopsAt}
use Rattle.read_set.specs.declared.progress.Renewals.{Renewals}
use Rattle.read_set.specs.declared.source.Stop.{Stop}
use Rattle.read_set.proofs.Following.{follow_done, stop_then}
use Rattle.read_set.proofs.Gaining.{asked_first, asked_next}
use Rattle.loan_meaning.proofs.Walking.{cut}

-- one turn of the walk
pub step : (has : Key → Option (Option Record)) (p : Terms) (n : ℕ) (forced : Bool) (q : RenewAll) (date : List ℕ) (items : List (List ℕ)) (i : ℕ) (d : List ℕ) (done next : Renewals)
    → i < length items → d ≡ get_or items i d → follow has (turn_rule p n (by_renew_all forced q d) date done) ≡ Done next
    → follow has (turns_rule p n forced q date (drop i items) done) ≡ follow has (turns_rule p n forced q date (drop (i + 1) items) next)
step has p n forced q date items i d done next within e h =
    rw (cut items i d within e) (follow_done has (turn_rule p n (by_renew_all forced q d) date done) (λ x. turns_rule p n forced q date (drop (i + 1) items) x) next h)

-- a walk that stops at an item
pub stop_step : (has : Key → Option (Option Record)) (p : Terms) (n : ℕ) (forced : Bool) (q : RenewAll) (date : List ℕ) (items : List (List ℕ)) (i : ℕ) (d : List ℕ) (done : Renewals) (stop : Stop)
    → i < length items → d ≡ get_or items i d → StopsAt stop (follow has (turn_rule p n (by_renew_all forced q d) date done))
    → StopsAt stop (follow has (turns_rule p n forced q date (drop i items) done))
stop_step has p n forced q date items i d done stop within e h =
    rw (cut items i d within e) (stop_then has (turn_rule p n (by_renew_all forced q d) date done) (λ x. turns_rule p n forced q date (drop (i + 1) items) x) stop h)

-- what one turn asks for, and what the walk after it asks for
pub asks_here : (has : Key → Option (Option Record)) (p : Terms) (n : ℕ) (forced : Bool) (q : RenewAll) (date : List ℕ) (items : List (List ℕ)) (i : ℕ) (d : List ℕ) (done : Renewals) (k : Key)
    → i < length items → d ≡ get_or items i d → IsAsked has (turn_rule p n (by_renew_all forced q d) date done) k → IsAsked has (turns_rule p n forced q date (drop i items) done) k
asks_here has p n forced q date items i d done k within e h =
    rw (cut items i d within e) (asked_first has (turn_rule p n (by_renew_all forced q d) date done) (λ x. turns_rule p n forced q date (drop (i + 1) items) x) k h)

pub asks_after : (has : Key → Option (Option Record)) (p : Terms) (n : ℕ) (forced : Bool) (q : RenewAll) (date : List ℕ) (items : List (List ℕ)) (i : ℕ) (d : List ℕ) (done next : Renewals) (k : Key)
    → i < length items → d ≡ get_or items i d → follow has (turn_rule p n (by_renew_all forced q d) date done) ≡ Done next
    → IsAsked has (turns_rule p n forced q date (drop (i + 1) items) next) k → IsAsked has (turns_rule p n forced q date (drop i items) done) k
asks_after has p n forced q date items i d done next k within e is h =
    rw (cut items i d within e) (asked_next has (turn_rule p n (by_renew_all forced q d) date done) (λ x. turns_rule p n forced q date (drop (i + 1) items) x) next k is h)
