use Rattle.std.proofs.Common.{◌≡◌, ◌≤◌, ◌<◌, ℕ, false}
use Rattle.circ_policy.specs.Calendars.{closed_of}
use Rattle.circ_policy.specs.Due.{is_open}
use Rattle.circ_policy.proofs.policy.Policy.due.Given as goal

-- no day before this one is open
abbrev pub invariant-loop-number : goal.invariant-loop-number
invariant-loop-number l = (n : ℕ) → l.first ≤ n → n < l.number-counter → is_open (closed_of l.calendar) n ≡ false
