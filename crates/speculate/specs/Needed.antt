-- What a worker's line in hand needs next, where it runs.
use Rattle.std.specs.Prelude.{◌⊎◌, Option, Some, None, ℕ}
use Rattle.circ_records.specs.declared.key.Key.{Key}
use Rattle.read_set.specs.Plans.{Planned}
use Rattle.read_set.specs.Settling.{Contents}
use Rattle.read_set.specs.declared.version.Need.{Need}
use Rattle.read_set.specs.declared.version.Need.TheVariants as needs
use Rattle.board_steps.specs.Board.{Board}
use Rattle.board_steps.specs.Steps.{IsVersion}
use Rattle.board_steps.specs.Steps.Reply.{Idle}
use Rattle.board_lines.specs.Hands.{HasNoLine, IsHand}
use Rattle.board_lines.specs.declared.hand.Hand.{Hand}
use Rattle.speculate.specs.Playing.{HasRunning, HasVersion, Publishes, ToPublish, Wants}

-- the worker has no line in hand, or one that doesn't run: it is published in part, or is being
-- checked
abbrev pub HasNoneRunning : Board → ℕ → Type 0
HasNoneRunning b w = HasNoLine b w ⊎ ((h : Hand) × IsHand b w (Some h) × (HasRunning b w → ⊥))

-- the line in hand with its attempt, where it runs
abbrev pub IsRunning : Board → ℕ → Option Hand → Type 0
IsRunning b w None = HasNoneRunning b w
IsRunning b w (Some h) = IsHand b w (Some h) × HasRunning b w

-- the key for which the line's rule asks, or the line's version; nothing if no line runs
abbrev pub IsNext : {J : Type 0} → Planned → Board → ℕ → Option (Need J) → Type 0
IsNext plan b w None = HasNoneRunning b w
IsNext plan b w (Some (needs.Key k)) = HasRunning b w × Wants plan b w k
IsNext plan b w (Some (needs.Done v)) = HasRunning b w × HasVersion plan b w v

-- a version that is needed is determined by its notes
abbrev pub SettlesIfDone : {J : Type 0} → Planned → Need J → Type 0
SettlesIfDone plan (needs.Key k) = Unit {0}
SettlesIfDone plan (needs.Done v) = IsVersion plan v

-- the version to be published, of a line that runs, if there is one; else a publication is idle
abbrev pub IsToPublish : Planned → Board → ℕ → Option Contents → Type 0
IsToPublish plan b w None = Publishes plan b w Idle b
IsToPublish plan b w (Some v) = HasRunning b w × ToPublish plan b w v × IsVersion plan v

abbrev pub needed_key : {J : Type 0} → Option (Need J) → Option Key
needed_key (Some (needs.Key k)) = Some k
needed_key (Some (needs.Done v)) = None
needed_key None = None

abbrev pub needed_version : {J : Type 0} → Option (Need J) → Option Contents
needed_version (Some (needs.Key k)) = None
needed_version (Some (needs.Done v)) = Some v
needed_version None = None
