-- Late fees.
use Rattle.std.specs.Prelude.{ℕ, ◌-◌, ◌*◌, min}
use Rattle.circ_policy.specs.declared.media.Media.{Media}

-- Late fee: the lesser of the cap and the rate times the days late. All days count, closed ones
-- too; an item that came back by the due day is no days late
unfoldable pub late_fee : ℕ → ℕ → Media → ℕ
late_fee due back media = min media.cap (media.late * (back - due))
