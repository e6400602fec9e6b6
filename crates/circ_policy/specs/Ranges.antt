-- The ranges of a policy's terms (the policy file, its types of media).
use Rattle.std.specs.Prelude.{◌≡◌, ◌≤◌, List, [], ◌∷◌, Some}
use Rattle.sip_reader.specs.declared.amount.TheConstants.{AMOUNT_MAX}
use Rattle.circ_policy.specs.Policy.{media_of}
use Rattle.circ_policy.specs.Terms.{Terms}
use Rattle.circ_policy.specs.declared.media.Media.{Media}
use Rattle.circ_policy.specs.declared.media_type.MediaType.{MediaType}

-- loans of 1 to 3,650 days, amounts of at most 999,999,999.99
pub record FitsMedia (m : Media) : Type 0 where
  pub least : 1 ≤ m.days
  pub days : m.days ≤ 3650
  pub rental : m.rental ≤ AMOUNT_MAX
  pub late : m.late ≤ AMOUNT_MAX
  pub cap : m.cap ≤ AMOUNT_MAX

-- the terms of each type of media of a list
abbrev pub AllFit : List (MediaType × Media) → Type 0
AllFit [] = Unit {0}
AllFit (e ∷ es) = FitsMedia e.1 × AllFit es

-- the terms of each type of media of a policy
abbrev pub FitsPolicy : Terms → Type 0
FitsPolicy p = (type : MediaType) (media : Media) → media_of p type ≡ Some media → FitsMedia media
