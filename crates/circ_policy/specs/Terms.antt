-- What a policy says.
use Rattle.std.specs.Prelude.{ℕ, Bool, List}
use Rattle.circ_policy.specs.declared.class.Class.{Class}
use Rattle.circ_policy.specs.declared.due_form.DueForm.{DueForm}
use Rattle.circ_policy.specs.declared.media.Media.{Media}
use Rattle.circ_policy.specs.declared.media_type.MediaType.{MediaType}

-- the closed days of a library: for each weekday from Monday on whether it is closed, and dates, as
-- rising numbers of days
pub record Closed : Type 0 where
  pub weekdays : List Bool
  pub dates : List ℕ

-- a library's policy. Classes and types of media are pairs of a name and its terms; money is in
-- hundredths
pub record Terms : Type 0 where
  pub institution : List ℕ
  pub currency : List ℕ
  pub due_form : DueForm
  pub closed : Closed
  pub classes : List (List ℕ × Class)
  pub media : List (MediaType × Media)
