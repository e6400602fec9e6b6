-- What a reader of rows has yet to give.
use Rattle.std.specs.Prelude.{◌≡◌, ◌+◌, ◌==◌, true, false, ℕ, List, Option, Some, None, IsSome, length, if◌then◌else◌}
use Rattle.std.specs.Borrow.{Bor}
use Rattle.std.specs.List.{list_all}
use Rattle.csv.specs.Machine.{ends_at_end}
use Rattle.csv.specs.Reading.{default_config, records_from, source_of}
use Rattle.csv.specs.declared.parser.State.{State}
use Rattle.csv.specs.declared.reader.Reader.{Reader}
use Rattle.csv.specs.declared.reader.Trim.TheVariants as trim

-- how many bytes of the text are left, and the rows in them, where each is as long as the header
pub record Unread : Type 0 where
  pub size : ℕ
  pub rows : Option (List (List (List ℕ)))

-- the rows, where each has this length
abbrev pub evenly : Option ℕ → List (List (List ℕ)) → Option (List (List (List ℕ)))
evenly None rows = None
evenly (Some width) rows =
    if list_all (λ (row : List (List ℕ)). length row == width) rows then Some rows else None

-- what a reader between two records returns, where these bytes follow
abbrev pub unread_at : State → Option ℕ → List ℕ → Unread
unread_at s width bytes =
    record {
      size = length bytes;
      rows = evenly width
          (records_from default_config (length bytes + 1) s bytes);
    }

abbrev pub unread_in : State → Option ℕ → Option (List ℕ) → Unread
unread_in s width None = record { size = 0; rows = None }
unread_in s width (Some bytes) = unread_at s width bytes

-- the bytes that a reader of a text has left
abbrev pub left_of : Reader (Bor (List ℕ)) → Option (List ℕ)
left_of = source_of (λ s. Some s.now)

abbrev pub unread_by : Reader (Bor (List ℕ)) → Unread
unread_by r = unread_in r.state r.expected (left_of r)

-- a reader as it was set up, which has read the header and is between two records
pub record IsReading (r : Reader (Bor (List ℕ))) : Type 0 where
  pub trim : r.trim ≡ trim.None
  pub first : r.first ≡ true
  pub config : r.config ≡ default_config
  pub strict : r.flexible ≡ false
  pub width : IsSome r.expected
  pub source : IsSome (left_of r)
  pub between : ends_at_end r.state ≡ false
