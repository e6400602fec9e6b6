-- What the words of the command line of sip_page mean, by clap's own definition.
use Rattle.std.specs.Prelude.{◌≡◌, List, Some, codes, option_map, string_bytes}
use Rattle.clap.specs.Words.{App, Row, first_of, new_app, one_of, with_rule}
use Rattle.clap.specs.declared.parser.matches.Found.{Found}
use Rattle.command_line.specs.CommandLine.{Counts, HasValue, number_rule, optional_rule, path_rule, versioned}
use Rattle.command_line.specs.declared.chosen.PageOptions.{PageOptions}

-- the command line of the program
unfoldable pub sip_page_line : App
sip_page_line =
    with_rule (with_rule (with_rule (with_rule (with_rule (versioned (new_app (codes "sip_page"))) (path_rule (codes "journal")))
    (optional_rule (codes "base"))) (path_rule (codes "out"))) (optional_rule (codes "why"))) (number_rule (codes "limit"))

-- the options are what clap's own definition gives the words
pub record GivesPage (rows : List Row) (o : PageOptions) : Type 0 where
  pub journal : Some (string_bytes o.journal) ≡ first_of (codes "journal") rows
  pub base : option_map string_bytes o.base ≡ first_of (codes "base") rows
  pub out : Some (string_bytes o.out) ≡ first_of (codes "out") rows
  pub why : option_map string_bytes o.why ≡ first_of (codes "why") rows
  pub limit : Counts 1000 (one_of (codes "limit") rows) o.limit

-- each path that must be given has a value
pub record HasPagePaths (found : Found) : Type 0 where
  pub journal : HasValue found (codes "journal")
  pub out : HasValue found (codes "out")
