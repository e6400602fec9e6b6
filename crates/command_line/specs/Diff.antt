-- What the words of the command line of sip_diff mean, by clap's own definition.
use Rattle.std.specs.Prelude.{◌≡◌, List, Some, [], codes, map, string_bytes, true, unwrap_or}
use Rattle.clap.specs.Words.{App, Row, Rule, Text, all_of, first_of, new_app, new_rule, with_rule}
use Rattle.clap.specs.declared.builder.action.ArgAction.TheVariants.{Set}
use Rattle.clap.specs.declared.parser.matches.Found.{Found}
use Rattle.command_line.specs.CommandLine.{HasValue, repeated_rule, versioned}
use Rattle.command_line.specs.declared.diff.DiffOptions.{DiffOptions}

-- a folder, which must be given, and which its place among the words names
abbrev pub folder_rule : Text → Rule
folder_rule name = record (new_rule name) { value_names = 1; required = true; action = Some Set }

-- the command line of the program
unfoldable pub sip_diff_line : App
sip_diff_line =
    with_rule (with_rule (with_rule (versioned (new_app (codes "sip_diff"))) (folder_rule (codes "left")))
    (folder_rule (codes "right"))) (repeated_rule (codes "leave"))

-- the options are what clap's own definition gives the words
pub record GivesDiff (rows : List Row) (o : DiffOptions) : Type 0 where
  pub left : Some (string_bytes o.left) ≡ first_of (codes "left") rows
  pub right : Some (string_bytes o.right) ≡ first_of (codes "right") rows
  pub leave : map string_bytes o.leave.items ≡ unwrap_or (all_of (codes "leave") rows) []

-- each folder has a value
pub record HasFolders (found : Found) : Type 0 where
  pub left : HasValue found (codes "left")
  pub right : HasValue found (codes "right")
