-- What the words of the command line mean, by clap's own definition.
use Rattle.std.specs.Prelude.{◌≡◌, ◌<◌, ◌^◌, ℕ, Bool, List, Option, Some, None, codes, is_some, false, true, pos}
use Rattle.std.specs.Prelude.{[], option_map, string_bytes, unwrap_or}
use Rattle.std.specs.Str.Parse.{IsNumeral, digits_value, without_leading_plus}
use Rattle.clap.specs.Words.{App, Row, Rule, Text, first_of, one_of, new_app, new_rule}
use Rattle.clap.specs.Words.{with_rule}
use Rattle.clap.specs.Simple.{on_top}
use Rattle.clap.specs.Words.{AddsArg, AddsInTurn, IsPlainArg, app_of, args_of, first_value, groups_of, matched_of, matches_of, raw_values, takes}
use Rattle.clap.specs.declared.builder.action.ArgAction.TheVariants.{Append, Set, SetTrue}
use Rattle.clap.specs.declared.builder.arg.Arg.{Arg}
use Rattle.clap.specs.declared.builder.command.Command.{Command}
use Rattle.clap.specs.declared.builder.command.Command.TheViews.{out-Command as fields_of}
use Rattle.clap.specs.declared.parser.matches.Found.{Found}
use Rattle.clap.specs.declared.builder.value_parser.ValueParser.TheVariants.{NonEmptyString, Signed}
use Rattle.command_line.specs.declared.chosen.Options.{Options}

-- a value that may be left out, and that has no name before it
abbrev pub bare_rule : Text → Rule
bare_rule name = record (new_rule name) { value_names = 1 }

-- an argument that must be given and takes a path, which has a byte at least
abbrev pub path_rule : Text → Rule
path_rule name = record (new_rule name) { long = Some name; value_names = 1; required = true; action = Some Set; parser = Some NonEmptyString }

-- an option that takes a value and may be left out
abbrev pub optional_rule : Text → Rule
optional_rule name = record (new_rule name) { long = Some name; value_names = 1 }

-- an option that takes a u32
abbrev pub number_rule : Text → Rule
number_rule name = record (optional_rule name) { parser = Some (Signed (pos 0) (pos 4294967295)) }

-- an option that may be given several times
abbrev pub repeated_rule : Text → Rule
repeated_rule name = record (optional_rule name) { action = Some Append }

-- a flag: it is given or not
abbrev pub flag_rule : Text → Rule
flag_rule name = record (new_rule name) { long = Some name; action = Some SetTrue }

-- a command line whose program prints its version
abbrev pub versioned : App → App
versioned = on_top (λ shape. record shape { has_version = true })

-- the command line of the program
unfoldable pub sip_replay_line : App
sip_replay_line =
    with_rule (with_rule (with_rule (with_rule (with_rule (with_rule (with_rule (with_rule (versioned (new_app (codes "sip_replay")))
    (path_rule (codes "policy"))) (path_rule (codes "base"))) (path_rule (codes "journal")))
    (path_rule (codes "out"))) (number_rule (codes "workers"))) (flag_rule (codes "explain"))) (flag_rule (codes "check")))
    (flag_rule (codes "as-recorded"))

-- a number: that of the text that clap reads, and this one where there is none
abbrev pub Counts : ℕ → Option Text → ℕ → Type 0
Counts default None n = n ≡ default
Counts default (Some t) n = IsNumeral 10 (without_leading_plus t)
    → digits_value 10 (without_leading_plus t) < 2 ^ 32
    → n ≡ digits_value 10 (without_leading_plus t)

-- what a flag says: the truth that clap reads, and no where there is none
abbrev pub Says : Option Text → Bool → Type 0
Says None b = b ≡ false
Says (Some t) b = (t ≡ codes "true" → b ≡ true) × (t ≡ codes "false" → b ≡ false)

-- the options are what clap's own definition gives the words
pub record GivesOptions (rows : List Row) (o : Options) : Type 0 where
  pub policy : Some (string_bytes o.policy) ≡ first_of (codes "policy") rows
  pub base : Some (string_bytes o.base) ≡ first_of (codes "base") rows
  pub journal : Some (string_bytes o.journal) ≡ first_of (codes "journal") rows
  pub out : Some (string_bytes o.out) ≡ first_of (codes "out") rows
  pub workers : Counts 4 (one_of (codes "workers") rows) o.workers
  pub explain : Says (one_of (codes "explain") rows) o.explain
  pub check : Says (one_of (codes "check") rows) o.check
  pub as_recorded : Says (one_of (codes "as-recorded") rows) o.as_recorded

-- The words, of which the first is the program's name, give these options.
abbrev pub AreAskedBy : List Text → Options → Type 0
AreAskedBy words o = GivesOptions (matches_of sip_replay_line words) o

-- clap's definition takes the words
abbrev pub AreTaken : List Text → Type 0
AreTaken words = takes sip_replay_line words ≡ true

-- the values that were given for a name
abbrev pub values_of : Found → Text → List Text
values_of found name = unwrap_or (option_map raw_values (matched_of found name)) []

-- an argument of this name, which is in no group and excludes no other
abbrev pub IsOwnArg : Text → Arg → Type 0
IsOwnArg name a = (a.id.now ≡ name) × (a.global ≡ false) × IsPlainArg a

-- this name has a value
abbrev pub HasValue : Found → Text → Type 0
HasValue found name = is_some (first_value found name) ≡ true

-- each path has a value
pub record HasPaths (found : Found) : Type 0 where
  pub policy : HasValue found (codes "policy")
  pub base : HasValue found (codes "base")
  pub journal : HasValue found (codes "journal")
  pub out : HasValue found (codes "out")

-- the command of a program that prints its version, with these arguments
pub record IsProgram (name : Text) (args : List Arg) (c : Command) : Type 0 where
  pub bare : Command
  pub app : app_of bare ≡ versioned (new_app name)
  pub no_args : args_of bare ≡ []
  pub no_groups : groups_of bare ≡ []
  pub no_globals : (fields_of bare).has_globals ≡ false
  pub no_negates : (fields_of bare).subcommand_negates_reqs ≡ false
  pub adds : AddsInTurn AddsArg bare args c
