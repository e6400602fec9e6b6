-- What a command reads of the words.
use Rattle.std.specs.Prelude.{◌≡◌, List, Ok, Result}
use Rattle.std.specs.declared.alloc.AllocError.{AllocError}
use Rattle.clap.specs.Words.{HasMatchesOf, IsParsedFrom, Text, app_of}
use Rattle.clap.specs.declared.builder.command.Command.{Command}
use Rattle.clap.specs.declared.parser.matches.ArgMatches.{ArgMatches}

-- what these options give of the words, by a command that there was memory for
pub record IsReadBy {C : Type 0} (gives : ArgMatches → C → Type 0) (made : Result Command AllocError) (words : List Text) (chosen : C) : Type 0 where
  pub command : Command
  pub is : made ≡ Ok command
  pub found : ArgMatches
  pub parsed : IsParsedFrom command found
  pub matches : HasMatchesOf (app_of command) words found
  pub given : gives found chosen
