-- How the reading of words ends, by clap's own definition of a command line.
use Rattle.std.specs.Prelude.{◌≡◌, Bool, true, false, not, List, [], Result, MatchResult}
use Rattle.std.specs.List.{list_any}
use Rattle.clap.specs.Words.{App, Text, fault_of}
use Rattle.clap.specs.declared.error.kind.ErrorKind.{ErrorKind}
use Rattle.clap.specs.declared.error.kind.ErrorKind.TheVariants as kinds
use Rattle.command_line.specs.declared.refusal.Refusal.{Refusal}
use Rattle.command_line.specs.declared.refusal.Refusal.TheVariants as refusals

-- help or the version is asked for
abbrev pub is_request : ErrorKind → Bool
is_request kinds.DisplayHelp = true
is_request kinds.DisplayVersion = true
is_request _ = false

-- what an error of clap's is reported as
abbrev pub IsOfKind : ErrorKind → Refusal → Type 0
IsOfKind kind (refusals.Help text) = is_request kind ≡ true
IsOfKind kind (refusals.Words text) = is_request kind ≡ false
IsOfKind kind refusals.Memory = Unit {0}

-- help's text is given only if the words ask for it or for the version; they are refused only if they
-- break the line's definition
abbrev pub IsRefusalOf : App → List Text → Refusal → Type 0
IsRefusalOf line words (refusals.Help text) = list_any is_request (fault_of line words) ≡ true
IsRefusalOf line words (refusals.Words text) = list_any (λ kind. not (is_request kind)) (fault_of line words) ≡ true
IsRefusalOf line words refusals.Memory = Unit {0}

-- the words break nothing of the line's definition
abbrev pub BreakNothing : App → List Text → Type 0
BreakNothing line words = fault_of line words ≡ []

-- there are options only of such words; else this is why
abbrev pub EndsBy : {C : Type 0} → App → List Text → Result C Refusal → Type 0
EndsBy line words ended = MatchResult ended (λ options. BreakNothing line words) (IsRefusalOf line words)
