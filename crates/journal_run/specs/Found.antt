-- What is found, as what is said.
use Rattle.std.specs.Prelude.{◌++◌, ◌∷◌, ℕ, [], List, Option, option_map}
use Rattle.log_pairs.specs.Pairs.{Over, Request, Response, Said}
use Rattle.log_pairs.specs.declared.odd.Direction.{Direction}
use Rattle.log_pairs.specs.declared.odd.Direction.TheVariants as sides
use Rattle.journal_run.specs.declared.finding.Finding.{Finding}
use Rattle.journal_run.specs.declared.finding.Finding.TheVariants as findings

-- a message of a side
abbrev pub said_as : Direction → List ℕ → List ℕ → Said
said_as sides.Request c m = Request c m
said_as sides.Response c m = Response c m

-- what it says; a report says nothing
abbrev pub said_of : Finding → List Said
said_of (findings.Message side c m) = said_as side c.items m.items ∷ []
said_of (findings.Over c) = Over c.items ∷ []
said_of (findings.Note text) = []

abbrev pub said_in : List Finding → List Said
said_in [] = []
said_in (f ∷ fs) = said_of f ++ said_in fs

-- this was found after what was found before
abbrev pub found_more : List Said → Option (List Said) → Option (List Said)
found_more more = option_map (λ found. found ++ more)
