-- Where a rule that runs over a source stops: at a key that the source lacks, or where memory runs out.
use Rattle.std.specs.Prelude.{◌≡◌, None, Result, Ok, Err}
use Rattle.read_set.specs.Asks.{Reached, Done, Wants}
use Rattle.read_set.specs.Maps.{Part}
use Rattle.read_set.specs.declared.source.Stop.{Stop}
use Rattle.read_set.specs.declared.source.Stop.TheVariants.{Unnoted, Memory}

-- a stop is right, by how far its rule got
abbrev pub StopsAt : {A : Type 0} → Stop → Reached A → Type 0
StopsAt (Unnoted k) reached = reached ≡ Wants k
StopsAt Memory reached = Unit {0}

-- a call's result is right, by how far its rule got
abbrev pub Follows : {A : Type 0} → Result A Stop → Reached A → Type 0
Follows (Ok x) reached = reached ≡ Done x
Follows (Err stop) reached = StopsAt stop reached

-- a stop names an unknown key
abbrev pub LacksAt : Part → Stop → Type 0
LacksAt has (Unnoted k) = has k ≡ None
LacksAt has Memory = Unit {0}
