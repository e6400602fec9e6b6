-- What is found in a source.
use Rattle.std.proofs.Common.{◌≡◌, ℕ, List, Option, Result, IfOk}
use Rattle.circ_policy.specs.Terms.{Terms}
use Rattle.read_set.specs.Lookups.{patron_at, item_at}
use Rattle.read_set.specs.Asks.{Asks, Gains, follow}
use Rattle.read_set.specs.Known.{item_in, patron_in}
use Rattle.read_set.specs.Maps.{Map, Part, Agrees, Grows}
use Rattle.read_set.specs.Stops.{Follows}
use Rattle.read_set.specs.declared.known.Article.{Article}
use Rattle.read_set.specs.declared.known.Member.{Member}
use Rattle.read_set.specs.declared.source.Stop.{Stop}
use Rattle.read_set.proofs.Following.{meant}

-- what is found in a source is what each map has that has what the source has

pub patron_means : (has : Part) (p : Terms) (id : List ℕ) (r : Result (Option Member) Stop) → Follows r (follow has (patron_at p id)) → IfOk r (λ m. (M : Map) → Agrees has M → m ≡ patron_in p M id)
unfolding patron_at
patron_means has p id r = meant has (patron_at p id) r

pub item_means : (has : Part) (p : Terms) (id : List ℕ) (r : Result (Option Article) Stop) → Follows r (follow has (item_at p id)) → IfOk r (λ a. (M : Map) → Agrees has M → a ≡ item_in p M id)
unfolding item_at
item_means has p id r = meant has (item_at p id) r

-- what was had stays
pub gains_grow : {A P : Type 0} (old new : Part) (m : Asks A) → Gains P old new m → Grows old new
gains_grow old new m h = h.grows

-- a map that has what is had later has what was had before
pub agrees_before : (old new : Part) (M : Map) → Grows old new → Agrees new M → Agrees old M
agrees_before old new M grows a = λ k r e. a k r (grows k r e)
