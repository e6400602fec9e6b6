-- For proofs alone. The requests that wait are in a queue, the clients in a map; a request is found by its place.
use Rattle.std.specs.Prelude.{◌≡◌, ◌==◌, if◌then◌else◌, ◌+◌, ◌<◌, ◌≤◌, ℕ, Bool, true, false, List, [], length, map, set, get_or, Option, Some, None, Vec}
use Rattle.std.specs.BTreeMap.{BTreeMap, get_by}
use Rattle.std.specs.Cmp.Lexicographic.{slice_cmp}
use Rattle.std.specs.Ordering.{nat_cmp}
use Rattle.sip_reader.specs.Texts.{line_number_end}
use Rattle.log_pairs.specs.Pairs.{Open, Pending, closed, asks, gets, is_of, is_open_of, may_have}
use Rattle.log_pairs.specs.declared.client.Answered.{Answered}
use Rattle.log_pairs.specs.declared.client.Answered.TheVariants as answers
use Rattle.log_pairs.specs.declared.client.FitCounts.{FitCounts}
use Rattle.log_pairs.specs.declared.pairing.Pairing.TheInside.{Inside}
use Rattle.log_pairs.specs.declared.pairing.Wanted.{Wanted}
use Rattle.log_pairs.specs.declared.pairing.Wanted.TheVariants as wants

abbrev pub named : {A : Type 0} → Vec ℕ A × FitCounts → List ℕ × FitCounts
named e = (e.0.items, e.1)

-- what a map has for some bytes
abbrev pub value_in : {A V : Type 0} → BTreeMap (Vec ℕ A) V → List ℕ → Option V
value_in m c = get_by (λ k. slice_cmp nat_cmp c k.items) m

abbrev pub open_of : Inside → Open
open_of p = record {
  asked = p.taken + length p.waiting.items;
  pending = p.waiting.items;
  clients = map named p.clients.entries;
  unasked = p.unasked;
  mismatched = p.mismatched;
}

pub record IsKept (p : Inside) : Type 0 where
  pub few : p.taken + length p.waiting.items ≤ line_number_end

abbrev pub passes : Wanted → List ℕ → List ℕ → Pending → Bool
passes wants.Own c m p = is_of c p
passes wants.Open c m p = is_open_of c p
passes wants.OfKind c m p = may_have false c m p
passes wants.Exact c m p = may_have true c m p

abbrev pub none_there : Pending
none_there = asks [] []

abbrev pub is_place : Option ℕ → ℕ → Bool
is_place None n = false
is_place (Some i) n = i == n

-- no request from one place to another passes
abbrev pub NonePasses : (Pending → Bool) → List Pending → ℕ → ℕ → Type 0
NonePasses test ps from before = (k : ℕ) → from ≤ k → k < before → test (get_or ps k none_there) ≡ false

-- the place of the last that passes, before this one
abbrev pub IsLast : (Pending → Bool) → List Pending → ℕ → Option ℕ → Type 0
IsLast test ps before None = NonePasses test ps 0 before
IsLast test ps before (Some i) = (i < before) × (test (get_or ps i none_there) ≡ true) × NonePasses test ps (i + 1) before

-- the one at a place gets the response, or none does
abbrev pub IsPlaced : Option ℕ → List ℕ → List Pending → List Pending → Type 0
IsPlaced None m ps new = new ≡ ps
IsPlaced (Some i) m ps new = (i < length ps) × (new ≡ set ps i (gets m (get_or ps i none_there)))

-- what becomes of a response, and the place of the request that gets it: by the places of the last one that it fits and of the last that is open
abbrev pub settled : Option ℕ → Option ℕ → Bool → Answered × Option ℕ
settled (Some i) opened gives = (answers.Fitting, Some i)
settled None None gives = (answers.Unasked, None)
settled None (Some i) gives = if gives then (answers.Misfit, Some i) else (answers.Withheld, None)
