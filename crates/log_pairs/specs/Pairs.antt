-- Which pairs of a request and a response a log has: what becomes of the requests with each entry, from the first to the last.
use Rattle.std.specs.Prelude.{◌&&◌, ◌||◌, ◌≡◌, ◌+◌, ◌-◌, ◌/◌, ℕ, suc, zero, Bool, true, false, not, min, nat_le, nat_lt, List, [], ◌∷◌, ◌++◌, length, map, Option, Some, None, if◌then◌else◌, is_some}
use Rattle.std.specs.List.{list_any}
use Rattle.std.specs.Str.{bytes_eq}
use Rattle.log_pairs.specs.Fitting.{fits_by}
use Rattle.log_pairs.specs.declared.client.Answered.{Answered}
use Rattle.log_pairs.specs.declared.client.Answered.TheVariants as answers
use Rattle.log_pairs.specs.declared.client.FitCounts.{FitCounts}
use Rattle.log_pairs.specs.declared.pairing.TheConstants.{PATIENCE}

-- an entry of a log: a request or a response of a connection, or that no more responses come for it
pub data Said : Type 0 where
  Request : (connection : List ℕ) → (message : List ℕ) → Said
  Response : (connection : List ℕ) → (message : List ℕ) → Said
  Over : (connection : List ℕ) → Said

-- a request, the connection that it came over, and the response to it
pub record Pair : Type 0 where
  pub connection : List ℕ
  pub request : List ℕ
  pub response : Option (List ℕ)

-- a request that came, with the response that it has so far, and whether one may yet come
pub record Pending : Type 0 where
  pub pair : Pair
  pub is_open : Bool

-- How many requests came, and those that weren't taken yet, open or not; what is counted of each client, the last for a name counts;
-- and how many responses were given to no request, and to one that they don't fit.
pub record Open : Type 0 where
  pub asked : ℕ
  pub pending : List Pending
  pub clients : List (List ℕ × FitCounts)
  pub unasked : ℕ
  pub mismatched : ℕ

-- the greatest number that is counted
abbrev pub top : ℕ
top = 18446744073709551615

-- one more, where that is so
abbrev pub more : ℕ → Bool → ℕ
more n so = if so then min (n + 1) top else n

abbrev pub no_client : FitCounts
no_client = record { responses = 0; misfits = 0; kinds = 0; off = 0 }

abbrev pub client_of : List (List ℕ × FitCounts) → List ℕ → FitCounts
client_of [] c = no_client
client_of (e ∷ es) c = if bytes_eq e.0 c then e.1 else client_of es c

-- a request of this connection is open
abbrev pub is_open_of : List ℕ → Pending → Bool
is_open_of c p = p.is_open && bytes_eq c p.pair.connection

-- a response fits it: it is of its kind, and of its sequence digit where digits count
abbrev pub may_have : Bool → List ℕ → List ℕ → Pending → Bool
may_have digits c m p = is_open_of c p && fits_by digits p.pair.request m

-- A client's digits count unless more than one response in ten of the kind of an open request had none of their digits.
abbrev pub uses_digits : FitCounts → Bool
uses_digits client = nat_le client.off (client.kinds / 10)

-- A response that fits none is one to another request, unless more than one in fifty was so before: then the name stands for several clients.
abbrev pub takes_misfits : FitCounts → Bool
takes_misfits client = nat_le client.misfits (client.responses / 50)

abbrev pub is_of : List ℕ → Pending → Bool
is_of c p = bytes_eq c p.pair.connection

-- the last request of this connection is open
abbrev pub last_is_open : List ℕ → List Pending → Bool
last_is_open c [] = false
last_is_open c (p ∷ ps) = if list_any (is_of c) ps then last_is_open c ps else is_open_of c p

-- what becomes of a response
abbrev pub answer_for : FitCounts → List ℕ → List ℕ → List Pending → Answered
answer_for client c m ps =
    if list_any (may_have (uses_digits client) c m) ps then answers.Fitting
    else if not (list_any (is_open_of c) ps) then answers.Unasked
    else if takes_misfits client && last_is_open c ps then answers.Misfit
    else answers.Withheld

abbrev pub gets : List ℕ → Pending → Pending
gets m p = record { pair = record p.pair { response = Some m }; is_open = false }

-- the last of those of which this holds gets the response
abbrev pub last_gets : (Pending → Bool) → List ℕ → List Pending → List Pending
last_gets test m [] = []
last_gets test m (p ∷ ps) = if list_any test ps then p ∷ last_gets test m ps else (if test p then gets m p else p) ∷ ps

-- The last open request that a response fits gets it; or the last one of its connection, if that is open.
abbrev pub given : Answered → Bool → List ℕ → List ℕ → List Pending → List Pending
given answers.Fitting digits c m ps = last_gets (may_have digits c m) m ps
given answers.Misfit digits c m ps = last_gets (is_open_of c) m ps
given answer digits c m ps = ps

-- One of these requests, of which this holds, gets the response, and no other changes.
abbrev pub GivesOne : (Pending → Bool) → List ℕ → List Pending → List Pending → Type 0
GivesOne test m ps new = (front : List Pending) × (p : Pending) × (back : List Pending) × (ps ≡ front ++ p ∷ back) × (test p ≡ true) × (new ≡ front ++ gets m p ∷ back)

-- A response that fits an open request is given to one that it fits; another to an open one of its connection, or to none.
abbrev pub IsGivenRightly : Answered → Bool → List ℕ → List ℕ → List Pending → List Pending → Type 0
IsGivenRightly answers.Fitting digits c m ps new = GivesOne (may_have digits c m) m ps new
IsGivenRightly answers.Misfit digits c m ps new = (list_any (may_have digits c m) ps ≡ false) × GivesOne (is_open_of c) m ps new
IsGivenRightly answer digits c m ps new = (list_any (may_have digits c m) ps ≡ false) × (new ≡ ps)

-- what is counted of a client with a response
abbrev pub client_then : FitCounts → List ℕ → List ℕ → List Pending → FitCounts
client_then client c m ps = record {
  responses = more client.responses (list_any (is_open_of c) ps);
  misfits = more client.misfits (list_any (is_open_of c) ps && not (list_any (may_have (uses_digits client) c m) ps));
  kinds = more client.kinds (list_any (may_have false c m) ps);
  off = more client.off (list_any (may_have false c m) ps && not (list_any (may_have true c m) ps));
}

abbrev pub is_unasked : Answered → Bool
is_unasked answers.Unasked = true
is_unasked answers.Withheld = true
is_unasked answer = false

abbrev pub is_misfit : Answered → Bool
is_misfit answers.Misfit = true
is_misfit answer = false

abbrev pub asks : List ℕ → List ℕ → Pending
asks c m = record { pair = record { connection = c; request = m; response = None }; is_open = true }

abbrev pub closed : Pending → Pending
closed p = record p { is_open = false }

-- the one at this place gets no response any more
abbrev pub close_at : ℕ → List Pending → List Pending
close_at n [] = []
close_at zero (p ∷ ps) = closed p ∷ ps
close_at (suc n) (p ∷ ps) = p ∷ close_at n ps

-- A request gets no response any more once PATIENCE others came after it.
abbrev pub aged : List Pending → List Pending
aged ps = if nat_lt PATIENCE (length ps) then close_at (length ps - suc PATIENCE) ps else ps

-- nor once its connection is over, or the log, which is all connections
abbrev pub closed_of : Bool → List ℕ → Pending → Pending
closed_of all c p = if all || bytes_eq c p.pair.connection then closed p else p

abbrev pub step : Open → Said → Open
step o (Request c m) = record o { asked = o.asked + 1; pending = aged (o.pending ++ asks c m ∷ []) }
step o (Response c m) =
    let client = client_of o.clients c in
    let answer = answer_for client c m o.pending in
    record o {
      pending = given answer (uses_digits client) c m o.pending;
      clients = (c, client_then client c m o.pending) ∷ o.clients;
      unasked = more o.unasked (is_unasked answer);
      mismatched = more o.mismatched (is_misfit answer);
    }
step o (Over c) = record o { pending = map (closed_of false c) o.pending; clients = (c, no_client) ∷ o.clients }

abbrev pub start : Open
start = record { asked = 0; pending = []; clients = []; unasked = 0; mismatched = 0 }

abbrev pub after : Open → List Said → Open
after o [] = o
after o (x ∷ xs) = after (step o x) xs

abbrev pub pair_of : Pending → Pair
pair_of p = p.pair

-- the pairs of a log: a pair for each request, in their order
abbrev pub pairs_of : List Said → List Pair
pairs_of said = map pair_of (after start said).pending

-- how many pairs have a response
abbrev pub answered : List Pair → ℕ
answered [] = 0
answered (p ∷ ps) = (if is_some p.response then 1 else 0) + answered ps

-- one is the other, whatever order their clients are in
pub record Becomes (new o : Open) : Type 0 where
  pub asked : new.asked ≡ o.asked
  pub pending : new.pending ≡ o.pending
  pub clients : (c : List ℕ) → client_of new.clients c ≡ client_of o.clients c
  pub unasked : new.unasked ≡ o.unasked
  pub mismatched : new.mismatched ≡ o.mismatched

-- whether nothing waits, or what waits first is open
abbrev pub begins_open : List Pending → Bool
begins_open [] = true
begins_open (p ∷ ps) = p.is_open
