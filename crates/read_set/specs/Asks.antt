-- A rule as a small program that asks for one record at a time, in its own order.
use Rattle.std.specs.Prelude.{◌≡◌, ◌⊎◌, Option, Some, None}
use Rattle.std.specs.Option.{option_map_or}
use Rattle.circ_records.specs.declared.key.Key.{Key}
use Rattle.circ_records.specs.declared.record.Record.{Record}
use Rattle.read_set.specs.Maps.{Map, Part, Grows}

-- A program: it gives its result at once (Give), or asks for a record and goes on by what that is (Ask).
pub data Asks (A : Type 0) : Type 0 where
  Give : A → Asks A
  Ask : Key → (Option Record → Asks A) → Asks A

-- what a program gives over a whole map
abbrev pub over : {A : Type 0} → Map → Asks A → A
over M (Give x) = x
over M (Ask k rule) = over M (rule (M k))

-- How far a program gets with what is known: to its end, or to the first unknown key.
pub data Reached (A : Type 0) : Type 0 where
  Done : A → Reached A
  Wants : Key → Reached A

abbrev pub follow : {A : Type 0} → Part → Asks A → Reached A
follow has (Give x) = Done x
follow has (Ask k rule) = option_map_or (λ r. follow has (rule r)) (has k) (Wants k)

-- runs one program, then another on its result
infixl 10 ◌>>=◌
abbrev pub ◌>>=◌ : {A B : Type 0} → Asks A → (A → Asks B) → Asks B
(Give x) >>= f = f x
(Ask k rule) >>= f = Ask k (λ r. rule r >>= f)

-- what holds of what is known at a key
abbrev pub OnHad : Option (Option Record) → (Option Record → Type 0) → Type 0
OnHad None P = ⊥
OnHad (Some r) P = P r

-- a key that a program asks for, with what is known, on its way to its end or to the first unknown key
abbrev pub IsAsked : {A : Type 0} → Part → Asks A → Key → Type 0
IsAsked has (Give x) k = ⊥
IsAsked has (Ask j rule) k = (k ≡ j) ⊎ OnHad (has j) (λ r. IsAsked has (rule r) k)

-- What a source gains while a rule is followed: it keeps what it had. Where it fetches one by one, what is new is what the rule asks for.
pub record Gains {A : Type 0} (one_by_one : Type 0) (old new : Part) (m : Asks A) : Type 0 where
  pub grows : Grows old new
  pub asked : one_by_one → (k : Key) → (new k ≡ old k) ⊎ IsAsked new m k
