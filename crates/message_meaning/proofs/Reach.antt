-- What a program wants, and what it gives, on what is had: a small logic of programs that ask.
use Rattle.std.proofs.Common.{◌≡◌, Bool, true, false, cond, Option, Some, None, refl, sym, ◌∙◌, subst}
use Rattle.std.specs.Option.{option_map_or}
use Rattle.circ_records.specs.declared.key.Key.{Key}
use Rattle.circ_records.specs.declared.record.Record.{Record}
use Rattle.read_set.specs.Asks.{Asks, Give, Ask, ◌>>=◌, Reached, Done, Wants, follow}
use Rattle.read_set.specs.Maps.{Part}
use Rattle.read_set.proofs.Following.{follow_done, follow_wants}

-- a program wants near keys alone, and gives what P says
pub record Reaches {A : Type 0} (has : Part) (near : Key → Type 0) (m : Asks A) (P : A → Type 0) : Type 0 where
  pub wants : (k : Key) → follow has m ≡ Wants k → near k
  pub gives : (x : A) → follow has m ≡ Done x → P x

pub reach_give : {A : Type 0} (has : Part) (near : Key → Type 0) (x : A) (P : A → Type 0) → P x → Reaches has near (Give x) P
reach_give has near x P p = record {
  wants = λ k e. cc;
  gives = λ y e. let same : x ≡ y = cc in subst P same p;
}

pub reach_any : {A : Type 0} (has : Part) (near : Key → Type 0) (x : A) → Reaches has near (Give x) (λ y. Unit {0})
reach_any has near x = reach_give has near x (λ y. Unit {0}) tt

-- at a key that is had or not
ask_wants : {A : Type 0} (has : Part) (near : Key → Type 0) (j k : Key) (rule : Option Record → Asks A) (o : Option (Option Record)) → has j ≡ o → near j
    → ((r : Option Record) → has j ≡ Some r → follow has (rule r) ≡ Wants k → near k)
    → option_map_or (λ r. follow has (rule r)) o (Wants j) ≡ Wants k → near k
ask_wants has near j k rule None s n ih e = let same : j ≡ k = cc in subst near same n
ask_wants has near j k rule (Some r) s n ih e = ih r s e

ask_gives : {A : Type 0} (has : Part) (P : A → Type 0) (j : Key) (x : A) (rule : Option Record → Asks A) (o : Option (Option Record)) → has j ≡ o
    → ((r : Option Record) → has j ≡ Some r → follow has (rule r) ≡ Done x → P x)
    → option_map_or (λ r. follow has (rule r)) o (Wants j) ≡ Done x → P x
ask_gives has P j x rule None s ih e = cc
ask_gives has P j x rule (Some r) s ih e = ih r s e

pub reach_ask : {A : Type 0} (has : Part) (near : Key → Type 0) (j : Key) (rule : Option Record → Asks A) (P : A → Type 0) → near j
    → ((r : Option Record) → has j ≡ Some r → Reaches has near (rule r) P) → Reaches has near (Ask j rule) P
reach_ask has near j rule P n h = record {
  wants = λ k e. ask_wants has near j k rule (has j) refl n (λ r s w. (h r s).wants k w) e;
  gives = λ x e. ask_gives has P j x rule (has j) refl (λ r s w. (h r s).gives x w) e;
}

then_wants : {A B : Type 0} (has : Part) (near : Key → Type 0) (m : Asks A) (f : A → Asks B) (P : A → Type 0) (Q : B → Type 0) (reached : Reached A) → follow has m ≡ reached
    → Reaches has near m P → ((x : A) → P x → Reaches has near (f x) Q) → (k : Key) → follow has (m >>= f) ≡ Wants k → near k
then_wants has near m f P Q (Done x) s h g k e = (g x (h.gives x s)).wants k (sym (follow_done has m f x s) ∙ e)
then_wants has near m f P Q (Wants j) s h g k e = let w : Wants j ≡ Wants k = sym (follow_wants has m f j s) ∙ e in let same : j ≡ k = cc in subst near same (h.wants j s)

then_gives : {A B : Type 0} (has : Part) (near : Key → Type 0) (m : Asks A) (f : A → Asks B) (P : A → Type 0) (Q : B → Type 0) (reached : Reached A) → follow has m ≡ reached
    → Reaches has near m P → ((x : A) → P x → Reaches has near (f x) Q) → (y : B) → follow has (m >>= f) ≡ Done y → Q y
then_gives has near m f P Q (Done x) s h g y e = (g x (h.gives x s)).gives y (sym (follow_done has m f x s) ∙ e)
then_gives has near m f P Q (Wants j) s h g y e = let w : Wants j ≡ Done y = sym (follow_wants has m f j s) ∙ e in cc

-- one, and then another on its result
pub reach_then : {A B : Type 0} (has : Part) (near : Key → Type 0) (m : Asks A) (f : A → Asks B) (P : A → Type 0) (Q : B → Type 0)
    → Reaches has near m P → ((x : A) → P x → Reaches has near (f x) Q) → Reaches has near (m >>= f) Q
reach_then has near m f P Q h g = record {
  wants = then_wants has near m f P Q (follow has m) refl h g;
  gives = then_gives has near m f P Q (follow has m) refl h g;
}

-- of two ways
pub reach_if : {A : Type 0} (has : Part) (near : Key → Type 0) (b : Bool) (m n : Asks A) (P : A → Type 0)
    → (b ≡ true → Reaches has near m P) → (b ≡ false → Reaches has near n P) → Reaches has near (cond b m n) P
reach_if has near true m n P h g = h refl
reach_if has near false m n P h g = g refl
