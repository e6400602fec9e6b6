use Rattle.std.proofs.Common.{◌≡◌, Bool, true, false, cond, Option, Some, None, refl, ap, ◌∙◌, Result, Ok, Err, IfOk, sym}
use Rattle.std.specs.Prelude.{IfErr}
use Rattle.std.specs.Option.{option_map_or}
use Rattle.read_set.specs.Asks.{Asks, Give, Ask, ◌>>=◌, Done, Wants, follow, over}
use Rattle.read_set.specs.Stops.{StopsAt, Follows, LacksAt}
use Rattle.read_set.specs.Maps.{Map, Part, Agrees, Grows}
use Rattle.read_set.specs.declared.source.Stop.{Stop}
use Rattle.read_set.specs.declared.source.Stop.TheVariants.{Unnoted, Memory}
use Rattle.circ_records.specs.declared.key.Key.{Key}
use Rattle.circ_records.specs.declared.record.Record.{Record}

-- the step of a rule at a key that is had or not
met : {A B : Type 0} (has : Key → Option (Option Record)) (o : Option (Option Record)) (k : Key) (rule : Option Record → Asks A) (f : A → Asks B) (x : A)
    → ((r : Option Record) → follow has (rule r) ≡ Done x → follow has (rule r >>= f) ≡ follow has (f x))
    → option_map_or (λ r. follow has (rule r)) o (Wants k) ≡ Done x
    → option_map_or (λ r. follow has (rule r >>= f)) o (Wants k) ≡ follow has (f x)
met has None k rule f x ih e = cc
met has (Some r) k rule f x ih e = ih r e

-- a rule that ends goes on with the next
pub follow_done : {A B : Type 0} (has : Key → Option (Option Record)) (m : Asks A) (f : A → Asks B) (x : A) → follow has m ≡ Done x → follow has (m >>= f) ≡ follow has (f x)
follow_done has (Give y) f x e = let same : y ≡ x = cc in ap (λ v. follow has (f v)) same
follow_done has (Ask k rule) f x e = met has (has k) k rule f x (λ r. follow_done has (rule r) f x) e

lacked : {A B : Type 0} (has : Key → Option (Option Record)) (o : Option (Option Record)) (k : Key) (rule : Option Record → Asks A) (f : A → Asks B) (j : Key)
    → ((r : Option Record) → follow has (rule r) ≡ Wants j → follow has (rule r >>= f) ≡ Wants j)
    → option_map_or (λ r. follow has (rule r)) o (Wants k) ≡ Wants j
    → option_map_or (λ r. follow has (rule r >>= f)) o (Wants k) ≡ Wants j
lacked has None k rule f j ih e = let same : k ≡ j = cc in ap Wants same
lacked has (Some r) k rule f j ih e = ih r e

-- one that stops has stopped
pub follow_wants : {A B : Type 0} (has : Key → Option (Option Record)) (m : Asks A) (f : A → Asks B) (j : Key) → follow has m ≡ Wants j → follow has (m >>= f) ≡ Wants j
follow_wants has (Give y) f j e = cc
follow_wants has (Ask k rule) f j e = lacked has (has k) k rule f j (λ r. follow_wants has (rule r) f j) e

-- both to their ends
pub follow_then : {A B : Type 0} (has : Key → Option (Option Record)) (m : Asks A) (f : A → Asks B) (x : A) (y : B) → follow has m ≡ Done x → follow has (f x) ≡ Done y → follow has (m >>= f) ≡ Done y
follow_then has m f x y first second = follow_done has m f x first ∙ second

more_met : {A : Type 0} (old new : Part) (o : Option (Option Record)) (k : Key) (rule : Option Record → Asks A) (x : A)
    → ((r : Option Record) → follow old (rule r) ≡ Done x → follow new (rule r) ≡ Done x)
    → ((r : Option Record) → o ≡ Some r → new k ≡ Some r)
    → option_map_or (λ r. follow old (rule r)) o (Wants k) ≡ Done x
    → option_map_or (λ r. follow new (rule r)) (new k) (Wants k) ≡ Done x
more_met old new None k rule x ih grows e = cc
more_met old new (Some r) k rule x ih grows e = rw (grows r refl) (ih r e)

-- What a rule results in on less it results in on more.
pub follow_more : {A : Type 0} (old new : Part) (m : Asks A) (x : A) → Grows old new → follow old m ≡ Done x → follow new m ≡ Done x
follow_more old new (Give y) x grows e = e
follow_more old new (Ask k rule) x grows e = more_met old new (old k) k rule x (λ r. follow_more old new (rule r) x grows) (grows k) e

-- one that ended on less, and then the next, which ends on more
pub follow_next : {A B : Type 0} (old new : Part) (m : Asks A) (f : A → Asks B) (x : A) (y : B) → Grows old new → follow old m ≡ Done x → follow new (f x) ≡ Done y → follow new (m >>= f) ≡ Done y
follow_next old new m f x y grows first second = follow_then new m f x y (follow_more old new m x grows first) second

ends : {A : Type 0} (has : Key → Option (Option Record)) (M : Key → Option Record) (k : Key) (rule : Option Record → Asks A) (x : A) (o : Option (Option Record))
    → ((r : Option Record) → follow has (rule r) ≡ Done x → over M (rule r) ≡ x)
    → ((r : Option Record) → o ≡ Some r → M k ≡ r)
    → option_map_or (λ r. follow has (rule r)) o (Wants k) ≡ Done x
    → over M (rule (M k)) ≡ x
ends has M k rule x None ih a e = cc
ends has M k rule x (Some r) ih a e = rw (a r refl) (ih r e)

-- A rule that ends on what is had gives its result over every map that has it.
pub settles : {A : Type 0} (has : Key → Option (Option Record)) (M : Key → Option Record) (m : Asks A) (x : A) → Agrees has M → follow has m ≡ Done x → over M m ≡ x
settles has M (Give y) x a e = cc
settles has M (Ask k rule) x a e = ends has M k rule x (has k) (λ r. settles has M (rule r) x a) (a k) e

-- the same of a rule that stops at its second part, on more, and of one that stops at its first
pub stop_next : {A B : Type 0} (old new : Part) (m : Asks A) (f : A → Asks B) (x : A) (stop : Stop) → Grows old new → follow old m ≡ Done x → StopsAt stop (follow new (f x)) → StopsAt stop (follow new (m >>= f))
stop_next old new m f x stop grows first second = rw (follow_done new m f x (follow_more old new m x grows first)) second

pub stop_then : {A B : Type 0} (has : Key → Option (Option Record)) (m : Asks A) (f : A → Asks B) (stop : Stop) → StopsAt stop (follow has m) → StopsAt stop (follow has (m >>= f))
stop_then has m f (Unnoted k) h = follow_wants has m f k h
stop_then has m f Memory h = tt

lacks_on : {A : Type 0} (has : Key → Option (Option Record)) (o : Option (Option Record)) (k : Key) (rule : Option Record → Asks A) (j : Key) → o ≡ has k
    → ((r : Option Record) → follow has (rule r) ≡ Wants j → has j ≡ None)
    → option_map_or (λ r. follow has (rule r)) o (Wants k) ≡ Wants j → has j ≡ None
lacks_on has None k rule j s ih e = let same : k ≡ j = cc in ap has (sym same) ∙ sym s
lacks_on has (Some r) k rule j s ih e = ih r e

-- a key that is wanted isn't had
pub wants_lacks : {A : Type 0} (has : Key → Option (Option Record)) (m : Asks A) (j : Key) → follow has m ≡ Wants j → has j ≡ None
wants_lacks has (Give x) j e = cc
wants_lacks has (Ask k rule) j e = lacks_on has (has k) k rule j refl (λ r. wants_lacks has (rule r) j) e

stop_lacks : {A : Type 0} (has : Key → Option (Option Record)) (m : Asks A) (stop : Stop) → StopsAt stop (follow has m) → LacksAt has stop
stop_lacks has m (Unnoted k) h = wants_lacks has m k h
stop_lacks has m Memory h = tt

pub lacks_all : {A : Type 0} (has : Key → Option (Option Record)) (m : Asks A) (r : Result A Stop) → Follows r (follow has m) → IfErr r (LacksAt has)
lacks_all has m (Ok x) h = tt
lacks_all has m (Err stop) h = stop_lacks has m stop h

-- a map gives one rule's result to the next
pub over_then : {A B : Type 0} (M : Key → Option Record) (m : Asks A) (f : A → Asks B) → over M (m >>= f) ≡ over M (f (over M m))
over_then M (Give x) f = refl
over_then M (Ask k rule) f = over_then M (rule (M k)) f

-- what holds whatever a first part gives
pub over_all : {A B : Type 0} (M : Map) (m : Asks A) (f : A → Asks B) (P : B → Type 0) → ((x : A) → P (over M (f x))) → P (over M (m >>= f))
over_all M (Give x) f P h = h x
over_all M (Ask k rule) f P h = over_all M (rule (M k)) f P h

-- of two ways, the one that is taken
pub over_either : {A : Type 0} (M : Map) (b : Bool) (m n : Asks A) (P : A → Type 0) → (b ≡ true → P (over M m)) → (b ≡ false → P (over M n)) → P (over M (cond b m n))
over_either M true m n P h k = h refl
over_either M false m n P h k = k refl

-- what a call returned that followed a rule is what the rule means over every map that has what is had
pub meant_by : {A : Type 0} (has : Part) (m : Asks A) (f : Map → A) → ((M : Map) → over M m ≡ f M) → (r : Result A Stop) → Follows r (follow has m) → IfOk r (λ x. (M : Map) → Agrees has M → x ≡ f M)
meant_by has m f law (Ok x) h = λ M a. sym (settles has M m x a h) ∙ law M
meant_by has m f law (Err stop) h = tt

-- what the rule gives over it
pub meant : {A : Type 0} (has : Part) (m : Asks A) (r : Result A Stop) → Follows r (follow has m) → IfOk r (λ x. (M : Map) → Agrees has M → x ≡ over M m)
meant has m r h = meant_by has m (λ M. over M m) (λ M. refl) r h

-- one that ends goes on with what a call returned of the next, on more
pub goes_on : {A B : Type 0} (old new : Part) (m : Asks A) (f : A → Asks B) (x : A) (r : Result B Stop) → Grows old new → follow old m ≡ Done x → Follows r (follow new (f x)) → Follows r (follow new (m >>= f))
goes_on old new m f x r grows first second = rw (follow_done new m f x (follow_more old new m x grows first)) second
