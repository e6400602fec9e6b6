-- What a source gains while rules are followed, one after another.
use Rattle.std.proofs.Common.{◌≡◌, inl, inr, Option, Some, None, refl, subst, ◌∙◌}
use Rattle.std.specs.Option.{option_map_or}
use Rattle.circ_records.specs.declared.key.Key.{Key}
use Rattle.circ_records.specs.declared.record.Record.{Record}
use Rattle.read_set.specs.Asks.{Asks, Give, Ask, ◌>>=◌, Done, Wants, follow, OnHad, IsAsked, Gains}
use Rattle.read_set.specs.Maps.{Part, Grows}
use Rattle.read_set.proofs.Following.{follow_more}

on_had : (o : Option (Option Record)) (P Q : Option Record → Type 0) → ((r : Option Record) → P r → Q r) → OnHad o P → OnHad o Q
on_had None P Q f h = h
on_had (Some r) P Q f h = f r h

on_more : (new : Part) (o : Option (Option Record)) (j : Key) (P Q : Option Record → Type 0) → ((r : Option Record) → o ≡ Some r → new j ≡ Some r) → ((r : Option Record) → P r → Q r) → OnHad o P → OnHad (new j) Q
on_more new None j P Q grows f h = absurd h
on_more new (Some r) j P Q grows f h = rw (grows r refl) (f r h)

-- what is asked for on less is asked for on more
pub asked_more : {A : Type 0} (old new : Part) (m : Asks A) (k : Key) → Grows old new → IsAsked old m k → IsAsked new m k
asked_more old new (Give x) k grows h = h
asked_more old new (Ask j rule) k grows (inl e) = inl e
asked_more old new (Ask j rule) k grows (inr h) =
    inr (on_more new (old j) j (λ r. IsAsked old (rule r) k) (λ r. IsAsked new (rule r) k) (grows j) (λ r. asked_more old new (rule r) k grows) h)

-- what a first part asks for, the whole asks for
pub asked_first : {A B : Type 0} (has : Part) (m : Asks A) (f : A → Asks B) (k : Key) → IsAsked has m k → IsAsked has (m >>= f) k
asked_first has (Give x) f k h = absurd h
asked_first has (Ask j rule) f k (inl e) = inl e
asked_first has (Ask j rule) f k (inr h) =
    inr (on_had (has j) (λ r. IsAsked has (rule r) k) (λ r. IsAsked has (rule r >>= f) k) (λ r. asked_first has (rule r) f k) h)

next_had : {A B : Type 0} (has : Part) (o : Option (Option Record)) (j : Key) (rule : Option Record → Asks A) (f : A → Asks B) (x : A) (k : Key)
    → ((r : Option Record) → follow has (rule r) ≡ Done x → IsAsked has (f x) k → IsAsked has (rule r >>= f) k)
    → option_map_or (λ r. follow has (rule r)) o (Wants j) ≡ Done x → IsAsked has (f x) k → OnHad o (λ r. IsAsked has (rule r >>= f) k)
next_had has None j rule f x k ih e h = absurd (cc)
next_had has (Some r) j rule f x k ih e h = ih r e h

-- and what the part after it asks for
pub asked_next : {A B : Type 0} (has : Part) (m : Asks A) (f : A → Asks B) (x : A) (k : Key) → follow has m ≡ Done x → IsAsked has (f x) k → IsAsked has (m >>= f) k
asked_next has (Give y) f x k e h = let same : x ≡ y = cc in subst (λ v. IsAsked has (f v) k) same h
asked_next has (Ask j rule) f x k e h = inr (next_had has (has j) j rule f x k (λ r. asked_next has (rule r) f x k) e h)

-- nothing was read
pub gains_none : {A P : Type 0} (has : Part) (m : Asks A) → Gains P has has m
gains_none has m = record { grows = λ k r e. e; asked = λ p k. inl refl }

nothing : (o : Option (Option Record)) (P : Option Record → Type 0) → OnHad o (λ r. ⊥) → OnHad o P
nothing None P h = h
nothing (Some r) P h = absurd h

-- one record was read
pub gains_ask : {A P : Type 0} (old new : Part) (j : Key) (rule : Option Record → Asks A) → Gains P old new (Ask j Give) → Gains P old new (Ask j rule)
gains_ask old new j rule h = record {
  grows = h.grows;
  asked = λ p k. elim (h.asked p k) [
    | inl e ↦ inl e
    | inr a ↦ elim a [
      | inl is ↦ inr (inl is)
      | inr none ↦ inr (inr (nothing (new j) (λ r. IsAsked new (rule r) k) none))
    ]
  ];
}

-- a first part alone was followed
pub gains_first : {A B P : Type 0} (old new : Part) (m : Asks A) (f : A → Asks B) → Gains P old new m → Gains P old new (m >>= f)
gains_first old new m f h = record {
  grows = h.grows;
  asked = λ p k. elim (h.asked p k) [
    | inl e ↦ inl e
    | inr a ↦ inr (asked_first new m f k a)
  ];
}

-- a part, of a walk of which it is the next, after what was read before
pub gains_step : {A B P : Type 0} (first now last : Part) (m : Asks A) (whole : Asks B) → Gains P first now whole → Gains P now last m → ((k : Key) → IsAsked last m k → IsAsked last whole k) → Gains P first last whole
gains_step first now last m whole h g within = record {
  grows = λ k r e. g.grows k r (h.grows k r e);
  asked = λ p k. elim (g.asked p k) [
    | inl e ↦ elim (h.asked p k) [
      | inl d ↦ inl (e ∙ d)
      | inr a ↦ inr (asked_more now last whole k g.grows a)
    ]
    | inr a ↦ inr (within k a)
  ];
}

-- a part that ended, and then the next
pub gains_then : {A B P : Type 0} (first now last : Part) (m : Asks A) (f : A → Asks B) (x : A) → follow now m ≡ Done x → Gains P first now m → Gains P now last (f x) → Gains P first last (m >>= f)
gains_then first now last m f x e h g =
    gains_step first now last (f x) (m >>= f) (gains_first first now m f h) g
    (λ k a. asked_next last m f x k (follow_more now last m x g.grows e) a)
