-- Changes that are noted key by key.
use Rattle.std.proofs.Common.{◌≡◌, inl, inr, Bool, true, false, cond, List, [], ◌∷◌, ◌++◌, Option, Some, None, Result, Ok, Err, refl, sym, ap, subst, ◌∙◌}
use Rattle.std.specs.Prelude.{◌⊎◌, IfOk}
use Rattle.std.specs.BTreeMap.{is_at}
use Rattle.std.specs.declared.vec.Vec.{Vec}
use Rattle.std.specs.Cmp.{eq_by_cmp_equiv}
use Rattle.std.specs.Ordering.{eq_by_cmp, is_eq}
use Rattle.std.specs.declared.cmp.Ordering.{Ordering}
use Rattle.std.specs.declared.cmp.Ordering.TheVariants.{Less, Equal, Greater}
use Rattle.circ_records.specs.Keys.{key_cmp, key_cmp-IsAntisymmetric, key_cmp_total}
use Rattle.circ_records.specs.Records.{Entries, record_at}
use Rattle.circ_records.specs.declared.key.Key.{Key}
use Rattle.circ_records.specs.declared.record.Record.{Record}
use Rattle.why_lines.specs.Changes.{AreChanges, AreRising, IsChange, change_at}
use Rattle.why_lines.specs.Devices.Noted.{AreNoted, Each, IsNoted}
use Rattle.why_lines.specs.declared.change.Change.{Change}

tie : (o : Ordering) → is_eq o ≡ true → o ≡ Equal
tie Less e = cc
tie Equal e = refl
tie Greater e = cc

-- keys that tie are one
one_key : (j k : Key) → eq_by_cmp key_cmp j k ≡ true → j ≡ k
one_key j k e = key_cmp-IsAntisymmetric j k (tie (key_cmp j k) e)

-- a change at one key more
abbrev pub Adds : List (Key × Change) → List (Key × Change) → Key → Change → Type 0
Adds old new j c = (k : Key) → change_at new k ≡ cond (eq_by_cmp key_cmp j k) (Some c) (change_at old k)

noted_at : (before after : Entries) (old new : List (Key × Change)) (j : Key) (c : Change) (k : Key) (b : Bool) → eq_by_cmp key_cmp j k ≡ b → Adds old new j c
    → IsChange before after j (Some c) → (P : Type 0) → (IsNoted before after new k → P) → (change_at new k ≡ change_at old k → P) → P
noted_at before after old new j c k true e adds real P there other =
    there
    (subst (IsChange before after k) (sym (adds k ∙ ap (λ b. cond b (Some c) (change_at old k)) e))
    (subst (λ (i : Key). IsChange before after i (Some c)) (one_key j k e) real))
noted_at before after old new j c k false e adds real P there other = other (adds k ∙ ap (λ b. cond b (Some c) (change_at old k)) e)

-- what is noted stays noted
pub still : (before after : Entries) (old new : List (Key × Change)) (j : Key) (c : Change) (k : Key) → Adds old new j c → IsChange before after j (Some c)
    → IsNoted before after old k → IsNoted before after new k
still before after old new j c k adds real noted =
    noted_at before after old new j c k (eq_by_cmp key_cmp j k) refl adds real (IsNoted before after new k) (λ t. t) (λ same. subst (IsChange before after k) (sym same) noted)

pub noted_more : (before after : Entries) (old new : List (Key × Change)) (j : Key) (c : Change) → Adds old new j c → IsChange before after j (Some c)
    → AreNoted before after old → AreNoted before after new
noted_more before after old new j c adds real noted k = elim (noted k) [
  | inl none ↦ noted_at before after old new j c k (eq_by_cmp key_cmp j k) refl adds real ((change_at new k ≡ None) ⊎ IsNoted before after new k) (λ t. inr t) (λ same. inl (same ∙ none))
  | inr is ↦ inr (still before after old new j c k adds real is)
]

pub noted_there : (before after : Entries) (old new : List (Key × Change)) (j : Key) (c : Change) → Adds old new j c → IsChange before after j (Some c) → IsNoted before after new j
noted_there before after old new j c adds real =
    subst (IsChange before after j) (sym (adds j ∙ ap (λ b. cond b (Some c) (change_at old j)) ((eq_by_cmp_equiv key_cmp_total).refl j))) real

-- of a record that is as it was nothing is noted
pub noted_same : (before after : Entries) (cs : List (Key × Change)) (k : Key) → AreNoted before after cs → record_at before k ≡ record_at after k → IsNoted before after cs k
noted_same before after cs k noted e = elim (noted k) [
  | inl none ↦ subst (IsChange before after k) (sym none) e
  | inr is ↦ is
]

found : (P : Key → Type 0) (k : Key) (e : Key × Record) (rest : Option Record) (r : Record) (b : Bool) → is_at (key_cmp k) e.0 ≡ b → P e.0 → (rest ≡ Some r → P k)
    → cond b (Some e.1) rest ≡ Some r → P k
found P k e rest r true is p ih at = subst P (sym (one_key k e.0 is)) p
found P k e rest r false is p ih at = ih at

-- what holds of the key of each entry holds of a key that has a record
each_found : (P : Key → Type 0) (es : Entries) (k : Key) (r : Record) → Each es P → record_at es k ≡ Some r → P k
each_found P [] k r h at = cc
each_found P (e ∷ more) k r h at = found P k e (record_at more k) r (is_at (key_cmp k) e.0) refl h.0 (each_found P more k r h.1) at

pub each_push : (P : Key → Type 0) (es : Entries) (e : Key × Record) → Each es P → P e.0 → Each (es ++ e ∷ []) P
each_push P [] e h p = (p, tt)
each_push P (f ∷ more) e h p = (h.0, each_push P more e h.1 p)

pub each_weaker : (P Q : Key → Type 0) (es : Entries) → ((k : Key) → P k → Q k) → Each es P → Each es Q
each_weaker P Q [] f h = tt
each_weaker P Q (e ∷ more) f h = (f e.0 h.0, each_weaker P Q more f h.1)

at_key : (before after : Entries) (cs : List (Key × Change)) (k : Key) (now was : Option Record) → AreNoted before after cs → Each after (IsNoted before after cs)
    → Each before (IsNoted before after cs) → record_at after k ≡ now → record_at before k ≡ was → IsNoted before after cs k
at_key before after cs k (Some r) was noted there gone e f = each_found (IsNoted before after cs) after k r there e
at_key before after cs k None (Some r) noted there gone e f = each_found (IsNoted before after cs) before k r gone f
at_key before after cs k None None noted there gone e f = noted_same before after cs k noted (f ∙ sym e)

-- where each record that is there before or after is noted, all is
all_noted : (before after : Entries) (cs : List (Key × Change)) → AreRising cs → AreNoted before after cs → Each after (IsNoted before after cs)
    → Each before (IsNoted before after cs) → AreChanges before after cs
all_noted before after cs rising noted there gone = record {
  rising = rising;
  each = λ k. at_key before after cs k (record_at after k) (record_at before k) noted there gone refl refl;
}

-- and so it is in a list of them
pub all_noted_listed : {A E : Type 0} (before after : Entries) (cs : List (Key × Change)) (r : Result (Vec (Key × Change) A) E) → IfOk r (λ v. v.items ≡ cs) → IfOk r (λ v. AreRising v.items)
    → AreNoted before after cs → Each after (IsNoted before after cs) → Each before (IsNoted before after cs) → IfOk r (λ v. AreChanges before after v.items)
all_noted_listed before after cs (Ok v) same rising noted there gone =
    subst (AreChanges before after) (sym same) (all_noted before after cs (subst AreRising same rising) noted there gone)
all_noted_listed before after cs (Err e) same rising noted there gone = tt
