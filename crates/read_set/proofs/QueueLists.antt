-- The queue of an item: who waits, as a hold is added, leaves or is changed.
use Rattle.std.proofs.Common.{◌≡◌, ◌≤◌, ◌+◌, ℕ, suc, List, [], ◌∷◌, ◌++◌, Bool, true, false, cond, not, length, map, refl, subst, sym, ap, ◌∙◌, arith}
use Rattle.std.specs.Prelude.{◌&&◌, ◌||◌}
use Rattle.std.specs.List.{list_all}
use Rattle.std.proofs.lemmas.Bool.{and_from, and_parts}
use Rattle.circ_records.proofs.SameTexts.{same-text, tie-text}
use Rattle.circ_records.specs.Coherent.{are_distinct, has_id, is_hold, is_known}
use Rattle.circ_records.specs.Texts.{is_same}
use Rattle.circ_records.specs.declared.holds.Hold.{Hold}
use Rattle.sip_reader.specs.Texts.{is_text}
use Rattle.read_set.specs.Ids.{same}
use Rattle.read_set.specs.Maps.{Map}
use Rattle.read_set.specs.Queues.{waits, with_pickup, without_hold}

abbrev pub patrons : List Hold → List (List ℕ)
patrons holds = map (λ (h : Hold). h.patron) holds

pub waits-is : (p : List ℕ) (holds : List Hold) → waits p holds ≡ has_id p (patrons holds)
waits-is p [] = refl
waits-is p (h ∷ more) = ap (λ b. b || waits p more) (tie-text h.patron p) ∙ ap (λ b. is_same p h.patron || b) (waits-is p more)

pub patrons-more : (holds : List Hold) (h : Hold) → patrons (holds ++ h ∷ []) ≡ patrons holds ++ h.patron ∷ []
patrons-more [] h = refl
patrons-more (x ∷ more) h = ap (λ (l : List (List ℕ)). x.patron ∷ l) (patrons-more more h)

pub longer : (holds : List Hold) (h : Hold) → length (holds ++ h ∷ []) ≡ length holds + 1
longer [] h = refl
longer (x ∷ more) h = let e : length (more ++ h ∷ []) ≡ length more + 1 = longer more h in omega arith

pub all-more : (test : Hold → Bool) (holds : List Hold) (h : Hold) → list_all test holds ≡ true → test h ≡ true → list_all test (holds ++ h ∷ []) ≡ true
all-more test [] h a t = ap (λ b. b && true) t
all-more test (x ∷ more) h a t =
    let p = and_parts (test x) (list_all test more) a in
    and_from (test x) (list_all test (more ++ h ∷ [])) p.0 (all-more test more h p.1 t)

-- A HOLD LEAVES

pub none-less : (p x : List ℕ) (holds : List Hold) → has_id x (patrons holds) ≡ false → has_id x (patrons (without_hold p holds)) ≡ false
none-less p x [] e = refl
none-less p x (h ∷ more) e = by (same h.patron p) (is_same x h.patron) refl (has_id x (patrons more)) refl e (none-less p x more)
  where
    by : (a b : Bool) → is_same x h.patron ≡ b → (c : Bool) → has_id x (patrons more) ≡ c → (b || c) ≡ false → (has_id x (patrons more) ≡ false → has_id x (patrons (without_hold p more)) ≡ false)
        → has_id x (patrons (cond a more (h ∷ without_hold p more))) ≡ false
    by a true s c f e rest = cc e
    by a false s true f e rest = cc e
    by true false s false f e rest = f
    by false false s false f e rest = ap (λ b. b || has_id x (patrons (without_hold p more))) s ∙ rest f

pub distinct-less : (p : List ℕ) (holds : List Hold) → are_distinct (patrons holds) ≡ true → are_distinct (patrons (without_hold p holds)) ≡ true
distinct-less p [] d = refl
distinct-less p (h ∷ more) d =
    let q = and_parts (not (has_id h.patron (patrons more))) (are_distinct (patrons more)) d in
    by (same h.patron p) (has_id h.patron (patrons more)) refl q.0 q.1 (distinct-less p more q.1)
  where
    by : (a b : Bool) → has_id h.patron (patrons more) ≡ b → not b ≡ true → are_distinct (patrons more) ≡ true → are_distinct (patrons (without_hold p more)) ≡ true
        → are_distinct (patrons (cond a more (h ∷ without_hold p more))) ≡ true
    by true b f n own rest = own
    by false true f n own rest = cc n
    by false false f n own rest = ap (λ b. not b && are_distinct (patrons (without_hold p more))) (none-less p h.patron more f) ∙ rest

-- who waited once doesn't wait any more
pub gone-less : (p : List ℕ) (holds : List Hold) → are_distinct (patrons holds) ≡ true → has_id p (patrons (without_hold p holds)) ≡ false
gone-less p [] d = refl
gone-less p (h ∷ more) d =
    let q = and_parts (not (has_id h.patron (patrons more))) (are_distinct (patrons more)) d in
    by (same h.patron p) (tie-text h.patron p) (has_id h.patron (patrons more)) refl q.0 (gone-less p more q.1)
  where
    by : (a : Bool) → a ≡ is_same p h.patron → (b : Bool) → has_id h.patron (patrons more) ≡ b → not b ≡ true → has_id p (patrons (without_hold p more)) ≡ false
        → has_id p (patrons (cond a more (h ∷ without_hold p more))) ≡ false
    by true e true f n rest = cc n
    by true e false f n rest = subst (λ (t : List ℕ). has_id t (patrons more) ≡ false) (sym (same-text p h.patron (sym e))) f
    by false e b f n rest = ap (λ c. c || has_id p (patrons (without_hold p more))) (sym e) ∙ rest

pub all-less : (test : Hold → Bool) (p : List ℕ) (holds : List Hold) → list_all test holds ≡ true → list_all test (without_hold p holds) ≡ true
all-less test p [] a = refl
all-less test p (h ∷ more) a =
    let q = and_parts (test h) (list_all test more) a in
    by (same h.patron p) q.0 q.1 (all-less test p more q.1)
  where
    by : (b : Bool) → test h ≡ true → list_all test more ≡ true → list_all test (without_hold p more) ≡ true → list_all test (cond b more (h ∷ without_hold p more)) ≡ true
    by true t own rest = own
    by false t own rest = and_from (test h) (list_all test (without_hold p more)) t rest

pub no-longer : (p : List ℕ) (holds : List Hold) → length (without_hold p holds) ≤ length holds
no-longer p [] = omega arith
no-longer p (h ∷ more) = by (same h.patron p) (no-longer p more)
  where
    by : (b : Bool) → length (without_hold p more) ≤ length more → length (cond b more (h ∷ without_hold p more)) ≤ suc (length more)
    by true e = omega arith
    by false e = omega arith

-- A HOLD IS CHANGED

pub patrons-pickup : (p pickup : List ℕ) (holds : List Hold) → patrons (with_pickup p pickup holds) ≡ patrons holds
patrons-pickup p pickup [] = refl
patrons-pickup p pickup (h ∷ more) = by (same h.patron p) (patrons-pickup p pickup more)
  where
    by : (b : Bool) → patrons (with_pickup p pickup more) ≡ patrons more → patrons (cond b ((record h { pickup = pickup }) ∷ more) (h ∷ with_pickup p pickup more)) ≡ h.patron ∷ patrons more
    by true e = refl
    by false e = ap (λ (l : List (List ℕ)). h.patron ∷ l) e

pub length-pickup : (p pickup : List ℕ) (holds : List Hold) → length (with_pickup p pickup holds) ≡ length holds
length-pickup p pickup [] = refl
length-pickup p pickup (h ∷ more) = by (same h.patron p) (length-pickup p pickup more)
  where
    by : (b : Bool) → length (with_pickup p pickup more) ≡ length more → length (cond b ((record h { pickup = pickup }) ∷ more) (h ∷ with_pickup p pickup more)) ≡ suc (length more)
    by true e = refl
    by false e = ap suc e

pub all-pickup : (M : Map) (p pickup : List ℕ) (holds : List Hold) → is_text pickup ≡ true → list_all (is_hold M) holds ≡ true → list_all (is_hold M) (with_pickup p pickup holds) ≡ true
all-pickup M p pickup [] t a = refl
all-pickup M p pickup (h ∷ more) t a =
    let q = and_parts (is_hold M h) (list_all (is_hold M) more) a in
    by (same h.patron p) q.0 q.1 (all-pickup M p pickup more t q.1)
  where
    by : (b : Bool) → is_hold M h ≡ true → list_all (is_hold M) more ≡ true → list_all (is_hold M) (with_pickup p pickup more) ≡ true
        → list_all (is_hold M) (cond b ((record h { pickup = pickup }) ∷ more) (h ∷ with_pickup p pickup more)) ≡ true
    by true w own rest =
        let k = and_parts (is_known M h.patron) (is_text h.pickup) w in
        and_from (is_known M h.patron && is_text pickup) (list_all (is_hold M) more) (and_from (is_known M h.patron) (is_text pickup) k.0 t) own
    by false w own rest = and_from (is_hold M h) (list_all (is_hold M) (with_pickup p pickup more)) w rest
