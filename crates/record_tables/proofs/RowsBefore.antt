-- What is kept of rows, as one row more is read.
use Rattle.std.proofs.Common.{◌≡◌, ◌≤◌, ◌<◌, ◌+◌, ◌⊎◌, ℕ, List, [], ◌∷◌, ◌++◌, Bool, true, false, cond, Option, Some, None, length, inl, inr, refl, sym, ap, ◌∙◌, arith}
use Rattle.std.specs.Prelude.{is_some, nat_le, option_map, unwrap_or, ◌&&◌, ◌||◌}
use Rattle.std.specs.BTreeMap.{BTreeMap, get, is_at}
use Rattle.std.specs.BTreeSet.{BTreeSet, contains}
use Rattle.std.specs.Cmp.Lexicographic.{slice_cmp}
use Rattle.std.specs.List.{list_any}
use Rattle.std.specs.Map.{lookup}
use Rattle.std.specs.Option.{option_or}
use Rattle.std.specs.Ordering.{is_eq, nat_cmp, ordering_then}
use Rattle.std.specs.declared.cmp.Ordering.{Ordering}
use Rattle.std.specs.declared.cmp.Ordering.TheVariants.{Less, Equal, Greater}
use Rattle.std.proofs.lemmas.Bool.{le-leb, leb-false, leb-true}
use Rattle.std.proofs.lemmas.List.{length-append}
use Rattle.std.proofs.lemmas.List.Elements.{filter-append}
use Rattle.std.proofs.lemmas.List.Folds.{list_any-append}
use Rattle.sip_reader.specs.Texts.{is_id}
use Rattle.record_tables.specs.Read.{pair_cmp}
use Rattle.record_tables.specs.Rules.{has_hold, has_row, is_borrower, is_of_patron}
use Rattle.record_tables.specs.Tables.{Row, field}
use Rattle.record_tables.specs.Told.{row_with, rows_with}
use Rattle.circ_records.specs.Texts.{is_same}
use Rattle.circ_records.specs.declared.holds.TheConstants.{QUEUE_MAX}
use Rattle.record_tables.proofs.Waiting.{same-pair}
use Rattle.record_tables.proofs.Lookups.{find-append, is_some-map}
use Rattle.circ_records.proofs.SameTexts.{same-text, tie-text}
use Rattle.record_tables.specs.RowsBefore.{HasHolds, HasIds, HasLoans, HasQueues, as_far, id_in}

abbrev pub id_cmp : List ℕ → List ℕ → Ordering
id_cmp = slice_cmp nat_cmp

either-way : (b h : Bool) → cond b true h ≡ (h || b)
either-way true true = refl
either-way true false = refl
either-way false true = refl
either-way false false = refl

or-none : (h : Bool) → (h || false) ≡ h
or-none true = refl
or-none false = refl

-- an id isn't a text that is none
other-text : (q t : List ℕ) → is_id q ≡ true → is_id t ≡ false → is_same q t ≡ false
other-text q t ok bad = by (is_same q t) refl
  where
    by : (b : Bool) → is_same q t ≡ b → b ≡ false
    by true e = cc (ok, bad, same-text q t e)
    by false e = refl

some-of-both : (b : Bool) (row : Row) (o : Option Row) → is_some (option_or o (cond b (Some row) None)) ≡ (is_some o || b)
some-of-both true row None = refl
some-of-both false row None = refl
some-of-both b row (Some x) = refl

-- what is read of a text that is an id, or none
pub read-some : (text id : List ℕ) (o : Option (List ℕ)) → o ≡ id_in text → o ≡ Some id → id ≡ text
read-some text id o is some = by (is_id text) refl
  where
    by : (b : Bool) → is_id text ≡ b → id ≡ text
    by true e = cc (is, some, e)
    by false e = cc (is, some, e)

pub read-none : (text : List ℕ) (o : Option (List ℕ)) → o ≡ id_in text → o ≡ None → is_id text ≡ false
read-none text o is none = by (is_id text) refl
  where
    by : (b : Bool) → is_id text ≡ b → b ≡ false
    by true e = cc (is, none, e)
    by false e = refl

-- IDS

has_row-more : (column : ℕ) (q : List ℕ) (rows : List Row) (row : Row) → has_row column q (rows ++ row ∷ []) ≡ (has_row column q rows || is_same q (field column row))
has_row-more column q rows row =
    ap is_some (find-append (λ (r : Row). is_same q (field column r)) rows (row ∷ []))
    ∙ some-of-both (is_same q (field column row)) row (row_with column q rows)

pub ids-more : (column : ℕ) (before : List Row) (row : Row) (old new : BTreeSet (List ℕ))
    (id : List ℕ) → id ≡ field column row
    → ((q : List ℕ) → contains id_cmp new q ≡ cond (is_eq (id_cmp id q)) true (contains id_cmp old q))
    → HasIds column before old → HasIds column (before ++ row ∷ []) new
ids-more column before row old new id is updates has = λ q ok.
    updates q
    ∙ ap (λ b. cond b true (contains id_cmp old q)) (tie-text id q ∙ ap (is_same q) is)
    ∙ ap (cond (is_same q (field column row)) true) (has q ok)
    ∙ either-way (is_same q (field column row)) (has_row column q before)
    ∙ sym (has_row-more column q before row)

pub ids-same : (column : ℕ) (before : List Row) (row : Row) (ids : BTreeSet (List ℕ)) → is_id (field column row) ≡ false
    → HasIds column before ids → HasIds column (before ++ row ∷ []) ids
ids-same column before row ids bad has = λ q ok.
    has q ok
    ∙ sym (or-none (has_row column q before))
    ∙ ap (λ b. has_row column q before || b) (sym (other-text q (field column row) ok bad))
    ∙ sym (has_row-more column q before row)

-- LOANS

abbrev pub patron-of : Row → Option (List ℕ)
patron-of loan = id_in (field 0 loan)

row_with-more : (q : List ℕ) (rows : List Row) (row : Row)
    → row_with 1 q (rows ++ row ∷ []) ≡ option_or (row_with 1 q rows)
    (cond (is_same q (field 1 row)) (Some row) None)
row_with-more q rows row = find-append (λ (r : Row). is_same q (field 1 r)) rows (row ∷ [])

none-mapped : (o : Option Row) → option_map patron-of o ≡ None → o ≡ None
none-mapped None e = refl
none-mapped (Some x) e = cc e

none-left : (o : Option Row) → option_or o None ≡ o
none-left None = refl
none-left (Some x) = refl

-- a loan of an item that isn't lent
pub loans-put : (before : List Row) (row : Row) (old new : BTreeMap (List ℕ) (Option (List ℕ)))
    (item : List ℕ) (patron : Option (List ℕ)) → item ≡ field 1 row → patron ≡ id_in (field 0 row)
    → is_some (get id_cmp old item) ≡ false
    → ((q : List ℕ) → get id_cmp new q ≡ cond (is_eq (id_cmp item q)) (Some patron)
    (get id_cmp old q))
    → HasLoans before old → HasLoans (before ++ row ∷ []) new
loans-put before row old new item patron i p free updates has = λ q ok.
    updates q ∙ ap (λ b. cond b (Some patron) (get id_cmp old q)) (tie-text item q) ∙ by q ok (is_same q item) refl
  where
    free-at : (o : Option (Option (List ℕ))) → is_some o ≡ false → o ≡ None
    free-at None e = refl
    free-at (Some x) e = cc e

    by : (q : List ℕ) → is_id q ≡ true → (b : Bool) → is_same q item ≡ b
        → cond b (Some patron) (get id_cmp old q) ≡ option_map patron-of (row_with 1 q (before ++ row ∷ []))
    by q ok true e =
        let same : q ≡ item = same-text q item e in
        let none : row_with 1 q before ≡ None = none-mapped _ (sym (has q ok) ∙ ap (get id_cmp old) same ∙ free-at _ free) in
        let hit : is_same q (field 1 row) ≡ true = sym (ap (is_same q) i) ∙ e in
        ap Some p ∙ sym (ap (option_map patron-of) (row_with-more q before row ∙ ap (λ o. option_or o (cond (is_same q (field 1 row)) (Some row) None)) none
        ∙ ap (λ b. option_or None (cond b (Some row) None)) hit))
    by q ok false e =
        let miss : is_same q (field 1 row) ≡ false = sym (ap (is_same q) i) ∙ e in
        has q ok ∙ sym (ap (option_map patron-of) (row_with-more q before row ∙ ap (λ b. option_or (row_with 1 q before) (cond b (Some row) None)) miss ∙ none-left (row_with 1 q before)))

-- a loan of one that is
pub loans-kept : (before : List Row) (row : Row) (lent : BTreeMap (List ℕ) (Option (List ℕ)))
    (item : List ℕ) → item ≡ field 1 row
    → is_some (get id_cmp lent item) ≡ true → HasLoans before lent → HasLoans (before ++ row ∷ []) lent
loans-kept before row lent item i is has = λ q ok. has q ok ∙ ap (option_map patron-of) (sym (row_with-more q before row ∙ by q ok (is_same q item) refl (row_with 1 q before) refl))
  where
    some-mapped : (o : Option Row) → is_some (option_map patron-of o) ≡ true → o ≡ None → ⊥
    some-mapped o some none = cc (some, none)

    by : (q : List ℕ) → is_id q ≡ true → (b : Bool) → is_same q item ≡ b → (o : Option Row) → row_with 1 q before ≡ o
        → option_or o (cond (is_same q (field 1 row)) (Some row) None) ≡ o
    by q ok b e (Some x) at = refl
    by q ok true e None at = absurd (some-mapped (row_with 1 q before) (ap is_some (sym (has q ok)) ∙ ap (λ t. is_some (get id_cmp lent t)) (same-text q item e) ∙ is) at)
    by q ok false e None at = ap (λ b. option_or None (cond b (Some row) None)) (sym (ap (is_same q) i) ∙ e)

-- a row without an item
pub loans-same : (before : List Row) (row : Row) (lent : BTreeMap (List ℕ) (Option (List ℕ)))
    → is_id (field 1 row) ≡ false → HasLoans before lent → HasLoans (before ++ row ∷ []) lent
loans-same before row lent bad has = λ q ok.
    has q ok ∙ ap (option_map patron-of) (sym (row_with-more q before row
    ∙ ap (λ b. option_or (row_with 1 q before) (cond b (Some row) None))
    (other-text q (field 1 row) ok bad) ∙ none-left (row_with 1 q before)))

-- HOLDS

has_hold-more : (a b : List ℕ) (rows : List Row) (row : Row) → has_hold a b (rows ++ row ∷ []) ≡ (has_hold a b rows || (is_same a (field 0 row) && is_same b (field 1 row)))
has_hold-more a b rows row =
    list_any-append (λ (r : Row). is_same a (field 0 r) && is_same b (field 1 r)) rows (row ∷ [])
    ∙ ap (λ t. has_hold a b rows || t) (or-none (is_same a (field 0 row) && is_same b (field 1 row)))

pub holds-more : (before : List Row) (row : Row) (old new : BTreeSet (List ℕ × List ℕ))
    (hold : List ℕ × List ℕ) → hold.0 ≡ field 0 row → hold.1 ≡ field 1 row
    → ((q : List ℕ × List ℕ) → contains pair_cmp new q ≡ cond (is_eq (pair_cmp hold q)) true (contains pair_cmp old q))
    → HasHolds before old → HasHolds (before ++ row ∷ []) new
holds-more before row old new hold i p updates has = λ a b ok fine.
    updates (a, b)
    ∙ ap (λ t. cond t true (contains pair_cmp old (a, b)))
    (same-pair hold.0 hold.1 a b ∙ ap (λ (t : List ℕ). is_same a t && is_same b hold.1) i
    ∙ ap (λ (t : List ℕ). is_same a (field 0 row) && is_same b t) p)
    ∙ ap (cond (is_same a (field 0 row) && is_same b (field 1 row)) true) (has a b ok fine)
    ∙ either-way (is_same a (field 0 row) && is_same b (field 1 row)) (has_hold a b before)
    ∙ sym (has_hold-more a b before row)

other-pair : (a b : List ℕ) (row : Row) → is_id a ≡ true → is_id b ≡ true
    → (is_id (field 0 row) && is_id (field 1 row)) ≡ false
    → (is_same a (field 0 row) && is_same b (field 1 row)) ≡ false
other-pair a b row ok fine bad = by (is_id (field 0 row)) refl (is_id (field 1 row)) refl
  where
    and-none : (t : Bool) → (t && false) ≡ false
    and-none true = refl
    and-none false = refl

    by : (s : Bool) → is_id (field 0 row) ≡ s → (t : Bool) → is_id (field 1 row) ≡ t
        → (is_same a (field 0 row) && is_same b (field 1 row)) ≡ false
    by false e t f = ap (λ x. x && is_same b (field 1 row)) (other-text a (field 0 row) ok e)
    by true e false f =
        ap (λ x. is_same a (field 0 row) && x) (other-text b (field 1 row) fine f) ∙ and-none (is_same a (field 0 row))
    by true e true f = cc (bad, e, f)

pub holds-same : (before : List Row) (row : Row) (waiting : BTreeSet (List ℕ × List ℕ))
    → (is_id (field 0 row) && is_id (field 1 row)) ≡ false → HasHolds before waiting
    → HasHolds (before ++ row ∷ []) waiting
holds-same before row waiting bad has = λ a b ok fine.
    has a b ok fine ∙ sym (or-none (has_hold a b before)) ∙ ap (λ t. has_hold a b before || t) (sym (other-pair a b row ok fine bad)) ∙ sym (has_hold-more a b before row)

-- QUEUES

waiting-more : (q : List ℕ) (rows : List Row) (row : Row) (b : Bool) → is_same q (field 0 row) ≡ b
    → length (rows_with 0 q (rows ++ row ∷ [])) ≡ length (rows_with 0 q rows) + cond b 1 0
waiting-more q rows row b e =
    ap (λ (xs : List Row). length xs) (filter-append (λ (r : Row). is_same q (field 0 r)) rows (row ∷ []))
    ∙ length-append (rows_with 0 q rows) (rows_with 0 q (row ∷ []))
    ∙ ap (λ n. length (rows_with 0 q rows) + n) (one b e)
  where
    one : (b : Bool) → is_same q (field 0 row) ≡ b → length (rows_with 0 q (row ∷ [])) ≡ cond b 1 0
    one true e = ap (λ (b : Bool). length (cond b (row ∷ []) [])) e
    one false e = ap (λ (b : Bool). length (cond b (row ∷ []) [])) e

same-count : (n : ℕ) → as_far (n + 0) ≡ as_far n
same-count n = let e : n + 0 ≡ n = omega arith in ap as_far e

-- one more, where as many as a queue takes aren't reached
one-further : (n m : ℕ) → as_far n ≡ m → m < QUEUE_MAX → m + 1 ≡ as_far (n + 1)
one-further n m e lt = by (nat_le QUEUE_MAX n) refl (nat_le QUEUE_MAX (n + 1)) refl
  where
    by : (a : Bool) → nat_le QUEUE_MAX n ≡ a → (b : Bool) → nat_le QUEUE_MAX (n + 1) ≡ b → m + 1 ≡ as_far (n + 1)
    by true ea b eb = let full : QUEUE_MAX ≡ m = sym (ap (λ (t : Bool). cond t QUEUE_MAX n) ea) ∙ e in absurd (omega (arith, lt, full))
    by false ea true eb =
        let same : n ≡ m = sym (ap (λ (t : Bool). cond t QUEUE_MAX n) ea) ∙ e in
        let last : m + 1 ≡ QUEUE_MAX = omega (arith, lt, same, leb-true QUEUE_MAX (n + 1) eb) in
        last ∙ sym (ap (λ (t : Bool). cond t QUEUE_MAX (n + 1)) eb)
    by false ea false eb =
        let same : n ≡ m = sym (ap (λ (t : Bool). cond t QUEUE_MAX n) ea) ∙ e in
        ap (λ k. k + 1) (sym same) ∙ sym (ap (λ (t : Bool). cond t QUEUE_MAX (n + 1)) eb)

-- none further
bad-further : (n : ℕ) → QUEUE_MAX ≤ as_far n → as_far n ≡ as_far (n + 1)
bad-further n le = by (nat_le QUEUE_MAX n) refl
  where
    by : (a : Bool) → nat_le QUEUE_MAX n ≡ a → as_far n ≡ as_far (n + 1)
    by true ea =
        let far : QUEUE_MAX ≤ n + 1 = omega (arith, leb-true QUEUE_MAX n ea) in
        ap (λ (t : Bool). cond t QUEUE_MAX n) ea ∙ sym (ap (λ (t : Bool). cond t QUEUE_MAX (n + 1)) (le-leb QUEUE_MAX (n + 1) far))
    by false ea =
        let is : as_far n ≡ n = ap (λ (t : Bool). cond t QUEUE_MAX n) ea in
        absurd (omega (arith, le, is, leb-false QUEUE_MAX n ea))

-- a hold of an item whose queue isn't full
pub queues-put : (before : List Row) (row : Row) (old new : BTreeMap (List ℕ) ℕ) (item : List ℕ)
    (len : ℕ) → item ≡ field 0 row
    → len ≡ unwrap_or (get id_cmp old item) 0 → len < QUEUE_MAX
    → ((q : List ℕ) → get id_cmp new q ≡ cond (is_eq (id_cmp item q)) (Some (len + 1))
    (get id_cmp old q))
    → HasQueues before old → HasQueues (before ++ row ∷ []) new
queues-put before row old new item len i is lt updates has = λ q ok.
    ap (λ o. unwrap_or o 0) (updates q ∙ ap (λ b. cond b (Some (len + 1)) (get id_cmp old q)) (tie-text item q)) ∙ by q ok (is_same q item) refl
  where
    by : (q : List ℕ) → is_id q ≡ true → (b : Bool) → is_same q item ≡ b
        → unwrap_or (cond b (Some (len + 1)) (get id_cmp old q)) 0
        ≡ as_far (length (rows_with 0 q (before ++ row ∷ [])))
    by q ok true e =
        let same : item ≡ q = sym (same-text q item e) in
        let count : as_far (length (rows_with 0 q before)) ≡ len = sym (has q ok) ∙ ap (λ t. unwrap_or (get id_cmp old t) 0) (sym same) ∙ sym is in
        one-further (length (rows_with 0 q before)) len count lt ∙ ap as_far (sym (waiting-more q before row true (sym (ap (is_same q) i) ∙ e)))
    by q ok false e =
        has q ok ∙ sym (same-count (length (rows_with 0 q before))) ∙ ap as_far (sym (waiting-more q before row false (sym (ap (is_same q) i) ∙ e)))

-- of one whose queue is full
pub queues-kept : (before : List Row) (row : Row) (lengths : BTreeMap (List ℕ) ℕ) (item : List ℕ) → item ≡ field 0 row
    → QUEUE_MAX ≤ unwrap_or (get id_cmp lengths item) 0 → HasQueues before lengths
    → HasQueues (before ++ row ∷ []) lengths
queues-kept before row lengths item i full has = λ q ok. has q ok ∙ by q ok (is_same q item) refl
  where
    by : (q : List ℕ) → is_id q ≡ true → (b : Bool) → is_same q item ≡ b
        → as_far (length (rows_with 0 q before))
        ≡ as_far (length (rows_with 0 q (before ++ row ∷ [])))
    by q ok true e =
        let same : unwrap_or (get id_cmp lengths item) 0 ≡ as_far (length (rows_with 0 q before)) = ap (λ t. unwrap_or (get id_cmp lengths t) 0) (sym (same-text q item e)) ∙ has q ok in
        bad-further (length (rows_with 0 q before)) (omega (arith, full, same)) ∙ ap as_far (sym (waiting-more q before row true (sym (ap (is_same q) i) ∙ e)))
    by q ok false e = sym (same-count (length (rows_with 0 q before))) ∙ ap as_far (sym (waiting-more q before row false (sym (ap (is_same q) i) ∙ e)))

-- a row without an item
pub queues-same : (before : List Row) (row : Row) (lengths : BTreeMap (List ℕ) ℕ)
    → is_id (field 0 row) ≡ false → HasQueues before lengths
    → HasQueues (before ++ row ∷ []) lengths
queues-same before row lengths bad has = λ q ok.
    has q ok ∙ sym (same-count (length (rows_with 0 q before))) ∙ ap as_far (sym (waiting-more q before row false (other-text q (field 0 row) ok bad)))

-- LOOK-UPS

pub is_lent-by : (loans : List Row) (item : List ℕ) (found : Option (Option (List ℕ)))
    → found ≡ option_map patron-of (row_with 1 item loans) → is_some found ≡ has_row 1 item loans
is_lent-by loans item found is = ap is_some is ∙ is_some-map patron-of (row_with 1 item loans)

-- the patron of an item's first loan is this one, or another; or it is bad id
pub borrower-is : (loans : List Row) (item patron b : List ℕ)
    → Some (Some b) ≡ option_map patron-of (row_with 1 item loans)
    → is_eq (id_cmp b patron) ≡ is_borrower patron item loans
unfolding is_borrower
borrower-is loans item patron b is = by (row_with 1 item loans) is
  where
    same : (loan : Row) (ok : Bool) → is_id (field 0 loan) ≡ ok
        → Some (Some b) ≡ Some (cond ok (Some (field 0 loan)) None) → b ≡ field 0 loan
    same loan true e h = cc h
    same loan false e h = cc h

    by : (o : Option Row) → Some (Some b) ≡ option_map patron-of o → is_eq (id_cmp b patron) ≡ is_of_patron patron o
    by None h = cc h
    by (Some loan) h = tie-text b patron ∙ ap (is_same patron) (same loan (is_id (field 0 loan)) refl h)

pub borrower-is-none : (loans : List Row) (item patron : List ℕ) (found : Option (Option (List ℕ)))
    → found ≡ option_map patron-of (row_with 1 item loans) → (found ≡ None) ⊎ (found ≡ Some None)
    → is_id patron ≡ true → false ≡ is_borrower patron item loans
unfolding is_borrower
borrower-is-none loans item patron found is or ok = by (row_with 1 item loans) is or
  where
    bad-id : (loan : Row) (fine : Bool) → is_id (field 0 loan) ≡ fine
        → Some (cond fine (Some (field 0 loan)) None) ≡ Some None
        → false ≡ is_same patron (field 0 loan)
    bad-id loan true e h = cc h
    bad-id loan false e h = sym (other-text patron (field 0 loan) ok e)

    by : (o : Option Row) → found ≡ option_map patron-of o → (found ≡ None) ⊎ (found ≡ Some None)
        → false ≡ is_of_patron patron o
    by None h w = refl
    by (Some loan) h (inl none) = cc (h, none)
    by (Some loan) h (inr some) = bad-id loan (is_id (field 0 loan)) refl (sym h ∙ some)

pub full-as-far : (n : ℕ) → nat_le QUEUE_MAX (as_far n) ≡ nat_le QUEUE_MAX n
full-as-far n = by (nat_le QUEUE_MAX n) refl
  where
    by : (b : Bool) → nat_le QUEUE_MAX n ≡ b → nat_le QUEUE_MAX (as_far n) ≡ nat_le QUEUE_MAX n
    by true e = ap (λ (t : Bool). nat_le QUEUE_MAX (cond t QUEUE_MAX n)) e ∙ sym e
    by false e = ap (λ (t : Bool). nat_le QUEUE_MAX (cond t QUEUE_MAX n)) e

-- NO ROWS YET

pub no-ids : (column : ℕ) (ids : BTreeSet (List ℕ)) → ids.keys ≡ [] → HasIds column [] ids
no-ids column ids none = λ q ok. ap (λ (ks : List (List ℕ)). list_any (is_at (id_cmp q)) ks) none

pub no-loans : (lent : BTreeMap (List ℕ) (Option (List ℕ))) → lent.entries ≡ [] → HasLoans [] lent
no-loans lent none = λ q ok. ap (λ (es : List (List ℕ × Option (List ℕ))). lookup (is_at (id_cmp q)) es) none

pub no-holds : (waiting : BTreeSet (List ℕ × List ℕ)) → waiting.keys ≡ [] → HasHolds [] waiting
no-holds waiting none = λ a b ok fine. ap (λ (ks : List (List ℕ × List ℕ)). list_any (is_at (pair_cmp (a, b))) ks) none

pub no-queues : (lengths : BTreeMap (List ℕ) ℕ) → lengths.entries ≡ [] → HasQueues [] lengths
no-queues lengths none = λ q ok. ap (λ (es : List (List ℕ × ℕ)). unwrap_or (lookup (is_at (id_cmp q)) es) 0) none
