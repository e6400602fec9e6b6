-- The index and the lines after a change of one line.
use Rattle.std.proofs.Common.{◌≡◌, ◌≢◌, ℕ, ◌-◌, Bool, true, false, cond, Option, Some, None, refl, sym, ap, ◌∙◌, arith, get_or, set, subst, ⊎_elim}
use Rattle.std.specs.Prelude.{option_map, is_some}
use Rattle.std.specs.Ordering.{nat_cmp, eq_by_cmp}
use Rattle.std.specs.FinMap.{get, insert, remove, get-insert, get-remove}
use Rattle.std.proofs.lemmas.Bool.{cases_eq}
use Rattle.std.proofs.lemmas.Bool.Decides.{nat_tests}
use Rattle.circ_records.specs.Keys.{key_cmp, key_cmp_total}
use Rattle.circ_records.specs.declared.key.Key.{Key}
use Rattle.version_store.specs.Entries.{Shown, Line, Store, IsLine, line_at, with_line, as_suspect, suspected}
use Rattle.version_store.specs.Index.{with_at}
use Rattle.version_store.specs.Indexed.{IsIndexed, at}
use Rattle.version_store.specs.declared.index.KeyIndex.{KeyIndex}
use Rattle.version_store.proofs.Columns.{same_key}
use Rattle.version_store.proofs.Views.{turn, get_suspected}
use Rattle.version_store.proofs.Sights.{line_put_same, line_put_other, line_read, put_is}

ties : (n : ℕ) → eq_by_cmp nat_cmp n n ≡ true
ties n = grind (arith, nat_tests)

differs : (n m : ℕ) → n ≢ m → eq_by_cmp nat_cmp n m ≡ false
differs n m h = grind (arith, nat_tests)

at_line : (b c w o : Bool) → c ≡ true → cond b (cond c w o) o ≡ cond b w o
at_line true true w o h = refl
at_line false true w o h = refl
at_line b false w o h = cc

off_line : (b c w o : Bool) → c ≡ false → cond b (cond c w o) o ≡ o
off_line true false w o h = refl
off_line false false w o h = refl
off_line b true w o h = cc

-- one line was changed at one key, and so was the index
pub indexed : (index new : KeyIndex) (s : Store) (n : ℕ) (key : Key) (w : Bool) (r : Line)
    → IsLine s n → IsIndexed index s
    → ((k : Key) (m : ℕ) → at new k m ≡ with_at key n w (at index) k m)
    → ((k : Key) → is_some (get r k) ≡ cond (eq_by_cmp key_cmp key k) w (is_some (get (line_at s n) k)))
    → IsIndexed new (with_line s n r)
indexed index new s n key w r there i u v = record {
  each = λ k m. ⊎_elim
      (λ same.
      u k m
      ∙ at_line (eq_by_cmp key_cmp key k) (eq_by_cmp nat_cmp n m) w (at index k m) (ap (eq_by_cmp nat_cmp n) same ∙ ties n)
      ∙ ap (λ o. cond (eq_by_cmp key_cmp key k) w o) (i.each k m)
      ∙ ap (λ (x : ℕ). cond (eq_by_cmp key_cmp key k) w (is_some (get (line_at s x) k))) same
      ∙ sym (v k)
      ∙ ap (λ (x : Line). is_some (get x k)) (sym (line_put_same s n r there))
      ∙ ap (λ (x : ℕ). is_some (get (line_at (with_line s n r) x) k)) (sym same))
      (λ apart.
      u k m
      ∙ off_line (eq_by_cmp key_cmp key k) (eq_by_cmp nat_cmp n m) w (at index k m) (differs n m (λ e. apart (sym e)))
      ∙ i.each k m
      ∙ ap (λ (x : Line). is_some (get x k)) (sym (line_put_other s n m r there apart)))
      (cases_eq m n);
}

-- the entries of one line were changed, and its keys stay
pub same_keys : (index : KeyIndex) (s : Store) (n : ℕ) (r : Line) → IsLine s n → IsIndexed index s
    → ((k : Key) → is_some (get r k) ≡ is_some (get (line_at s n) k)) → IsIndexed index (with_line s n r)
same_keys index s n r there i v = record {
  each = λ k m. ⊎_elim
      (λ same.
      i.each k m
      ∙ ap (λ (x : ℕ). is_some (get (line_at s x) k)) same
      ∙ sym (v k)
      ∙ ap (λ (x : Line). is_some (get x k)) (sym (line_put_same s n r there))
      ∙ ap (λ (x : ℕ). is_some (get (line_at (with_line s n r) x) k)) (sym same))
      (λ apart. i.each k m ∙ ap (λ (x : Line). is_some (get x k)) (sym (line_put_other s n m r there apart)))
      (cases_eq m n);
}

some_cond : (b : Bool) (w o : Option Shown) → is_some (cond b w o) ≡ cond b (is_some w) (is_some o)
some_cond true w o = refl
some_cond false w o = refl

some_map : (f : Shown → Shown) (o : Option Shown) → is_some (option_map f o) ≡ is_some o
some_map f None = refl
some_map f (Some x) = refl

pub put_at : (l : Line) (key : Key) (e : Shown) (k : Key) → is_some (get (insert l key e) k) ≡ cond (eq_by_cmp key_cmp key k) true (is_some (get l k))
put_at l key e k =
    ap (λ (o : Option Shown). is_some o) (get-insert key_cmp_total l key e k)
    ∙ some_cond (eq_by_cmp key_cmp k key) (Some e) (get l k)
    ∙ ap (λ b. cond b true (is_some (get l k))) (sym (turn key k))

pub taken_at : (l : Line) (key k : Key) → is_some (get (remove l key) k) ≡ cond (eq_by_cmp key_cmp key k) false (is_some (get l k))
taken_at l key k =
    ap (λ (o : Option Shown). is_some o) (get-remove key_cmp_total l key k)
    ∙ some_cond (eq_by_cmp key_cmp k key) None (get l k)
    ∙ ap (λ b. cond b false (is_some (get l k))) (sym (turn key k))

pub suspected_at : (l : Line) (k : Key) → is_some (get (suspected l) k) ≡ is_some (get l k)
suspected_at l k = ap (λ (o : Option Shown). is_some o) (get_suspected l k) ∙ some_map as_suspect (get l k)

absent_if : (b : Bool) (o : Option Shown) → (b ≡ true → o ≡ None) → is_some o ≡ cond b false (is_some o)
absent_if true o h = ap (λ (x : Option Shown). is_some x) (h refl)
absent_if false o h = refl

-- a line without the key, as if the key were taken out
pub absent_at : (l : Line) (key : Key) → get l key ≡ None → (k : Key) → is_some (get l k) ≡ cond (eq_by_cmp key_cmp key k) false (is_some (get l k))
absent_at l key none k = absent_if (eq_by_cmp key_cmp key k) (get l k) (λ e. ap (get l) (sym (same_key key k e)) ∙ none)

undone : (b c w o x : Bool) → x ≡ cond b (cond c w o) o → cond b (cond c false x) x ≡ cond b (cond c false o) o
undone true true w o x h = refl
undone true false w o x h = h
undone false c w o x h = h

-- a line that was put and taken out again
pub put_and_out : (old mid new : KeyIndex) (key : Key) (line : ℕ) (w : Bool)
    → ((k : Key) (n : ℕ) → at mid k n ≡ with_at key line w (at old) k n)
    → ((k : Key) (n : ℕ) → at new k n ≡ with_at key line false (at mid) k n)
    → (k : Key) (n : ℕ) → at new k n ≡ with_at key line false (at old) k n
put_and_out old mid new key line w u v k n = v k n ∙ undone (eq_by_cmp key_cmp key k) (eq_by_cmp nat_cmp line n) w (at old k n) (at mid k n) (u k n)

-- the same, the line being read at its position among the lines
pub indexed_put : (index new : KeyIndex) (s : Store) (n p : ℕ) (key : Key) (w : Bool) (row r : Line)
    → IsLine s n → p ≡ n - s.first → row ≡ get_or s.lines p row → IsIndexed index s
    → ((k : Key) (m : ℕ) → at new k m ≡ with_at key n w (at index) k m)
    → ((k : Key) → is_some (get r k) ≡ cond (eq_by_cmp key_cmp key k) w (is_some (get row k)))
    → IsIndexed new (record { first = s.first; lines = set s.lines p r })
indexed_put index new s n p key w row r there at_p is i u v =
    let same : row ≡ line_at s n = line_read s n row there (is ∙ ap (λ x. get_or s.lines x row) at_p) in
    subst (IsIndexed new)
    (put_is s n r there ∙ ap (λ x. record { first = s.first; lines = set s.lines x r }) (sym at_p))
    (indexed index new s n key w r there i u (λ k. v k ∙ ap (λ (l : Line). cond (eq_by_cmp key_cmp key k) w (is_some (get l k))) same))

pub same_put : (index : KeyIndex) (s : Store) (n p : ℕ) (row r : Line)
    → IsLine s n → p ≡ n - s.first → row ≡ get_or s.lines p row → IsIndexed index s
    → ((k : Key) → is_some (get r k) ≡ is_some (get row k))
    → IsIndexed index (record { first = s.first; lines = set s.lines p r })
same_put index s n p row r there at_p is i v =
    let same : row ≡ line_at s n = line_read s n row there (is ∙ ap (λ x. get_or s.lines x row) at_p) in
    subst (IsIndexed index)
    (put_is s n r there ∙ ap (λ x. record { first = s.first; lines = set s.lines x r }) (sym at_p))
    (same_keys index s n r there i (λ k. v k ∙ ap (λ (l : Line). is_some (get l k)) same))
