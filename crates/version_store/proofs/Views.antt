-- The entries of a line as a finite map.
use Rattle.std.proofs.Common.{◌≡◌, ℕ, Bool, true, false, cond, Option, Some, None, List, [], ◌∷◌, length, map, refl, sym, ap, ap₂, subst, ◌∙◌}
use Rattle.std.specs.Prelude.{◌&&◌, not, T, option_map, slice_get}
use Rattle.std.specs.Ordering.{eq_by_cmp, is_lt}
use Rattle.std.specs.FinMap.{from_sorted, entries-from_sorted, get-from_sorted, get-entries, get, insert, remove, from_entries, entries, get-insert, get-remove, get-from_entries, same_map}
use Rattle.std.specs.FinMap.Entries.{below_all, find, find-put, find-where_key, is_sorted, put, where_key}
use Rattle.std.proofs.lemmas.List.{length-map}
use Rattle.std.proofs.lemmas.Option.{slice_get-map}
use Rattle.std.proofs.lemmas.Cmp.{eq_by_cmp_equiv}
use Rattle.circ_records.specs.Keys.{key_cmp, key_cmp_total, key_cmp-IsAntisymmetric}
use Rattle.circ_records.specs.declared.key.Key.{Key}
use Rattle.version_store.specs.Entries.{Line, shown, shown_pair, line_of, as_suspect, suspected}
use Rattle.version_store.specs.Devices.Positions.{Rise, all_marked, marked}
use Rattle.version_store.specs.declared.entry.StoredEntry.{StoredEntry}
use Rattle.version_store.proofs.Positions.{others}

-- ---- look-ups where the values are changed
map_cond : {A B : Type 0} (f : A → B) (b : Bool) (w o : Option A) → option_map f (cond b w o) ≡ cond b (option_map f w) (option_map f o)
map_cond f true w o = refl
map_cond f false w o = refl

find_map : {A B : Type 0} (f : A → B) (q : Key) (es : List (Key × A)) → find key_cmp q (map (λ e. (e.0, f e.1)) es) ≡ option_map f (find key_cmp q es)
find_map f q [] = refl
find_map f q (e ∷ es) =
    ap (λ o. cond (eq_by_cmp key_cmp q e.0) (Some (f e.1)) o) (find_map f q es)
    ∙ sym (map_cond f (eq_by_cmp key_cmp q e.0) (Some e.1) (find key_cmp q es))

-- what a line's entries are at a key
pub get_shown : {J : Type 0} (es : List (Key × StoredEntry J)) (q : Key) → get (line_of es) q ≡ option_map shown (find key_cmp q es)
get_shown es q = get-from_entries key_cmp_total (map shown_pair es) q ∙ find_map shown q es

-- a line whose entries are suspect
pub get_suspected : (l : Line) (q : Key) → get (suspected l) q ≡ option_map as_suspect (get l q)
get_suspected l q =
    get-from_entries key_cmp_total (map (λ e. (e.0, as_suspect e.1)) (entries l)) q
    ∙ find_map as_suspect q (entries l) ∙ ap (option_map as_suspect) (sym (get-entries l q))

pub turn : (k q : Key) → eq_by_cmp key_cmp k q ≡ eq_by_cmp key_cmp q k
turn k q = (eq_by_cmp_equiv key_cmp_total).symm k q

-- ---- one entry put in or taken out, and all made suspect
pub line_put : {J : Type 0} (es : List (Key × StoredEntry J)) (k : Key) (e : StoredEntry J) → line_of (put key_cmp k e es) ≡ insert (line_of es) k (shown e)
line_put es k e = same_map key_cmp_total key_cmp-IsAntisymmetric _ _ (λ q.
    get_shown (put key_cmp k e es) q
    ∙ ap (option_map shown) (find-put key_cmp key_cmp_total q k e es)
    ∙ map_cond shown (eq_by_cmp key_cmp q k) (Some e) (find key_cmp q es)
    ∙ ap (λ o. cond (eq_by_cmp key_cmp q k) (Some (shown e)) o) (sym (get_shown es q))
    ∙ sym (get-insert key_cmp_total (line_of es) k (shown e) q))

turned : {A : Type 0} (b : Bool) (o : Option A) → cond (not b) o None ≡ cond b None o
turned true o = refl
turned false o = refl

out_find : {X : Type 0} (es : List (Key × X)) (k q : Key) → find key_cmp q (where_key key_cmp (others k) es) ≡ cond (eq_by_cmp key_cmp q k) None (find key_cmp q es)
out_find es k q =
    find-where_key key_cmp (others k) q (λ x t. ap (others k) (sym (key_cmp-IsAntisymmetric q x t))) es
    ∙ turned (eq_by_cmp key_cmp k q) (find key_cmp q es)
    ∙ ap (λ b. cond b None (find key_cmp q es)) (turn k q)

pub line_out : {J : Type 0} (es : List (Key × StoredEntry J)) (k : Key) → line_of (where_key key_cmp (others k) es) ≡ remove (line_of es) k
line_out es k = same_map key_cmp_total key_cmp-IsAntisymmetric _ _ (λ q.
    get_shown (where_key key_cmp (others k) es) q
    ∙ ap (option_map shown) (out_find es k q)
    ∙ map_cond shown (eq_by_cmp key_cmp q k) None (find key_cmp q es)
    ∙ ap (λ o. cond (eq_by_cmp key_cmp q k) None o) (sym (get_shown es q))
    ∙ sym (get-remove key_cmp_total (line_of es) k q))

twice : {A B : Type 0} (f : A → A) (g : A → B) (h : B → B) → ((x : A) → g (f x) ≡ h (g x)) → (o : Option A) → option_map g (option_map f o) ≡ option_map h (option_map g o)
twice f g h e None = refl
twice f g h e (Some x) = ap (λ y. Some y) (e x)

-- each entry is suspect now
pub line_marked : {J : Type 0} (es : List (Key × StoredEntry J)) → line_of (all_marked es) ≡ suspected (line_of es)
line_marked es = same_map key_cmp_total key_cmp-IsAntisymmetric _ _ (λ q.
    get_shown (all_marked es) q
    ∙ ap (option_map shown) (find_map marked q es)
    ∙ twice marked shown as_suspect (λ e. refl) (find key_cmp q es)
    ∙ ap (option_map as_suspect) (sym (get_shown es q))
    ∙ sym (get_suspected (line_of es) q))

-- ---- the entries in order
below_map : {A B : Type 0} (f : A → B) (x : Key) (es : List (Key × A)) → below_all key_cmp x (map (λ e. (e.0, f e.1)) es) ≡ below_all key_cmp x es
below_map f x [] = refl
below_map f x (e ∷ es) = ap (λ b. is_lt (key_cmp x e.0) && b) (below_map f x es)

pub sorted_map : {A B : Type 0} (f : A → B) (es : List (Key × A)) → is_sorted key_cmp (map (λ e. (e.0, f e.1)) es) ≡ is_sorted key_cmp es
sorted_map f [] = refl
sorted_map f (e ∷ es) = ap₂ (λ a b. a && b) (below_map f e.0 es) (sorted_map f es)

-- entries whose keys rise are those of their map
entries-shown : {J : Type 0} (es : List (Key × StoredEntry J)) → Rise es → entries (from_entries {R = key_cmp} (map shown_pair es)) ≡ map shown_pair es
entries-shown es h =
    let s : T (is_sorted key_cmp (map shown_pair es)) = subst T (sym (sorted_map shown es)) h in
    let e : from_entries {R = key_cmp} (map shown_pair es) ≡ from_sorted (map shown_pair es) =
    same_map key_cmp_total key_cmp-IsAntisymmetric _ _ (λ q. get-from_entries key_cmp_total (map shown_pair es) q ∙ sym (get-from_sorted key_cmp (map shown_pair es) q s)) in
    ap entries e ∙ entries-from_sorted key_cmp (map shown_pair es) s

-- a line has as many entries as are stored
pub entries_count : {J : Type 0} (es : List (Key × StoredEntry J)) → Rise es → length (entries (line_of es)) ≡ length es
entries_count es s = ap (λ l. length l) (entries-shown es s) ∙ length-map es shown_pair

pub entry_at : {J : Type 0} (es : List (Key × StoredEntry J)) (i : ℕ) (o : Option (Key × StoredEntry J))
    → Rise es → o ≡ slice_get es i
    → slice_get (entries (line_of es)) i ≡ option_map shown_pair o
entry_at es i o s e = ap (λ l. slice_get l i) (entries-shown es s) ∙ slice_get-map shown_pair es i ∙ ap (option_map shown_pair) (sym e)
