-- A map that has the records that rows give has their entries.
use Rattle.std.proofs.Common.{◌≡◌, ℕ, List, [], ◌∷◌, ◌++◌, Bool, true, false, cond, Option, Some, None, map, refl, sym, ap, ◌∙◌}
use Rattle.std.specs.Prelude.{option_map, ◌&&◌}
use lib.Dec.{T}
use Rattle.std.specs.FinMap.{from_entries, entries, entries_sorted, get-entries, get-from_entries}
use Rattle.std.specs.FinMap.Entries.{find, is_sorted, below_all, same_entries}
use Rattle.std.specs.List.{AllByRecursion}
use Rattle.std.specs.List.Sorted.{IsStrictlySortedBy}
use Rattle.std.specs.Map.{keys_of}
use Rattle.std.specs.Option.{option_or}
use Rattle.std.specs.Ordering.{is_eq, is_lt}
use Rattle.std.specs.declared.cmp.Ordering.{Ordering}
use Rattle.std.specs.declared.cmp.Ordering.TheVariants.{Less}
use Rattle.std.proofs.lemmas.Map.Keys.{sorted_head, sorted_tail}
use Rattle.std.proofs.lemmas.Map.Text.{is_eq-slice_cmp}
use Rattle.circ_records.specs.Keys.{key_cmp, key_cmp_total, key_cmp-IsAntisymmetric}
use Rattle.circ_records.specs.Records.{Entries, record_at}
use Rattle.record_tables.specs.Tables.{Row, Rows, field}
use Rattle.record_tables.specs.Told.{Tells, closed_entry, closed_told, entries_told, fee_entry, fee_told, item_entry, item_told, listed, patron_entry, patron_told, row_with, told}
use Rattle.circ_records.specs.Texts.{is_same}
use Rattle.circ_records.specs.declared.key.Key.{Key}
use Rattle.circ_records.specs.declared.key.Key.TheVariants as key
use Rattle.circ_records.specs.declared.record.Record.{Record}
use Rattle.record_tables.proofs.Lookups.{or-cond, or-none}
use Rattle.circ_records.proofs.SameTexts.{same-text}

both : (a b : Bool) → T a → T b → T (a && b)
both true b p q = q
both false b p q = p

less_is : (o : Ordering) → o ≡ Less → T (is_lt o)
less_is o e = rw e tt

below_rest : (x : Key) (es : Entries) → AllByRecursion (λ y. key_cmp x y ≡ Less) (keys_of es)
    → T (below_all key_cmp x es)
below_rest x [] h = tt
below_rest x (e ∷ es) h = both _ _ (less_is (key_cmp x e.0) h.0) (below_rest x es h.1)

pub is_sorted-of : (es : Entries) → IsStrictlySortedBy key_cmp (keys_of es) → T (is_sorted key_cmp es)
is_sorted-of [] h = tt
is_sorted-of (e ∷ es) h = both _ _ (below_rest e.0 es (sorted_head key_cmp e.0 (keys_of es) h)) (is_sorted-of es (sorted_tail key_cmp e.0 (keys_of es) h))

-- the first entry of two lists
find-both : (k : Key) (xs ys : Entries) → find key_cmp k (xs ++ ys) ≡ option_or (find key_cmp k xs) (find key_cmp k ys)
find-both k [] ys = refl
find-both k (x ∷ xs) ys = ap (cond (is_eq (key_cmp k x.0)) (Some x.1)) (find-both k xs ys) ∙ sym (or-cond (is_eq (key_cmp k x.0)) x.1 (find key_cmp k xs) (find key_cmp k ys))

-- rows none of which has an entry at a key
find-none : (entry : Row → Key × Record) (k : Key) (rows : List Row)
    → ((row : Row) → is_eq (key_cmp k (entry row).0) ≡ false)
    → find key_cmp k (map entry rows) ≡ None
find-none entry k [] h = refl
find-none entry k (row ∷ rows) h =
    ap (λ b. cond b (Some (entry row).1) (find key_cmp k (map entry rows))) (h row) ∙ find-none entry k rows h

-- rows that have theirs under their ids
find-row : (entry : Row → Key × Record) (k : Key) (q : List ℕ) (f : List ℕ → Row → Record) (rows : List Row)
    → ((row : Row) → is_eq (key_cmp k (entry row).0) ≡ is_same q (field 0 row))
    → ((row : Row) → (entry row).1 ≡ f (field 0 row) row)
    → find key_cmp k (map entry rows) ≡ option_map (f q) (row_with 0 q rows)
find-row entry k q f [] at is = refl
find-row entry k q f (row ∷ rows) at is =
    ap (λ b. cond b (Some (entry row).1) (find key_cmp k (map entry rows))) (at row)
    ∙ by (is_same q (field 0 row)) refl (find-row entry k q f rows at is)
  where
    by : (b : Bool) → is_same q (field 0 row) ≡ b
        → find key_cmp k (map entry rows) ≡ option_map (f q) (row_with 0 q rows)
        → cond b (Some (entry row).1) (find key_cmp k (map entry rows))
        ≡ option_map (f q) (cond b (Some row) (row_with 0 q rows))
    by true e rest = ap Some (is row ∙ ap (λ t. f t row) (sym (same-text q (field 0 row) e)))
    by false e rest = rest

-- the entries of four lists at a key
find-four : (k : Key) (a b c d : Entries) (p i o l : Option Record) → find key_cmp k a ≡ p
    → find key_cmp k b ≡ i → find key_cmp k c ≡ o → find key_cmp k d ≡ l
    → find key_cmp k (a ++ (b ++ (c ++ d))) ≡ option_or p (option_or i (option_or o l))
find-four k a b c d p i o l pa ib oc ld =
    find-both k a (b ++ (c ++ d))
    ∙ ap (option_or (find key_cmp k a)) (find-both k b (c ++ d) ∙ ap (option_or (find key_cmp k b)) (find-both k c d))
    ∙ rw (pa, ib, oc, ld) refl

-- what the listed entries have at a key
pub listed-told : (rows : Rows) (k : Key) → find key_cmp k (listed rows) ≡ told rows k
listed-told rows (key.Patron q) =
    find-four (key.Patron q) (map (patron_entry rows) rows.patrons) (map (item_entry rows) rows.items) (map fee_entry rows.fees) (map closed_entry rows.closed)
    (option_map (patron_told rows q) (row_with 0 q rows.patrons)) None None None
    (find-row (patron_entry rows) (key.Patron q) q (patron_told rows) rows.patrons (λ row. is_eq-slice_cmp q (field 0 row)) (λ row. refl))
    (find-none (item_entry rows) (key.Patron q) rows.items (λ row. refl))
    (find-none fee_entry (key.Patron q) rows.fees (λ row. refl))
    (find-none closed_entry (key.Patron q) rows.closed (λ row. refl))
    ∙ or-none (option_map (patron_told rows q) (row_with 0 q rows.patrons))
listed-told rows (key.Item q) =
    find-four (key.Item q) (map (patron_entry rows) rows.patrons) (map (item_entry rows) rows.items) (map fee_entry rows.fees) (map closed_entry rows.closed)
    None (option_map (item_told rows q) (row_with 0 q rows.items)) None None
    (find-none (patron_entry rows) (key.Item q) rows.patrons (λ row. refl))
    (find-row (item_entry rows) (key.Item q) q (item_told rows) rows.items (λ row. is_eq-slice_cmp q (field 0 row)) (λ row. refl))
    (find-none fee_entry (key.Item q) rows.fees (λ row. refl))
    (find-none closed_entry (key.Item q) rows.closed (λ row. refl))
    ∙ or-none (option_map (item_told rows q) (row_with 0 q rows.items))
listed-told rows (key.Fee q) =
    find-four (key.Fee q) (map (patron_entry rows) rows.patrons) (map (item_entry rows) rows.items) (map fee_entry rows.fees) (map closed_entry rows.closed)
    None None (option_map fee_told (row_with 0 q rows.fees)) (option_map closed_told (row_with 0 q rows.closed))
    (find-none (patron_entry rows) (key.Fee q) rows.patrons (λ row. refl))
    (find-none (item_entry rows) (key.Fee q) rows.items (λ row. refl))
    (find-row fee_entry (key.Fee q) q (λ id. fee_told) rows.fees (λ row. is_eq-slice_cmp q (field 0 row)) (λ row. refl))
    (find-row closed_entry (key.Fee q) q (λ id. closed_told) rows.closed (λ row. is_eq-slice_cmp q (field 0 row)) (λ row. refl))

-- the entries that rows give have these records
pub entries-tell : (rows : Rows) → Tells rows (record_at (entries_told rows))
unfolding entries_told
entries-tell rows k =
    let m = from_entries {R = key_cmp} (listed rows) in
    sym (sym (get-entries m k) ∙ get-from_entries key_cmp_total (listed rows) k ∙ listed-told rows k)

-- rising entries that have the records that rows give are theirs
pub same-entries : (rows : Rows) (es : Entries) → IsStrictlySortedBy key_cmp (keys_of es)
    → ((k : Key) → record_at es k ≡ told rows k) → es ≡ entries_told rows
unfolding entries_told
same-entries rows es rising tells =
    let m = from_entries {R = key_cmp} (listed rows) in
    same_entries key_cmp key_cmp_total key_cmp-IsAntisymmetric es (entries m) (is_sorted-of es rising) (entries_sorted m)
    (λ q. tells q ∙ sym (sym (get-entries m q) ∙ get-from_entries key_cmp_total (listed rows) q ∙ listed-told rows q))
