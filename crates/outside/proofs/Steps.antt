-- How a log goes on.
use Rattle.std.proofs.Common.{get_or, length, ◌≡◌, ◌++◌, ◌∷◌, ◌≤◌, ℕ, ◌+◌, ◌<◌, [], List, Option, ap, map, refl, subst, sym, take, drop, ◌∙◌}
use Rattle.std.specs.Prelude.{flat_map, string_bytes}
use Rattle.std.proofs.lemmas.Grind.{flat_map-append}
use Rattle.std.proofs.lemmas.List.{append_assoc, drop_more, map-append, take-append-drop, take_all, take_more}
use Rattle.outside.specs.Events.{Did, Event, after, noted}
use Rattle.outside.specs.Files.{FailsToPlace, FilePlace, StopsWriting, all_written, written}
use Rattle.outside.specs.Places.{place_of}
use Rattle.outside.specs.declared.failure.Failure.{Failure}
use Rattle.outside.specs.declared.writing.Unwritten.{Unwritten}

pub after-append : (xs ys : List Event) (log : Option (List Event)) → after (xs ++ ys) log ≡ after ys (after xs log)
after-append [] ys log = refl
after-append (x ∷ xs) ys log = after-append xs ys (noted x log)

-- two stretches of a log, one after the other
pub both : (xs ys : List Event) (old mid new : Option (List Event)) → mid ≡ after xs old
    → new ≡ after ys mid → new ≡ after (xs ++ ys) old
both xs ys old mid new h k = k ∙ ap (after ys) h ∙ sym (after-append xs ys old)

-- one event more, after two stretches
pub one_more : (reads writes events : List Event) (e : Event) (old mid new : Option (List Event))
    → events ≡ reads ++ writes → mid ≡ after events old → new ≡ noted e mid
    → new ≡ after (reads ++ (writes ++ e ∷ [])) old
one_more reads writes events e old mid new p h k =
    both events (e ∷ []) old mid new h k ∙ ap (λ es. after (es ++ e ∷ []) old) p ∙ ap (λ es. after es old) (append_assoc reads writes (e ∷ []))

-- the log of one file more
placed_more : (before : List FilePlace) (p : FilePlace) (old mid new : Option (List Event))
    → mid ≡ after (all_written before) old → new ≡ after (written p) mid
    → new ≡ after (all_written (before ++ p ∷ [])) old
placed_more before p old mid new h k =
    rw (flat_map-append written before (p ∷ []), after-append (all_written before) (flat_map written (p ∷ [])) old)
    (k ∙ ap (after (written p)) h)

-- the list with the element at i between
parted : (items : List Unwritten) (i : ℕ) (item : Unwritten) → i < length items → item ≡ get_or items i item
    → items ≡ take i items ++ item ∷ drop (i + 1) items
parted items i item l h =
    sym (take-append-drop i items)
    ∙ ap (λ t. take i items ++ t) (drop_more items i item l ∙ ap (λ x. x ∷ drop (i + 1) items) (sym h))

-- one file more is written
pub file_more : (items : List Unwritten) (i : ℕ) (item : Unwritten) (old mid new : Option (List Event))
    → i < length items → item ≡ get_or items i item
    → mid ≡ after (all_written (map place_of (take i items))) old → new ≡ after (written (place_of item)) mid
    → new ≡ after (all_written (map place_of (take (i + 1) items))) old
file_more items i item old mid new l h before now =
    let t : take (i + 1) items ≡ take i items ++ item ∷ [] = take_more items i item l ∙ ap (λ x. take i items ++ x ∷ []) (sym h) in
    let m : map place_of (take (i + 1) items) ≡ map place_of (take i items) ++ place_of item ∷ [] = ap (map place_of) t ∙ map-append place_of (take i items) (item ∷ []) in
    let P : List FilePlace → Type 0 = λ places. new ≡ after (all_written places) old in
    subst P (sym m) (placed_more (map place_of (take i items)) (place_of item) old mid new before now)

-- all of them are written
pub files_all : (items : List Unwritten) (i : ℕ) (old new : Option (List Event))
    → length items ≤ i → new ≡ after (all_written (map place_of (take i items))) old
    → new ≡ after (all_written (map place_of items)) old
files_all items i old new l h = h ∙ ap (λ xs. after (all_written (map place_of xs)) old) (take_all i items l)

-- a file fails after those that are written
pub file_fails : (items : List Unwritten) (i : ℕ) (item : Unwritten) (path : List ℕ)
    (failure : Failure) (old mid new : Option (List Event))
    → i < length items → item ≡ get_or items i item
    → mid ≡ after (all_written (map place_of (take i items))) old → Did (FailsToPlace (place_of item) failure) mid new
    → path ≡ string_bytes item.path → Did (StopsWriting (map place_of items) path failure) old new
file_fails items i item path failure old mid new l h before (failed, eq, fails) told =
    let m : map place_of items ≡ map place_of (take i items) ++ place_of item ∷ map place_of (drop (i + 1) items)
    = ap (map place_of) (parted items i item l h) ∙ map-append place_of (take i items) (item ∷ drop (i + 1) items) in (
      all_written (map place_of (take i items)) ++ failed,
      eq ∙ ap (after failed) before ∙ sym (after-append (all_written (map place_of (take i items))) failed old),
      (map place_of (take i items), place_of item, map place_of (drop (i + 1) items), failed, m, refl, fails, told),
    )
