-- Entries that were made suspect.
use Rattle.std.proofs.Common.{◌≡◌, Bool, true, false, cond, List, [], ◌∷◌, map, Option, Some, None, refl, sym, ap, ◌∙◌}
use Rattle.std.specs.Prelude.{option_map}
use Rattle.std.specs.FinMap.{get, entries, find, get-entries, get-from_entries}
use Rattle.std.specs.Ordering.{eq_by_cmp}
use Rattle.std.proofs.lemmas.Option.{none-some, same_Some}
use Rattle.circ_records.specs.Keys.{key_cmp, key_cmp_total}
use Rattle.circ_records.specs.declared.key.Key.{Key}
use Rattle.version_store.specs.Entries as store
use Rattle.version_store.specs.Entries.{Shown, as_suspect, suspected}
use Rattle.board_steps.proofs.Keep.{SameVersion}

map_cond : {A B : Type 0} (f : A → B) (b : Bool) (w o : Option A) → option_map f (cond b w o) ≡ cond b (option_map f w) (option_map f o)
map_cond f true w o = refl
map_cond f false w o = refl

find_map : {A B : Type 0} (f : A → B) (q : Key) (es : List (Key × A)) → find key_cmp q (map (λ e. (e.0, f e.1)) es) ≡ option_map f (find key_cmp q es)
find_map f q [] = refl
find_map f q (e ∷ es) =
    ap (λ o. cond (eq_by_cmp key_cmp q e.0) (Some (f e.1)) o) (find_map f q es)
    ∙ sym (map_cond f (eq_by_cmp key_cmp q e.0) (Some e.1) (find key_cmp q es))

get_suspected : (l : store.Line) (q : Key) → get (suspected l) q ≡ option_map as_suspect (get l q)
get_suspected l q =
    get-from_entries key_cmp_total (map (λ e. (e.0, as_suspect e.1)) (entries l)) q
    ∙ find_map as_suspect q (entries l) ∙ ap (option_map as_suspect) (sym (get-entries l q))

was_some : (o : Option Shown) (e : Shown) → option_map as_suspect o ≡ Some e → (f : Shown) × (o ≡ Some f) × SameVersion f e
was_some None e h = absurd (none-some e h)
was_some (Some f) e h = let is = same_Some (as_suspect f) e h in (f, refl, (ap (λ (x : Shown). x.attempt) is, ap (λ (x : Shown). x.contents) is))

-- an entry among the suspect ones was there, of the same attempt and version
pub of_suspect : (l : store.Line) (k : Key) (e : Shown) → get (suspected l) k ≡ Some e → (f : Shown) × (get l k ≡ Some f) × SameVersion f e
of_suspect l k e h = was_some (get l k) e (sym (get_suspected l k) ∙ h)

-- an entry stays, as a suspect one
pub suspect_of : (l : store.Line) (k : Key) (e : Shown) → get l k ≡ Some e → get (suspected l) k ≡ Some (as_suspect e)
suspect_of l k e h = get_suspected l k ∙ ap (option_map as_suspect) h
