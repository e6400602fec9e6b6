-- How the log of a run goes on while its files are looked up.
use Rattle.std.proofs.Common.{◌≡◌, ◌++◌, ◌∷◌, ◌+◌, ◌<◌, ◌≤◌, ℕ, [], List, Option, ap, get_or, inr, length, map, refl, subst, sym, take, ◌∙◌}
use Rattle.std.proofs.lemmas.List.{map-append, take_all, take_more}
use Rattle.std.specs.List.{position}
use Rattle.std.specs.Prelude.{option_map, string_bytes}
use Rattle.command_line.specs.declared.chosen.Options.{Options}
use Rattle.outside.proofs.Steps.{both}
use Rattle.outside.specs.Events.{Did, Event, Find, noted}
use Rattle.outside.specs.declared.file_id.FileId.{FileId}
use Rattle.replay_run.specs.declared.inputs.Inputs.{Inputs}
use Rattle.whole_run.specs.Looking.{AreApart, AreFound, AreLooked, AreLooks, input_at, is_among}
use Rattle.whole_run.specs.Reading.{AreGiven, AreRead, StopsBefore, StopsReading}
use Rattle.whole_run.specs.Sources.{files_of, paths_in}
use Rattle.run_stops.specs.declared.stop.InputName.{InputName}
use Rattle.run_stops.specs.declared.stop.RunError.{RunError}

found_more : (paths : List (List ℕ)) (files : List (Option FileId)) (events : List Event)
    (path : List ℕ) (file : Option FileId)
    → AreFound paths files events → AreFound (paths ++ path ∷ []) (files ++ file ∷ []) (events ++ Find path file ∷ [])
found_more [] [] [] path file h = (refl, tt)
found_more [] [] (e ∷ es) path file h = absurd h
found_more [] (y ∷ ys) events path file h = absurd h
found_more (x ∷ xs) [] events path file h = absurd h
found_more (x ∷ xs) (y ∷ ys) [] path file h = absurd h
found_more (x ∷ xs) (y ∷ ys) (e ∷ es) path file h = (h.0, found_more xs ys es path file h.1)

-- one path more is looked up
pub look_more : {A : Type 0} (name : A → List ℕ) (items : List A) (i : ℕ) (item : A) (path : List ℕ)
    (files : List (Option FileId)) (file : Option FileId)
    (old mid new : Option (List Event)) → i < length items → item ≡ get_or items i item → path ≡ name item
    → Did (AreFound (map name (take i items)) files) old mid → new ≡ noted (Find path file) mid
    → Did (AreFound (map name (take (i + 1) items)) (files ++ file ∷ [])) old new
look_more name items i item path files file old mid new l h p (events, eq, found) now =
    let t : take (i + 1) items ≡ take i items ++ item ∷ [] = take_more items i item l ∙ ap (λ x. take i items ++ x ∷ []) (sym h) in
    let m : map name (take (i + 1) items) ≡ map name (take i items) ++ path ∷ []
    = ap (map name) t ∙ map-append name (take i items) (item ∷ []) ∙ ap (λ x. map name (take i items) ++ x ∷ []) (sym p) in
    let P : List (List ℕ) → Type 0 = λ paths. Did (AreFound paths (files ++ file ∷ [])) old new in
    subst P (sym m) (
      events ++ Find path file ∷ [],
      both events (Find path file ∷ []) old mid new eq now,
      found_more (map name (take i items)) files events path file found,
    )

-- all are looked up
pub look_all : {A : Type 0} (name : A → List ℕ) (items : List A) (i : ℕ)
    (files : List (Option FileId)) (old new : Option (List Event))
    → length items ≤ i → Did (AreFound (map name (take i items)) files) old new
    → Did (AreFound (map name items) files) old new
look_all name items i files old new l h =
    let P : List (List ℕ) → Type 0 = λ paths. Did (AreFound paths files) old new in
    subst P (ap (map name) (take_all i items l)) h

-- what was found was looked up
pub looks_of : (paths : List (List ℕ)) (files : List (Option FileId)) (events : List Event)
    → AreFound paths files events → AreLooks events
looks_of [] [] [] h = tt
looks_of [] [] (e ∷ es) h = absurd h
looks_of [] (y ∷ ys) events h = absurd h
looks_of (x ∷ xs) [] events h = absurd h
looks_of (x ∷ xs) (y ∷ ys) [] h = absurd h
looks_of (x ∷ xs) (y ∷ ys) (e ∷ es) h =
    let P : Event → Type 0 = λ e. AreLooks (e ∷ es) in
    subst P (sym h.0) (looks_of xs ys es h.1)

looks-append : (xs ys : List Event) → AreLooks xs → AreLooks ys → AreLooks (xs ++ ys)
looks-append [] ys h k = k
looks-append (Find path file ∷ xs) ys h k = looks-append xs ys h k
looks-append (_ ∷ xs) ys h k = absurd h

-- memory runs out after a path was looked up
pub look_fails : (paths : List (List ℕ)) (files : List (Option FileId)) (path : List ℕ)
    (file : Option FileId) (old mid new : Option (List Event))
    → Did (AreFound paths files) old mid → new ≡ noted (Find path file) mid → Did AreLooks old new
look_fails paths files path file old mid new (events, eq, found) now = (
  events ++ Find path file ∷ [],
  both events (Find path file ∷ []) old mid new eq now,
  looks-append events (Find path file ∷ []) (looks_of paths files events found) tt,
)

-- memory runs out while the second list is looked up
pub looks_after : (paths : List (List ℕ)) (files : List (Option FileId)) (old mid new : Option (List Event))
    → Did (AreFound paths files) old mid → Did AreLooks mid new → Did AreLooks old new
looks_after paths files old mid new (events, eq, found) (more, now, looks) = (
  events ++ more,
  both events more old mid new eq now,
  looks-append events more (looks_of paths files events found) looks,
)

-- both lists are looked up
pub looked : (o : Options) (lost : Option InputName) (ps qs : List (List ℕ))
    (read written : List (Option FileId)) (old mid new : Option (List Event))
    → ps ≡ map (λ f. f.0) (files_of o) → qs ≡ paths_in (string_bytes o.out)
    → Did (AreFound ps read) old mid → Did (AreFound qs written) mid new
    → lost ≡ option_map input_at (position (is_among written) read) → Did (AreLooked o lost) old new
looked o lost ps qs read written old mid new p q (xs, e, f) (ys, g, h) l =
    let P : List (List ℕ) → Type 0 = λ paths. AreFound paths read xs in
    let Q : List (List ℕ) → Type 0 = λ paths. AreFound paths written ys in (
      xs ++ ys,
      both xs ys old mid new e g,
      (read, written, xs, ys, subst P p f, subst Q q h, refl, l),
    )

-- all is read after it was looked up
pub given : (o : Options) (i : Inputs) (old mid new : Option (List Event))
    → Did (AreApart o) old mid → Did (AreRead o i) mid new → Did (AreGiven o i) old new
given o i old mid new (xs, e, a) (ys, g, r) = (xs ++ ys, both xs ys old mid new e g, (xs, ys, a, r, refl))

-- a file can't be read after all were looked up
pub stopped : (o : Options) (stop : RunError) (old mid new : Option (List Event)) → Did (AreApart o) old mid
    → Did (λ events. StopsReading (files_of o) events stop) mid new → Did (StopsBefore o stop) old new
stopped o stop old mid new (xs, e, a) (ys, g, r) = (xs ++ ys, both xs ys old mid new e g, inr (xs, ys, a, r, refl))
