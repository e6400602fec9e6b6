-- How the log of a run goes on while its files are read.
use Rattle.std.proofs.Common.{◌≡◌, ◌∷◌, ℕ, [], Bool, Err, List, Ok, Option, Result, ap, inl, inr, refl, subst, sym, true, ◌∙◌}
use Rattle.outside.specs.Events.{Event, Read, after, noted}
use Rattle.outside.specs.declared.failure.Failure.{Failure}
use Rattle.whole_run.specs.Reading.{IsAbsent, StopsReading}
use Rattle.run_stops.specs.declared.stop.RunError.{RunError}

-- a stop on the way, as the contracts say it
abbrev pub Stopping : List (List ℕ × Bool) → Option (List Event) → Option (List Event) → RunError → Type 0
Stopping files old new stop = (events : List Event) × (new ≡ after events old) × StopsReading files events stop

-- a stop after a file that was read
pub behind : (path told : List ℕ) (may : Bool) (rest : List (List ℕ × Bool)) (bytes : List ℕ)
    (old mid new : Option (List Event)) (stop : RunError)
    → mid ≡ noted (Read told (Ok bytes)) old → told ≡ path → Stopping rest mid new stop
    → Stopping ((path, may) ∷ rest) old new stop
behind path told may rest bytes old mid new stop h p (events, eq, s) =
    (Read told (Ok bytes) ∷ events, eq ∙ ap (after events) h, (p, s))

absent : (path told : List ℕ) (rest : List (List ℕ × Bool)) (answer : Result (List ℕ) Failure)
    (text : List ℕ) (events : List Event) (stop : RunError)
    → IsAbsent answer text → told ≡ path → StopsReading rest events stop
    → StopsReading ((path, true) ∷ rest) (Read told answer ∷ events) stop
absent path told rest answer text events stop a p s =
    let P : Result (List ℕ) Failure → Type 0 = λ answer. StopsReading ((path, true) ∷ rest) (Read told answer ∷ events) stop in
    elim a [
      | inl e ↦ subst P (sym e) (p, s)
      | inr e ↦ subst P (sym e.0) (p, inr (refl, refl, s))
    ]

pub behind_absent : (path told : List ℕ) (rest : List (List ℕ × Bool))
    (answer : Result (List ℕ) Failure) (text : List ℕ) (old mid new : Option (List Event))
    (stop : RunError)
    → IsAbsent answer text → mid ≡ noted (Read told answer) old → told ≡ path
    → Stopping rest mid new stop → Stopping ((path, true) ∷ rest) old new stop
behind_absent path told rest answer text old mid new stop a h p (events, eq, s) =
    (Read told answer ∷ events, eq ∙ ap (after events) h, absent path told rest answer text events stop a p s)

longer : (file : List ℕ × Bool) (rest : List (List ℕ × Bool)) (events : List Event) (stop : RunError)
    → StopsReading (file ∷ []) events stop → StopsReading (file ∷ rest) events stop
longer file rest [] stop h = h
longer file rest (Read path (Ok bytes) ∷ []) stop h = h
longer file rest (Read path (Ok bytes) ∷ (e ∷ es)) stop h = absurd h.1
longer file rest (Read path (Err failure) ∷ events) stop (p, inl q) = (p, inl q)
longer file rest (Read path (Err failure) ∷ []) stop (p, inr (m, f, s)) = (p, inr (m, f, s))
longer file rest (Read path (Err failure) ∷ (e ∷ es)) stop (p, inr (m, f, s)) = absurd s
longer file rest (_ ∷ events) stop h = absurd h

-- a stop at a file is one on the way
pub here : (path told : List ℕ) (may : Bool) (rest : List (List ℕ × Bool))
    (old new : Option (List Event)) (stop : RunError)
    → told ≡ path → Stopping ((told, may) ∷ []) old new stop → Stopping ((path, may) ∷ rest) old new stop
here path told may rest old new stop p h =
    let to : List ℕ → Type 0 = λ path. Stopping ((path, may) ∷ rest) old new stop in
    subst to p (h.0, h.1, longer (told, may) rest h.0 stop h.2)

pub next : {A : Type 0} {x y : A} {xs ys : List A} → x ≡ y → xs ≡ ys → x ∷ xs ≡ y ∷ ys
next {A = A} {x = x} {ys = ys} p q = ap (λ t. x ∷ t) q ∙ ap (λ z. z ∷ ys) p
