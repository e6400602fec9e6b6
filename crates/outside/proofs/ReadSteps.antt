-- How the log of a run goes on while its files are read.
use Rattle.std.proofs.Common.{◌≡◌, ◌++◌, ◌∷◌, ℕ, [], Err, List, Ok, Option, inl, inr, subst}
use Rattle.outside.proofs.Steps.{both}
use Rattle.outside.specs.Events.{Did, Event, Read}
use Rattle.outside.specs.Files.{in_folder}
use Rattle.outside.specs.Reading.{AreRead, StopsReading}
use Rattle.outside.specs.declared.reading.IfMissing.{IfMissing}
use Rattle.outside.specs.declared.reading.IfMissing.TheVariants.{Fails}
use Rattle.outside.specs.declared.reading.FileStop.{FileStop}

-- a file of a folder that must be there
abbrev pub must : List ℕ → List ℕ → List (List ℕ × IfMissing)
must folder name = (in_folder folder name, Fails) ∷ []

reads_append : (xs : List (List ℕ × IfMissing)) (ts : List (List ℕ)) (es : List Event)
    (ys : List (List ℕ × IfMissing)) (us : List (List ℕ)) (fs : List Event)
    → AreRead xs ts es → AreRead ys us fs → AreRead (xs ++ ys) (ts ++ us) (es ++ fs)
reads_append [] [] [] ys us fs h k = k
reads_append [] [] (e ∷ es) ys us fs h k = absurd h
reads_append [] (t ∷ ts) es ys us fs h k = absurd h
reads_append (x ∷ xs) [] es ys us fs h k = absurd h
reads_append (x ∷ xs) (t ∷ ts) [] ys us fs h k = absurd h
reads_append (x ∷ xs) (t ∷ ts) (Read path answer ∷ es) ys us fs (p, a, h) k = (p, a, reads_append xs ts es ys us fs h k)
reads_append (x ∷ xs) (t ∷ ts) (_ ∷ es) ys us fs h k = absurd h

stops_longer : (xs ys : List (List ℕ × IfMissing)) (stop : FileStop) (es : List Event)
    → StopsReading xs stop es → StopsReading (xs ++ ys) stop es
stops_longer xs ys stop [] h = h
stops_longer [] ys stop (e ∷ es) h = absurd h
stops_longer (x ∷ xs) ys stop (Read path (Ok bytes) ∷ es) (p, h) = (p, stops_longer xs ys stop es h)
stops_longer (x ∷ xs) ys stop (Read path (Err failure) ∷ es) (p, inl (l, h)) =
    (p, inl (l, stops_longer xs ys stop es h))
stops_longer (x ∷ xs) ys stop (Read path (Err failure) ∷ es) (p, inr h) = (p, inr h)
stops_longer (x ∷ xs) ys stop (_ ∷ es) h = absurd h

stops_append : (xs : List (List ℕ × IfMissing)) (ts : List (List ℕ)) (es : List Event)
    (ys : List (List ℕ × IfMissing)) (stop : FileStop) (fs : List Event)
    → AreRead xs ts es → StopsReading ys stop fs → StopsReading (xs ++ ys) stop (es ++ fs)
stops_append [] [] [] ys stop fs h k = k
stops_append [] [] (e ∷ es) ys stop fs h k = absurd h
stops_append [] (t ∷ ts) es ys stop fs h k = absurd h
stops_append (x ∷ xs) [] es ys stop fs h k = absurd h
stops_append (x ∷ xs) (t ∷ ts) [] ys stop fs h k = absurd h
stops_append (x ∷ xs) (t ∷ ts) (Read path (Ok bytes) ∷ es) ys stop fs (p, a, h) k =
    (p, stops_append xs ts es ys stop fs h k)
stops_append (x ∷ xs) (t ∷ ts) (Read path (Err failure) ∷ es) ys stop fs (p, (l, n), h) k =
    (p, inl (l, stops_append xs ts es ys stop fs h k))
stops_append (x ∷ xs) (t ∷ ts) (_ ∷ es) ys stop fs h k = absurd h

-- files after files that were read
pub more : (xs : List (List ℕ × IfMissing)) (ts : List (List ℕ)) (ys : List (List ℕ × IfMissing))
    (us : List (List ℕ)) (old mid new : Option (List Event))
    → Did (AreRead xs ts) old mid → Did (AreRead ys us) mid new → Did (AreRead (xs ++ ys) (ts ++ us)) old new
more xs ts ys us old mid new (es, p, h) (fs, q, k) =
    (es ++ fs, both es fs old mid new p q, reads_append xs ts es ys us fs h k)

-- a stop at a file of the first ones
pub here : (xs ys : List (List ℕ × IfMissing)) (stop : FileStop) (old new : Option (List Event))
    → Did (StopsReading xs stop) old new → Did (StopsReading (xs ++ ys) stop) old new
here xs ys stop old new (es, p, h) = (es, p, stops_longer xs ys stop es h)

-- a stop after files that were read
pub behind : (xs : List (List ℕ × IfMissing)) (ts : List (List ℕ)) (ys : List (List ℕ × IfMissing))
    (stop : FileStop) (old mid new : Option (List Event))
    → Did (AreRead xs ts) old mid → Did (StopsReading ys stop) mid new → Did (StopsReading (xs ++ ys) stop) old new
behind xs ts ys stop old mid new (es, p, h) (fs, q, k) =
    (es ++ fs, both es fs old mid new p q, stops_append xs ts es ys stop fs h k)

-- the same files by another name of their folder
pub moved : (files : List ℕ → List (List ℕ × IfMissing)) (a b : List ℕ) (ts : List (List ℕ))
    (old new : Option (List Event))
    → a ≡ b → Did (AreRead (files a) ts) old new → Did (AreRead (files b) ts) old new
moved files a b ts old new p h = subst (λ folder. Did (AreRead (files folder) ts) old new) p h
