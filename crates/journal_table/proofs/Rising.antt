-- Readings with their numbers, and what the threads read.
use Rattle.std.proofs.Common.{◌≡◌, ◌≢◌, ◌+◌, ◌≤◌, ℕ, suc, List, [], ◌∷◌, length, map, Some, None, Result, Ok, refl, subst, sym, ap, arith}
use Rattle.std.specs.Prelude.{IfOk, Vec, unwrap_or}
use Rattle.std.specs.List.{AllByRecursion, AllZip}
use Rattle.sip_reader.specs.Reading.{reading}
use Rattle.sip_reader.specs.declared.request.Reading.{Reading}
use Rattle.journal_table.specs.Entry.{Entry, Numbered, NumberedFrom, first_number}
use Rattle.journal_table.specs.Readings.{EndInTime, IsRead, NumberedReading, Rises, RisesFrom, first_read, numbered_from, reading_at, readings_of, requests_read}
use Rattle.journal_table.specs.Stretches.{stretches_of}

-- the readings of what is numbered
pub numbered-readings : (n : ℕ) (rs : List Reading) → rs ≡ map reading_at (numbered_from n rs)
numbered-readings n [] = refl
numbered-readings n (r ∷ rs) = ap (λ (rest : List Reading). r ∷ rest) (numbered-readings (n + 1) rs)

-- what holds of readings holds of them numbered
pub numbered-read : (n : ℕ) (rs : List Reading) → AllByRecursion IsRead rs
    → AllByRecursion IsRead (map reading_at (numbered_from n rs))
numbered-read n rs h = subst (λ (l : List Reading). AllByRecursion IsRead l) (numbered-readings n rs) h

-- each request is read as the message that it is
pub requests-read : (lines : List Entry) → AllByRecursion IsRead (requests_read lines)
requests-read [] = tt
requests-read (line ∷ lines) = ((line.request, refl), requests-read lines)

rises-from : (n : ℕ) (rs : List Reading) → RisesFrom n (numbered_from n rs)
rises-from n [] = tt
rises-from n (r ∷ rs) = (refl, rises-from (n + 1) rs)

pub numbered-rises : (n : ℕ) (rs : List Reading) → Rises (numbered_from n rs)
numbered-rises n [] = tt
numbered-rises n (r ∷ rs) = rises-from (n + 1) rs

pub length-numbered : (n : ℕ) (rs : List Reading) → length (numbered_from n rs) ≡ length rs
length-numbered n [] = refl
length-numbered n (r ∷ rs) = ap suc (length-numbered (n + 1) rs)

pub numbered-first : (n : ℕ) (rs : List Reading) → length rs ≢ 0 → Some n ≡ first_read (numbered_from n rs)
numbered-first n [] h = absurd (h refl)
numbered-first n (r ∷ rs) h = refl

pub numbered-none : (n : ℕ) (rs : List Reading) → length rs ≡ 0 → None ≡ first_read (numbered_from n rs)
numbered-none n [] h = refl
numbered-none n (r ∷ rs) h = absurd (omega arith)

pub numbered-within : (n : ℕ) (rs : List Reading) → n + length rs ≤ 10000000000 → EndInTime (numbered_from n rs)
numbered-within n [] h = omega arith
numbered-within n (r ∷ rs) h = rw (length-numbered (n + 1) rs) (omega arith)

-- readings that rise are their readings, numbered from the first: what a caller gets back who
-- stores only both
pub rises-numbered : (n : ℕ) (rs : List NumberedReading) → RisesFrom n rs → numbered_from n (map reading_at rs) ≡ rs
rises-numbered n [] h = refl
rises-numbered n (r ∷ rs) h =
    rw (sym h.0) (ap (λ (rest : List NumberedReading). r ∷ rest) (rw h.0 (rises-numbered (n + 1) rs h.1)))

-- what each thread read of each stretch of lines
pub each-stretch : {A : Type 0} (chunks : List (List Entry)) (ys : List (Vec Reading A))
    (E : Type 0) → AllZip (λ (lines : List Entry) (r : Result (Vec Reading A) E). IfOk r
    (λ v. v.items ≡ requests_read lines)) chunks (map Ok ys)
    → stretches_of ys ≡ map requests_read chunks
each-stretch [] [] E h = refl
each-stretch [] (y ∷ ys) E h = absurd h
each-stretch (lines ∷ chunks) [] E h = absurd h
each-stretch (lines ∷ chunks) (y ∷ ys) E h = rw (h.0, each-stretch chunks ys E h.1) refl

readings-from : (n : ℕ) (lines : List Entry) → NumberedFrom n lines
    → numbered_from n (map (λ line. reading line.request) lines) ≡ readings_of lines
readings-from n [] h = refl
readings-from n (line ∷ lines) h = rw (h.0, readings-from (n + 1) lines h.1) refl

-- the readings of lines whose numbers rise
pub numbered-lines : (lines : List Entry) → Numbered lines
    → numbered_from (unwrap_or (first_number lines) 0) (map (λ line. reading line.request) lines)
    ≡ readings_of lines
numbered-lines [] h = refl
numbered-lines (line ∷ lines) h = rw (readings-from (line.number + 1) lines h) refl
