-- What a journal takes, one after the other.
use Rattle.std.proofs.Common.{◌≡◌, ◌+◌, ◌<◌, ◌≤◌, ℕ, List, [], ◌∷◌, ◌++◌, codes, inl, inr, length, take, drop, get_or, refl, sym, ap, subst, append_assoc, ◌∙◌}
use Rattle.std.proofs.lemmas.Bool.{cases_lt}
use Rattle.std.proofs.lemmas.List.{append-nil, drop_more, take-append-drop, take_more}
use Rattle.std.specs.Borrow.{Bor}
use Rattle.std.specs.List.{AllByRecursion}
use Rattle.journal_table.specs.declared.TheConstants.{CONNECTION_LIMIT}
use Rattle.log_pairs.specs.declared.odd.Direction.{Direction}
use Rattle.log_pairs.specs.declared.odd.Direction.TheVariants as sides
use Rattle.log_pairs.specs.Pairs.{Said}
use Rattle.journal_run.specs.Found.{said_as, said_in, said_of}
use Rattle.journal_run.specs.Making.{Refuses, Stays, StopsTaking, Takes, TakesAll, TakesFound, TakesMessage}
use Rattle.journal_run.specs.Stops.{IsNamed, IsRefusal, Tells, place_text}
use Rattle.journal_run.specs.declared.finding.Finding.{Finding}
use Rattle.journal_run.specs.declared.making.Making.{Making}
use Rattle.journal_run.specs.declared.making.Taken.{Taken}
use Rattle.journal_run.specs.declared.making.Taken.TheVariants.{Misfit, Paired, Refused, Unasked}
use Rattle.journal_run.specs.declared.place.LogPlace.{LogPlace}
use Rattle.journal_run.specs.declared.stop.MakingError.{MakingError}
use Rattle.journal_run.specs.declared.stop.MakingError.TheVariants as errors

pub takes-one : (x : Said) (old new : Making) → IsNamed x → Takes x old new → TakesAll (x ∷ []) old new
takes-one x old new named (begun, takes) = (begun, (named, tt), takes)

-- a name is short where only a refusal could be of a longer one
named-so : (side : Direction) (c m : List ℕ) → (CONNECTION_LIMIT < length c → ⊥) → IsNamed (said_as side c m)
named-so side c m long = by side (elim (cases_lt CONNECTION_LIMIT (length c)) [ inl more ↦ absurd (long more) | inr short ↦ short ])
  where
    by : (side : Direction) → length c ≤ CONNECTION_LIMIT → IsNamed (said_as side c m)
    by sides.Request short = short
    by sides.Response short = short

pub takes-message : (t : Taken) (side : Direction) (c m : List ℕ) (old new : Making) → (CONNECTION_LIMIT < length c → Refuses t) → TakesMessage t (said_as side c m) old new
    → TakesFound t (said_as side c m ∷ []) old new
takes-message Paired side c m old new long takes = takes-one (said_as side c m) old new (named-so side c m long) takes
takes-message Misfit side c m old new long takes = takes-one (said_as side c m) old new (named-so side c m long) takes
takes-message Unasked side c m old new long takes = takes-one (said_as side c m) old new (named-so side c m long) takes
takes-message (Refused why) side c m old new long (same, is) = (same, (said_as side c m, refl, is))

pub takes-none : (m : Making) → TakesAll [] m m
takes-none m = (refl, tt, λ first said taken s. subst (λ (xs : List Said). Stays first xs taken m) (sym (append-nil said)) s)

pub all-both : (xs ys : List Said) → AllByRecursion IsNamed xs → AllByRecursion IsNamed ys → AllByRecursion IsNamed (xs ++ ys)
all-both [] ys all more = more
all-both (x ∷ xs) ys (one, all) more = (one, all-both xs ys all more)

pub takes-both : (xs ys : List Said) (old mid new : Making) → TakesAll xs old mid → TakesAll ys mid new → TakesAll (xs ++ ys) old new
takes-both xs ys old mid new (a, n, f) (b, p, g) = (
  b ∙ a,
  all-both xs ys n p,
  λ first said taken s. subst (λ (zs : List Said). Stays first zs taken new) (append_assoc said xs ys) (g first (said ++ xs) taken (f first said taken s)),
)

said-append : (fs gs : List Finding) → said_in (fs ++ gs) ≡ said_in fs ++ said_in gs
said-append [] gs = refl
said-append (f ∷ fs) gs = ap (λ (xs : List Said). said_of f ++ xs) (said-append fs gs) ∙ sym (append_assoc (said_of f) (said_in fs) (said_in gs))

-- a finding more
pub takes-more : (fs : List Finding) (i : ℕ) (f : Finding) (old mid new : Making) → i < length fs → f ≡ get_or fs i f → TakesAll (said_in (take i fs)) old mid
    → TakesAll (said_of f) mid new → TakesAll (said_in (take (i + 1) fs)) old new
takes-more fs i f old mid new below is before now =
    let one : take (i + 1) fs ≡ take i fs ++ f ∷ [] = take_more fs i f below ∙ ap (λ (g : Finding). take i fs ++ g ∷ []) (sym is) in
    let all : said_in (take (i + 1) fs) ≡ said_in (take i fs) ++ said_of f
    = ap said_in one ∙ said-append (take i fs) (f ∷ []) ∙ ap (λ (xs : List Said). said_in (take i fs) ++ xs) (append-nil (said_of f)) in
    subst (λ (xs : List Said). TakesAll xs old new) (sym all) (takes-both (said_in (take i fs)) (said_of f) old mid new before now)

-- a message is refused
pub stops-at : (t : Taken) (why : Bor (List ℕ)) (place : LogPlace) (xs : List Said) (old new : Making) (error : MakingError) → t ≡ Refused why → TakesFound t xs old new
    → Tells (place_text place ++ (codes ": " ++ why.now)) error → StopsTaking xs old new error
stops-at t why place xs old new error is takes told = by error (subst (λ (r : Taken). TakesFound r xs old new) is takes) told
  where
    by : (e : MakingError) → TakesFound (Refused why) xs old new → Tells (place_text place ++ (codes ": " ++ why.now)) e → StopsTaking xs old new e
    by errors.Memory takes told = tt
    by (errors.Refused text) (same, (x, only, refused)) told =
        ([], x, [], only, subst (TakesAll [] old) (sym same) (takes-none old), (place, why.now, subst (λ (m : Making). IsRefusal m.most m.pairing.asked x why.now) (sym same) refused, told))
    by (errors.File text) takes told = absurd told

-- a stop at a finding, after those before it
pub stops-later : (fs : List Finding) (i : ℕ) (f : Finding) (old mid new : Making) (error : MakingError) → i < length fs → f ≡ get_or fs i f → TakesAll (said_in (take i fs)) old mid
    → StopsTaking (said_of f) mid new error → StopsTaking (said_in fs) old new error
stops-later fs i f old mid new error below is before now = by error now
  where
    after : List Said
    after = said_in (drop (i + 1) fs)

    all : said_in fs ≡ said_in (take i fs) ++ (said_of f ++ after)
    all =
        ap said_in (sym (take-append-drop i fs)) ∙ said-append (take i fs) (drop i fs)
        ∙ ap (λ (gs : List Finding). said_in (take i fs) ++ said_in gs) (drop_more fs i f below ∙ ap (λ (g : Finding). g ∷ drop (i + 1) fs) (sym is))

    split : (ys rest : List Said) (x : Said) → said_of f ≡ ys ++ x ∷ rest → said_in fs ≡ (said_in (take i fs) ++ ys) ++ x ∷ (rest ++ after)
    split ys rest x same =
        all ∙ ap (λ (zs : List Said). said_in (take i fs) ++ (zs ++ after)) same ∙ ap (λ (zs : List Said). said_in (take i fs) ++ zs) (append_assoc ys (x ∷ rest) after)
        ∙ sym (append_assoc (said_in (take i fs)) ys (x ∷ (rest ++ after)))

    by : (e : MakingError) → StopsTaking (said_of f) mid new e → StopsTaking (said_in fs) old new e
    by errors.Memory stops = tt
    by (errors.Refused text) (ys, x, rest, same, takes, refused) =
        (said_in (take i fs) ++ ys, x, rest ++ after, split ys rest x same, takes-both (said_in (take i fs)) ys old mid new before takes, refused)
    by (errors.File text) (ys, x, rest, same, takes, refused) = absurd refused
