-- What the arguments of a program give its command: its line, and a value for each that must be given.
use Rattle.std.proofs.Common.{refl, length, ◌≡◌, ◌<◌, ◌∙◌, ◌||◌, ◌&&◌, not, ℕ, Bool, List, [], ◌∷◌, zero, suc, true, false, ap, sym, subst, codes, arith, inl, inr}
use Rattle.std.specs.List.{All, slice_index_or}
use Rattle.std.specs.Str.{bytes_eq}
use Rattle.std.proofs.lemmas.List.Elements.{All-cons, All-nil, All-tail}
use Rattle.std.proofs.lemmas.Slice.Eq.{bytes_eq-Decides}
use Rattle.clap.specs.Words.{AddsArg, AddsInTurn, App, IsParsedFrom, Text, app_of, found_of, new_app, rule_of, with_rule}
use Rattle.clap.specs.Built.{FitsChain, HasDistinctIds, TakesValue}
use Rattle.clap.specs.declared.builder.arg.Arg.{Arg}
use Rattle.clap.specs.declared.builder.command.Command.{Command}
use Rattle.clap.specs.declared.parser.matches.ArgMatches.{ArgMatches}
use Rattle.clap.proofs.CallerLemmas.{required_in_chain}
use Rattle.command_line.specs.CommandLine.{HasValue, IsOwnArg, IsProgram, versioned}

-- arguments of these names
abbrev pub AreOwn : List Text → List Arg → Type 0
AreOwn [] [] = Unit
AreOwn [] (a ∷ xs) = ⊥
AreOwn (t ∷ ts) [] = ⊥
AreOwn (t ∷ ts) (a ∷ xs) = IsOwnArg t a × AreOwn ts xs

abbrev is_among : Text → List Text → Bool
is_among t [] = false
is_among t (s ∷ ss) = bytes_eq t s || is_among t ss

-- names that are apart, and from those that clap adds itself
abbrev pub are_names : List Text → Bool
are_names [] = true
are_names (t ∷ ts) = not (is_among t ([] ∷ codes "help" ∷ codes "version" ∷ ts)) && are_names ts

both : (s t : Bool) → (not s && t) ≡ true → (s ≡ false) × (t ≡ true)
both false true h = (refl, refl)
both false false h = cc
both true t h = cc

neither : (s t : Bool) → (s || t) ≡ false → (s ≡ false) × (t ≡ false)
neither false false h = (refl, refl)
neither false true h = cc
neither true t h = cc

differ : (s t : Text) → bytes_eq s t ≡ false → s ≡ t → ⊥
differ s t h same = let is : bytes_eq s t ≡ true = (bytes_eq-Decides s t).1 same in cc

fits : (t : Text) (a : Arg) (ts : List Text) → IsOwnArg t a → is_among t ([] ∷ codes "help" ∷ codes "version" ∷ ts) ≡ false → FitsChain a
fits t a ts own h =
    let some = neither _ _ h in
    let help = neither _ _ some.1 in
    let version = neither _ _ help.1 in (
      own.2,
      own.1,
      (λ e. differ t [] some.0 (sym own.0 ∙ e)),
      (λ auto. elim auto [
        | inl e ↦ differ t (codes "help") help.0 (sym own.0 ∙ e)
        | inr e ↦ differ t (codes "version") version.0 (sym own.0 ∙ e)
      ]),
    )

pub all_fit : (ts : List Text) (xs : List Arg) → AreOwn ts xs → are_names ts ≡ true → All FitsChain xs
all_fit [] [] own h = All-nil FitsChain
all_fit [] (a ∷ xs) own h = absurd own
all_fit (t ∷ ts) [] own h = absurd own
all_fit (t ∷ ts) (a ∷ xs) own h =
    let first = both _ _ h in
    All-cons FitsChain a xs (fits t a ts own.0 first.0) (all_fit ts xs own.1 first.1)

-- a name that isn't among these is that of none of the arguments
others : (t : Text) (ts : List Text) (xs : List Arg) → AreOwn ts xs → is_among t ts ≡ false
    → (k : ℕ) (d : Arg) → k < length xs → t ≡ (slice_index_or xs k d).id.now → ⊥
others t [] [] own h k d lt same = absurd (omega arith)
others t [] (a ∷ xs) own h k d lt same = absurd own
others t (s ∷ ss) [] own h k d lt same = absurd own
others t (s ∷ ss) (a ∷ xs) own h zero d lt same = differ t s (neither _ _ h).0 (same ∙ own.0.0)
others t (s ∷ ss) (a ∷ xs) own h (suc k) d lt same = others t ss xs own.1 (neither _ _ h).1 k d (omega arith) same

apart : (t : Text) (ts : List Text) → is_among t ([] ∷ codes "help" ∷ codes "version" ∷ ts) ≡ false → is_among t ts ≡ false
apart t ts h = (neither (bytes_eq t (codes "version")) _ (neither (bytes_eq t (codes "help")) _ (neither (bytes_eq t []) _ h).1).1).1

pub distinct : (ts : List Text) (xs : List Arg) → AreOwn ts xs → are_names ts ≡ true → HasDistinctIds xs
distinct [] [] own h j k d e lj lk same = absurd (omega arith)
distinct [] (a ∷ xs) own h j k d e lj lk same = absurd own
distinct (t ∷ ts) [] own h j k d e lj lk same = absurd own
distinct (t ∷ ts) (a ∷ xs) own h zero zero d e lj lk same = refl
distinct (t ∷ ts) (a ∷ xs) own h zero (suc k) d e lj lk same =
    absurd (others t ts xs own.1 (apart t ts (both _ _ h).0) k d (omega arith) (sym own.0.0 ∙ (bytes_eq-Decides _ _).0 same))
distinct (t ∷ ts) (a ∷ xs) own h (suc j) zero d e lj lk same =
    absurd (others t ts xs own.1 (apart t ts (both _ _ h).0) j e (omega arith) (sym own.0.0 ∙ sym ((bytes_eq-Decides _ _).0 same)))
distinct (t ∷ ts) (a ∷ xs) own h (suc j) (suc k) d e lj lk same = ap suc (distinct ts xs own.1 (both _ _ h).1 j k d e (omega arith) (omega arith) same)

-- a command line with the rules of these arguments
abbrev pub with_rules : App → List Arg → App
with_rules app [] = app
with_rules app (a ∷ xs) = with_rules (with_rule app (rule_of a)) xs

in_turn : (start c : Command) (xs : List Arg) → AddsInTurn AddsArg start xs c → All FitsChain xs → app_of c ≡ with_rules (app_of start) xs
in_turn start c [] h all = ap app_of (sym h)
in_turn start c (a ∷ xs) h all =
    in_turn h.0 c xs h.2 (All-tail FitsChain a xs all) ∙ ap (λ app. with_rules app xs) (h.1.shape (all 0 a (omega arith)).1)

-- the line of a program of these arguments
pub line_of : (name : Text) (ts : List Text) (xs : List Arg) (c : Command) → IsProgram name xs c → AreOwn ts xs → are_names ts ≡ true
    → app_of c ≡ with_rules (versioned (new_app name)) xs
line_of name ts xs c p own h = in_turn p.bare c xs p.adds (all_fit ts xs own h) ∙ ap (λ app. with_rules app xs) p.app

-- an argument of a program that must be given has a value
pub value_given : (name : Text) (ts : List Text) (xs : List Arg) (c : Command) → IsProgram name xs c → AreOwn ts xs → are_names ts ≡ true
    → (k : ℕ) (d : Arg) → k < length xs → TakesValue (slice_index_or xs k d) → (t : Text) → (slice_index_or xs k d).id.now ≡ t
    → (m : ArgMatches) → IsParsedFrom c m → HasValue (found_of m) t
value_given name ts xs c p own h k d lt takes t named m parsed =
    subst (HasValue (found_of m)) named
    (required_in_chain p.bare c xs k d m p.adds p.no_args p.no_groups p.no_globals p.no_negates (all_fit ts xs own h) (distinct ts xs own h) lt takes parsed)
