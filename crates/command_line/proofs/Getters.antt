-- What the getters of clap read, of the rows that its own definition gives the words.
use Rattle.std.proofs.Common.{refl, ap, subst, ◌∙◌, ◌≡◌, ℕ, Bool, List, [], Option, Some, None, Result, Ok, Err, codes, false, true}
use Rattle.std.specs.Prelude.{unwrap_or}
use Rattle.std.specs.Str.Parse.{ParsesUnsigned}
use Rattle.clap.specs.Words.{App, IsParsedFrom, ReadsOne, Row, Text, all_of, app_of, first_of, first_value, found_of, is_simple, matches_of, one_of, one_text, rows_of, takes}
use Rattle.std.proofs.lemmas.Result.{IfOk-at_ok, IfOk-weaker}
use Rattle.std.specs.Result.{IfOk}
use Rattle.std.specs.declared.alloc.AllocError.{AllocError}
use Rattle.command_line.specs.declared.refusal.Refusal.{Refusal}
use Rattle.command_line.specs.declared.refusal.Refusal.TheVariants.{Memory}
use Rattle.clap.specs.declared.builder.command.Command.{Command}
use Rattle.clap.specs.declared.parser.matches.ArgMatches.{ArgMatches}
use Rattle.clap.specs.declared.parser.matches.Found.{Found}
use Rattle.clap.proofs.WalkLemmas.{first_value-rows, one_text-rows, raw_values-rows}
use Rattle.command_line.specs.CommandLine.{Counts, Says, values_of}
use Rattle.command_line.specs.Read.{IsReadBy}

-- what holds of the rows that were read holds of those that the line gives the words
pub given_by : {C : Type 0} (G : List Row → C → Type 0) (H : ArgMatches → Type 0) (made : Result Command AllocError) (line : App) (words : List Text) (chosen : C)
    → IfOk made (λ c. app_of c ≡ line) → IfOk made (λ c. (m : ArgMatches) → IsParsedFrom c m → H m) → is_simple line ≡ true
    → IsReadBy (λ m o. H m → G (rows_of (found_of m)) o) made words chosen → G (matches_of line words) chosen
given_by G H made line words chosen line_is has simple r =
    let same : app_of r.command ≡ line = IfOk-at_ok (λ c. app_of c ≡ line) r.is line_is in
    let rows : rows_of (found_of r.found) ≡ matches_of line words = (r.matches (ap is_simple same ∙ simple)).0 ∙ ap (λ a. matches_of a words) same in
    subst (λ rows. G rows chosen) rows (r.given (IfOk-at_ok (λ c. (m : ArgMatches) → IsParsedFrom c m → H m) r.is has r.found r.parsed))

-- a text that a getter reads is one of the rows
pub of_rows : (f : Found) (id : Text) (t : Option Text) → t ≡ first_value f id → t ≡ first_of id (rows_of f)
of_rows f id t is = is ∙ first_value-rows f id

-- the same of all texts of a name
pub all_of_rows : (f : Found) (id : Text) (ts : List Text) → ts ≡ values_of f id → ts ≡ unwrap_or (all_of id (rows_of f)) []
all_of_rows f id ts is = is ∙ ap (λ (o : Option (List Text)). unwrap_or o []) (raw_values-rows f id)

-- what is read of a number
pub counts : (default : ℕ) (E : Type 0) (G : List ℕ → Result ℕ E → Type 0) → ((u : List ℕ) (x : Result ℕ E) → G u x → ParsesUnsigned 32 10 u x)
    → (o : Option Text) (r : Option ℕ) → (o ≡ None → r ≡ None) → ((t : Text) → o ≡ Some t → ReadsOne G t r) → Counts default o (unwrap_or r default)
counts default E G only None r none value = rw (none refl) refl
counts default E G only (Some t) (Some v) none value = λ numeral small. (only t (Ok v) (value t refl)).1
counts default E G only (Some t) None none value = λ numeral small.
    let failed = value t refl in
    absurd (only t (Err failed.0) failed.1 (numeral, small))

says : (o : Option Text) (b : Bool) → (o ≡ None → b ≡ false) → (o ≡ Some (codes "true") → b ≡ true)
    → (o ≡ Some (codes "false") → b ≡ false) → Says o b
says None b none is isnt = none refl
says (Some t) b none is isnt = (λ e. is (ap Some e), λ e. isnt (ap Some e))

-- what is read of a flag
pub says_rows : (f : Found) (id : Text) (b : Bool) → (one_text f id ≡ None → b ≡ false) → (one_text f id ≡ Some (codes "true") → b ≡ true)
    → (one_text f id ≡ Some (codes "false") → b ≡ false) → Says (one_of id (rows_of f)) b
says_rows f id b none is isnt = subst (λ o. Says o b) (one_text-rows f id) (says (one_text f id) b none is isnt)

-- a refusal that is handed on comes of words that the line doesn't take, or of memory
pub still_accepts : (made : Result Command AllocError) (line : App) (words : List Text) (e : Refusal) → IfOk made (λ c. app_of c ≡ line)
    → (IfOk made (λ c. takes (app_of c) words ≡ true) → e ≡ Memory) → takes line words ≡ true → e ≡ Memory
still_accepts made line words e line_is accepts taken =
    accepts (IfOk-weaker made (λ c. app_of c ≡ line) (λ c. takes (app_of c) words ≡ true) (λ c same. ap (λ a. takes a words) same ∙ taken) line_is)
