-- How the reading of words ends.
use Rattle.std.proofs.Common.{◌≡◌, ◌⊎◌, inl, inr, ◌∙◌, ap, sym, subst, refl, Bool, true, false, not, ◌||◌, List, [], ◌∷◌, Result, Ok, Err, IfOk}
use Rattle.std.specs.Prelude.{IfErr}
use Rattle.std.specs.List.{list_any}
use Rattle.std.specs.declared.alloc.AllocError.{AllocError}
use Rattle.std.proofs.lemmas.Result.{IfOk-at_ok}
use Rattle.clap.specs.Words.{App, IsAmong, Kinds, Text, app_of, fault_of, is_simple_and_free}
use Rattle.clap.specs.declared.builder.command.Command.{Command}
use Rattle.clap.specs.declared.error.kind.ErrorKind.{ErrorKind}
use Rattle.clap.specs.declared.error.kind.ErrorKind.TheVariants as kinds
use Rattle.command_line.specs.Refusals.{EndsBy, IsOfKind, IsRefusalOf, is_request}
use Rattle.command_line.specs.declared.refusal.Refusal.{Refusal}
use Rattle.command_line.specs.declared.refusal.Refusal.TheVariants as refusals

-- a kind among some that passes a test
among : (test : ErrorKind → Bool) (k : ErrorKind) (ks : Kinds) → IsAmong k ks → test k ≡ true → list_any test ks ≡ true
among test k [] h t = absurd h
among test k (x ∷ xs) (inl e) t = ap (λ b. b || list_any test xs) (ap test (sym e) ∙ t)
among test k (x ∷ xs) (inr h) t = ap (λ b. test x || b) (among test k xs h t) ∙ either (test x)
  where
    either : (b : Bool) → (b || true) ≡ true
    either true = refl
    either false = refl

-- what an error of clap's is reported as goes with the words
pub refusal_goes : (line : App) (words : List Text) (k : ErrorKind) (r : Refusal) → (k ≡ kinds.OutOfMemory → r ≡ refusals.Memory)
    → (k ≡ kinds.OutOfMemory) ⊎ IsAmong k (fault_of line words) → IsOfKind k r → IsRefusalOf line words r
refusal_goes line words k (refusals.Help text) memory (inl e) h = let m = memory e in cc m
refusal_goes line words k (refusals.Help text) memory (inr a) h = among is_request k _ a h
refusal_goes line words k (refusals.Words text) memory (inl e) h = let m = memory e in cc m
refusal_goes line words k (refusals.Words text) memory (inr a) h = among (λ kind. not (is_request kind)) k _ a (ap not h)
refusal_goes line words k refusals.Memory memory a h = tt

-- what was read by a command of this line was read by the line
pub ends_by : {C : Type 0} (made : Result Command AllocError) (line : App) (words : List Text) (ended : Result C Refusal) → IfOk made (λ c. app_of c ≡ line)
    → is_simple_and_free line ≡ true → IfErr made (λ e. ended ≡ Err refusals.Memory)
    → IfOk made (λ c. is_simple_and_free (app_of c) ≡ true → EndsBy (app_of c) words ended) → EndsBy line words ended
ends_by (Ok command) line words ended is simple failed h =
    subst (λ a. EndsBy a words ended) is (h (ap is_simple_and_free is ∙ simple))
ends_by (Err e) line words ended is simple failed h = subst (EndsBy line words) (sym failed) tt
