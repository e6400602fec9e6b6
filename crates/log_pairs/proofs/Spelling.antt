-- What is left of a text spells what is left of its message.
use Rattle.std.proofs.Common.{◌≡◌, ◌+◌, ◌<◌, ℕ, suc, List, [], ◌∷◌, ◌++◌, length, drop, Option, Some, None, refl, sym, ap, append_assoc, ◌∙◌}
use Rattle.std.specs.Prelude.{option_map}
use Rattle.std.specs.Option.{option_and_then}
use Rattle.std.proofs.lemmas.List.{drop_more}
use Rattle.log_pairs.specs.declared.escapes.Escapes.{Escapes}
use Rattle.log_pairs.specs.Escapes.{Spelling, message_from, spelled}

over : (e : Escapes) (more left : ℕ) (bs : List ℕ) (b : ℕ) (rest : List ℕ) → bs ≡ b ∷ rest → more ≡ suc left → message_from e more bs ≡ message_from e left rest
over e more left bs b rest is one = rw (is, one) refl

-- a byte that belongs to a spelling before it
pub passes : (e : Escapes) (more left : ℕ) (text : List ℕ) (i : ℕ) → i < length text → more ≡ suc left → message_from e more (drop i text) ≡ message_from e left (drop (i + 1) text)
passes e more left text i below one = over e more left (drop i text) _ (drop (i + 1) text) (drop_more text i 0 below) one

from-head : (e : Escapes) (bs : List ℕ) (b : ℕ) (rest : List ℕ) (s : Option Spelling) → bs ≡ b ∷ rest → spelled e bs ≡ s
    → message_from e 0 bs ≡ option_and_then (λ (s : Spelling). option_map (λ (m : List ℕ). s.0 ∷ m) (message_from e s.1 rest)) s
from-head e bs b rest s is it =
    ap (λ (x : List ℕ). message_from e 0 x) is
    ∙ ap (λ (o : Option Spelling). option_and_then (λ (s : Spelling). option_map (λ (m : List ℕ). s.0 ∷ m) (message_from e s.1 rest)) o) (sym (ap (λ (x : List ℕ). spelled e x) is) ∙ it)

-- no spelling
pub is-none : (e : Escapes) (text : List ℕ) (i : ℕ) → i < length text → spelled e (drop i text) ≡ None → message_from e 0 (drop i text) ≡ None
is-none e text i below it = from-head e (drop i text) _ (drop (i + 1) text) None (drop_more text i 0 below) it

behind : (o : Option (List ℕ)) (message : List ℕ) (b : ℕ) → option_map (λ (m : List ℕ). (message ++ b ∷ []) ++ m) o ≡ option_map (λ (m : List ℕ). message ++ m) (option_map (λ (m : List ℕ). b ∷ m) o)
behind None message b = refl
behind (Some m) message b = ap (λ (x : List ℕ). Some x) (append_assoc message (b ∷ []) m)

-- a spelling, and the byte that it stands for at the end of the message
pub is-some : (e : Escapes) (text : List ℕ) (i b more : ℕ) (message : List ℕ) → i < length text → spelled e (drop i text) ≡ Some (b, more)
    → option_map (λ (m : List ℕ). (message ++ b ∷ []) ++ m) (message_from e more (drop (i + 1) text)) ≡ option_map (λ (m : List ℕ). message ++ m) (message_from e 0 (drop i text))
is-some e text i b more message below it =
    behind (message_from e more (drop (i + 1) text)) message b
    ∙ ap (λ (o : Option (List ℕ)). option_map (λ (m : List ℕ). message ++ m) o) (sym (from-head e (drop i text) _ (drop (i + 1) text) (Some (b, more)) (drop_more text i 0 below) it))
