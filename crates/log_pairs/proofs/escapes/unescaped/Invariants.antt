use Rattle.std.proofs.Common.{◌≡◌, ◌++◌, List, ℕ, drop}
use Rattle.std.specs.Prelude.{option_map}
use Rattle.log_pairs.specs.Escapes.{message_from, message_of}
use Rattle.log_pairs.proofs.escapes.unescaped.Given as goal

-- what is spelled so far, and what the rest spells, are the message
abbrev pub invariant-loop-i : goal.invariant-loop-i
invariant-loop-i l = option_map (λ (m : List ℕ). l.message.items ++ m) (message_from l.escapes l.more (drop l.i l.text)) ≡ message_of l.escapes l.text
