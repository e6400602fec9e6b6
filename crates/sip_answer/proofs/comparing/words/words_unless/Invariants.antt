use Rattle.std.proofs.Common.{◌≡◌, take}
use Rattle.std.specs.List.{flat_map}
use Rattle.sip_answer.specs.Differ.{word_unless}
use Rattle.sip_answer.proofs.comparing.words.words_unless.Given as goal

-- the words of those so far
abbrev pub invariant-loop-word : goal.invariant-loop-word
invariant-loop-word l = l.words.items ≡ flat_map (λ c. word_unless c.0 c.1) (take l.word-index l.compared)
