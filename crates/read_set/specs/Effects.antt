-- What a line does: the records that it writes, in the order of keys, each once, and its answer.
use Rattle.std.specs.Prelude.{[], ◌∷◌, Option, Some}
use Rattle.std.specs.BTreeMap.{insert_entry}
use Rattle.circ_records.specs.Keys.{key_cmp}
use Rattle.circ_records.specs.Records.{Entries}
use Rattle.sip_answer.specs.declared.answer.Answer.{Answer}
use Rattle.read_set.specs.declared.effect.Effect.{Effect}

-- records written one after the other: each goes to its key's position, and the newest of a key counts
abbrev pub written : Entries → Entries → Entries
written w [] = w
written w (e ∷ more) = written (insert_entry key_cmp w e.0 e.1) more

-- nothing is written
abbrev pub unwritten : Option Answer → Effect
unwritten a = record { writes = []; answer = a }

-- these are written, and then those
infixl 10 ◌⊕◌
abbrev pub ◌⊕◌ : Entries → Entries → Entries
w ⊕ records = written w records

-- these are written, and this is answered
abbrev pub writing : Entries → Answer → Effect
writing w a = record { writes = w; answer = Some a }
