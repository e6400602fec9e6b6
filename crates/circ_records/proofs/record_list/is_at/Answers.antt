use Rattle.std.proofs.Common.{◌≡◌, Some, length, ap, refl, sym, ◌∙◌}
use Rattle.std.specs.Ordering.{is_eq}
use Rattle.std.specs.Prelude.{slice_get}
use Rattle.std.proofs.lemmas.Option.{slice_get_read}
use Rattle.circ_records.specs.Keys.{key_of}
use Rattle.circ_records.proofs.Positions.{stands-at}
use Rattle.circ_records.proofs.record_list.is_at.Goals as goal

-- the entry there has the key
pub returns-in-Some : goal.returns-in-Some
returns-in-Some c = λ is.
    let es = c.args.listed.now in
    let h = c.in-Some.ensures.lookup in
    let there : slice_get es c.args.position ≡ Some c.in-Some.entry.now = slice_get_read es (length es) c.args.position c.in-Some.entry.now refl h.3.0 h.1 in
    stands-at es (key_of c.args.key) c.args.position c.in-Some.entry.now c.requires there (ap is_eq (sym c.compare.ensures) ∙ sym c.is_eq.ensures ∙ is)
