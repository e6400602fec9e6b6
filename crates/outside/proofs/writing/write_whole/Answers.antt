use Rattle.std.proofs.Common.{inl, inr, refl}
use Rattle.outside.proofs.writing.write_whole.Goals as goal

pub returns-in-Err-clause-stops : goal.returns-in-Err-clause-stops
returns-in-Err-clause-stops g c = elim c.in-Err.ensures.stops [
  | inl h ↦ (_, rw (c.remove.ensures, c.as_str.ensures.value, h) refl, inl refl)
  | inr h ↦ (_, rw (c.remove.ensures, c.as_str.ensures.value, h) refl, inr refl)
]
