-- A position gets another mark, and the lines above a position lose their stamps.
use Rattle.std.proofs.Common.{◌≡◌, ℕ, ◌+◌, ◌<◌, ◌≤◌, Bool, false, ◌||◌, List, length, set, get_or, refl, sym, ap, ap₂, ◌∙◌, arith, length-set, get_or-set_same, get_or-set_other}
use Rattle.speculate.specs.declared.ready.Mark.{Mark}
use Rattle.speculate.specs.declared.ready.Mark.TheVariants as marks
use Rattle.speculate.specs.declared.ready.Ready.{Ready}
use Rattle.speculate.specs.Marks.{waits, is_unchecked, is_checked, is_in_check, IsMarked, HasPositions, AreAsLong, IsPosition, Puts, lost, Loses, GoesOver, GoesOut}

pub puts_of : (old new : Ready) (p : ℕ) (mark : Mark) → IsPosition old p
    → new.waiting ≡ set old.waiting p (waits mark) → new.unchecked ≡ set old.unchecked p (is_unchecked mark)
    → new.checked ≡ set old.checked p (is_checked mark) → new.checking ≡ set old.checking p (is_in_check mark) → Puts old new p mark
puts_of old new p mark position e0 e1 e2 e3 = record {
  here = record {
    in_waiting = ap (λ (x : List Bool). get_or x p false) e0 ∙ get_or-set_same old.waiting p (waits mark) false position.of_waiting;
    in_unchecked = ap (λ (x : List Bool). get_or x p false) e1 ∙ get_or-set_same old.unchecked p (is_unchecked mark) false position.of_unchecked;
    in_checked = ap (λ (x : List Bool). get_or x p false) e2 ∙ get_or-set_same old.checked p (is_checked mark) false position.of_checked;
    in_checking = ap (λ (x : List Bool). get_or x p false) e3 ∙ get_or-set_same old.checking p (is_in_check mark) false position.of_checking;
  };
  off = λ q other ne h. record {
    in_waiting = ap (λ (x : List Bool). get_or x q false) e0 ∙ get_or-set_other old.waiting p q (waits mark) false ne ∙ h.in_waiting;
    in_unchecked = ap (λ (x : List Bool). get_or x q false) e1 ∙ get_or-set_other old.unchecked p q (is_unchecked mark) false ne ∙ h.in_unchecked;
    in_checked = ap (λ (x : List Bool). get_or x q false) e2 ∙ get_or-set_other old.checked p q (is_checked mark) false ne ∙ h.in_checked;
    in_checking = ap (λ (x : List Bool). get_or x q false) e3 ∙ get_or-set_other old.checking p q (is_in_check mark) false ne ∙ h.in_checking;
  };
  same = record {
    as_waiting = ap (λ (x : List Bool). length x) e0 ∙ length-set old.waiting p (waits mark);
    as_unchecked = ap (λ (x : List Bool). length x) e1 ∙ length-set old.unchecked p (is_unchecked mark);
    as_checked = ap (λ (x : List Bool). length x) e2 ∙ length-set old.checked p (is_checked mark);
    as_checking = ap (λ (x : List Bool). length x) e3 ∙ length-set old.checking p (is_in_check mark);
  };
}

-- a line has its mark already
pub puts_none : (ready : Ready) (p : ℕ) (mark : Mark) → IsMarked ready p mark → Puts ready ready p mark
puts_none ready p mark h = record { here = h; off = λ q other ne x. x; same = record { as_waiting = refl; as_unchecked = refl; as_checked = refl; as_checking = refl } }

lost_waits : (mark : Mark) → waits mark ≡ waits (lost mark)
lost_waits marks.Nowhere = refl
lost_waits marks.Waiting = refl
lost_waits marks.Unchecked = refl
lost_waits marks.Checked = refl
lost_waits marks.Checking = refl

lost_unchecked : (mark : Mark) → (is_checked mark || is_unchecked mark) ≡ is_unchecked (lost mark)
lost_unchecked marks.Nowhere = refl
lost_unchecked marks.Waiting = refl
lost_unchecked marks.Unchecked = refl
lost_unchecked marks.Checked = refl
lost_unchecked marks.Checking = refl

lost_checked : (mark : Mark) → false ≡ is_checked (lost mark)
lost_checked marks.Nowhere = refl
lost_checked marks.Waiting = refl
lost_checked marks.Unchecked = refl
lost_checked marks.Checked = refl
lost_checked marks.Checking = refl

lost_checking : (mark : Mark) → false ≡ is_in_check (lost mark)
lost_checking marks.Nowhere = refl
lost_checking marks.Waiting = refl
lost_checking marks.Unchecked = refl
lost_checking marks.Checked = refl
lost_checking marks.Checking = refl

pub loses_of : (old new : Ready) (p : ℕ) → new.waiting ≡ old.waiting → GoesOver old.checked old.unchecked new.checked new.unchecked (p + 1) → GoesOut old.checking new.checking (p + 1)
    → Loses old new p
loses_of old new p e over out = record {
  above = λ q mark lt h.
      let le : p + 1 ≤ q = omega (arith, lt) in
      record {
        in_waiting = ap (λ (x : List Bool). get_or x q false) e ∙ h.in_waiting ∙ lost_waits mark;
        in_unchecked = over.moved q le ∙ ap₂ (λ x y. x || y) h.in_checked h.in_unchecked ∙ lost_unchecked mark;
        in_checked = over.out q le ∙ lost_checked mark;
        in_checking = out.out q le ∙ lost_checking mark;
      };
  rest = λ q mark le h.
      let lt : q < p + 1 = omega (arith, le) in
      record {
        in_waiting = ap (λ (x : List Bool). get_or x q false) e ∙ h.in_waiting;
        in_unchecked = over.second_before q lt ∙ h.in_unchecked;
        in_checked = over.first_before q lt ∙ h.in_checked;
        in_checking = out.before q lt ∙ h.in_checking;
      };
  same = record {
    as_waiting = ap (λ (x : List Bool). length x) e;
    as_unchecked = over.second_len;
    as_checked = over.first_len;
    as_checking = out.len;
  };
}

pub long_positions : (old new : Ready) (len : ℕ) → AreAsLong old new → HasPositions len old → HasPositions len new
long_positions old new len same h = record {
  of_waiting = same.as_waiting ∙ h.of_waiting;
  of_unchecked = same.as_unchecked ∙ h.of_unchecked;
  of_checked = same.as_checked ∙ h.of_checked;
  of_checking = same.as_checking ∙ h.of_checking;
}

pub long_place : (old new : Ready) (p : ℕ) → AreAsLong old new → IsPosition old p → IsPosition new p
long_place old new p same h = record {
  of_waiting = omega (arith, h.of_waiting, same.as_waiting);
  of_unchecked = omega (arith, h.of_unchecked, same.as_unchecked);
  of_checked = omega (arith, h.of_checked, same.as_checked);
  of_checking = omega (arith, h.of_checking, same.as_checking);
  as_many = same.as_checked ∙ h.as_many ∙ sym same.as_unchecked;
  few = h.few;
}
