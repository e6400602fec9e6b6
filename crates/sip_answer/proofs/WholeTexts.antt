-- Ids and texts have no bar.
use Rattle.std.proofs.Common.{ℕ, ◌≡◌, Bool, true, false, not, ◌&&◌, List, [], ◌∷◌, length, leb, eqb, refl}
use Rattle.std.specs.List.{list_any}
use Rattle.std.proofs.lemmas.Bool.{and_parts, or_from, or_parts}
use Rattle.sip_reader.specs.Texts.{is_barred, is_id, is_line_end, is_text}
use Rattle.sip_answer.specs.Devices.ReadBack.{is_bar, is_whole}

barless : (v : List ℕ) → list_any is_barred v ≡ false → list_any is_bar v ≡ false
barless [] h = refl
barless (x ∷ xs) h =
    let parts = or_parts (is_barred x) (list_any is_barred xs) h in
    or_from (is_bar x) (list_any is_bar xs) (or_parts (eqb x 124) (is_line_end x) parts.0).0 (barless xs parts.1)

none : (b : Bool) → not b ≡ true → b ≡ false
none false h = refl
none true h = cc h

whole : (v : List ℕ) → not (list_any is_barred v) ≡ true → is_whole v ≡ true
whole v h = rw (barless v (none (list_any is_barred v) h)) refl

pub text_whole : (v : List ℕ) → is_text v ≡ true → is_whole v ≡ true
unfolding is_text
text_whole v h = whole v (and_parts (leb (length v) 1024) (not (list_any is_barred v)) h).1

pub id_whole : (v : List ℕ) → is_id v ≡ true → is_whole v ≡ true
unfolding is_id
id_whole v h = whole v (and_parts (leb (length v) 64) (not (list_any is_barred v)) (and_parts (leb 1 (length v)) (leb (length v) 64 && not (list_any is_barred v)) h).1).1
