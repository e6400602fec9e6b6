-- What passes the tests of its layout holds ids, texts and amounts.
use Rattle.std.proofs.Common.{ℕ, ◌≤◌, ◌≡◌, Bool, true, false, cond, not, ◌||◌, ◌&&◌, List, [], ◌∷◌, length, eqb, leb, ltb, Option, Some, None, refl, ap, ◌⊎◌, inl, inr, arith}
use Rattle.std.specs.Prelude.{unwrap_or}
use Rattle.std.specs.List.{list_any, onto_first}
use Rattle.std.specs.Option.{is_none, option_and_then}
use Rattle.std.proofs.lemmas.Bool.{or_parts, or_from, and_from, and_parts, leb-true, cond_both, not_from_false, ltb-false, eqb-false, le-leb}
use Rattle.sip_reader.specs.Fields.{field, text_after, or_else, texts, pieces, Texts}
use Rattle.sip_reader.specs.Texts.{is_line_end, is_barred, is_id, is_text}
use Rattle.sip_reader.specs.Amounts.{amount_of}
use Rattle.sip_reader.specs.Fits.{Fits}
use Rattle.sip_reader.specs.Reading.{has_bad_amount, has_bad_field, lacks_field, is_longer, is_blank}
use Rattle.sip_reader.specs.declared.kind.FieldLayout.{FieldLayout}

-- no piece has a bar, CR or LF
abbrev AllClean : List (List ℕ) → Type 0
AllClean [] = Unit {0}
AllClean (p ∷ ps) = (list_any is_barred p ≡ false) × AllClean ps

onto : (x : ℕ) (ps : List (List ℕ)) → is_barred x ≡ false → AllClean ps → AllClean (onto_first x ps)
onto x [] h c = (or_from (is_barred x) false h refl, tt)
onto x (p ∷ ps) h c = (or_from (is_barred x) (list_any is_barred p) h c.0, c.1)

cleaned : (rest : List ℕ) → list_any is_line_end rest ≡ false → AllClean (pieces rest)
cleaned [] h = (refl, tt)
cleaned (x ∷ xs) h =
    let parts = or_parts (is_line_end x) (list_any is_line_end xs) h in
    cond_both (eqb x 124) ([] ∷ pieces xs) (onto_first x (pieces xs)) AllClean
    (λ e. (refl, cleaned xs parts.1))
    (λ e. onto x (pieces xs) (or_from (eqb x 124) (is_line_end x) e parts.0) (cleaned xs parts.1))

chosen : (b : Bool) (x t : List ℕ) → cond b (Some x) None ≡ Some t → x ≡ t
chosen true x t e = cc
chosen false x t e = cc

after_clean : (a b : ℕ) (p t : List ℕ) → list_any is_barred p ≡ false → text_after a b p ≡ Some t
    → list_any is_barred t ≡ false
after_clean a b [] t c e = cc
after_clean a b (x ∷ []) t c e = cc
after_clean a b (x ∷ y ∷ q) t c e =
    let first = or_parts (is_barred x) (is_barred y || list_any is_barred q) c in
    let second = or_parts (is_barred y) (list_any is_barred q) first.1 in
    rw (← chosen (leb 2 (length (x ∷ y ∷ q)) && (eqb x a && eqb y b)) q t e) second.1

found : (x y : Option (List ℕ)) (t : List ℕ) → or_else x y ≡ Some t → (x ≡ Some t) ⊎ (y ≡ Some t)
found None y t e = inr e
found (Some s) y t e = inl e

field_clean : (a b : ℕ) (ps : List (List ℕ)) (t : List ℕ) → AllClean ps → field a b ps ≡ Some t
    → list_any is_barred t ≡ false
field_clean a b [] t c e = cc
field_clean a b (p ∷ ps) t c e =
    elim (found (text_after a b p) (field a b ps) t e) [
      | inl h ↦ after_clean a b p t c.0 h
      | inr h ↦ field_clean a b ps t c.1 h
    ]

default_clean : (o : Option (List ℕ)) → ((t : List ℕ) → o ≡ Some t → list_any is_barred t ≡ false)
    → list_any is_barred (unwrap_or o []) ≡ false
default_clean None h = refl
default_clean (Some t) h = h t refl

-- what the fields of a rest without a CR or LF have no barred byte
pub clean : (a b : ℕ) (rest : List ℕ) → list_any is_line_end rest ≡ false
    → list_any is_barred (unwrap_or (field a b (pieces rest)) []) ≡ false
clean a b rest h = default_clean (field a b (pieces rest)) (λ t e. field_clean a b (pieces rest) t (cleaned rest h) e)

id_fits : (v : List ℕ) → ltb 64 (length v) ≡ false → eqb (length v) 0 ≡ false
    → list_any is_barred v ≡ false → is_id v ≡ true
unfolding is_id
id_fits v short some bars =
    let ne = eqb-false (length v) 0 some in
    and_from (leb 1 (length v)) (leb (length v) 64 && not (list_any is_barred v)) (le-leb 1 (length v) (omega arith))
    (and_from (leb (length v) 64) (not (list_any is_barred v)) (le-leb (length v) 64 (ltb-false 64 (length v) short)) (not_from_false (list_any is_barred v) bars))

text_fits : (v : List ℕ) → ltb 1024 (length v) ≡ false → list_any is_barred v ≡ false → is_text v ≡ true
unfolding is_text
text_fits v short bars =
    and_from (leb (length v) 1024) (not (list_any is_barred v)) (le-leb (length v) 1024 (ltb-false 1024 (length v) short)) (not_from_false (list_any is_barred v) bars)

-- an id is a text
pub id_is_text : (v : List ℕ) → is_id v ≡ true → is_text v ≡ true
unfolding is_id is_text
id_is_text v valid =
    let (some, rest) = and_parts (leb 1 (length v)) (leb (length v) 64 && not (list_any is_barred v)) valid in
    let (short, clean) = and_parts (leb (length v) 64) (not (list_any is_barred v)) rest in
    let fits : length v ≤ 64 = leb-true (length v) 64 short in
    and_from (leb (length v) 1024) (not (list_any is_barred v)) (le-leb (length v) 1024 (omega arith)) clean

used : (x y : Bool) → x ≡ true → (x && y) ≡ false → y ≡ false
used true y e h = h
used false y e h = cc

-- what the tests say
record Tested (l : FieldLayout) (rest : List ℕ) (t : Texts) : Type 0 where
  no_end : list_any is_line_end rest ≡ false
  patron : (l.patron && is_longer 64 t.patron) ≡ false
  item : (l.item && is_longer 64 t.item) ≡ false
  properties : (l.properties && is_longer 1024 t.properties) ≡ false
  pickup : (l.pickup && is_longer 1024 t.pickup) ≡ false
  has_patron : (l.patron && is_blank t.patron) ≡ false
  has_item : (l.item && is_blank t.item) ≡ false

tested : (l : FieldLayout) (rest : List ℕ) (t : Texts) → has_bad_field l rest t ≡ false
    → lacks_field l t ≡ false → Tested l rest t
unfolding has_bad_field lacks_field
tested l rest t fine there =
    let ids = (l.patron && is_longer 64 t.patron) || (l.item && is_longer 64 t.item) in
    let kept = (l.properties && is_longer 1024 t.properties) || (l.pickup && is_longer 1024 t.pickup) in
    let whole = or_parts (list_any is_line_end rest || t.short) (ids || kept) fine in
    let long = or_parts ids kept whole.1 in
    let long_id = or_parts (l.patron && is_longer 64 t.patron) (l.item && is_longer 64 t.item) long.0 in
    let long_text = or_parts (l.properties && is_longer 1024 t.properties) (l.pickup && is_longer 1024 t.pickup) long.1 in
    let lacking = or_parts (l.patron && is_blank t.patron) ((l.item && is_blank t.item) || (l.amount && is_none t.amount)) there in
    record {
      no_end = (or_parts (list_any is_line_end rest) t.short whole.0).0;
      patron = long_id.0;
      item = long_id.1;
      properties = long_text.0;
      pickup = long_text.1;
      has_patron = lacking.0;
      has_item = (or_parts (l.item && is_blank t.item) (l.amount && is_none t.amount) lacking.1).0;
    }

amount_fits : (l : FieldLayout) (t : Texts) → has_bad_amount l t ≡ false → l.amount ≡ true
    → is_none (option_and_then amount_of t.amount) ≡ false
unfolding has_bad_amount
amount_fits l t h uses = used l.amount (is_none (option_and_then amount_of t.amount)) uses h

-- a message that passes the tests of its layout
pub fits : (l : FieldLayout) (rest : List ℕ) (t : Texts) → t ≡ texts (pieces rest)
    → has_bad_field l rest t ≡ false → lacks_field l t ≡ false → has_bad_amount l t ≡ false
    → Fits l t
fits l rest t e fine there spelt =
    let g = tested l rest t fine there in
    record {
      patron = λ uses. id_fits (unwrap_or t.patron []) (used l.patron (is_longer 64 t.patron) uses g.patron) (used l.patron (is_blank t.patron) uses g.has_patron)
          (rw (ap (λ (x : Texts). x.patron) e) (clean 65 65 rest g.no_end));
      item = λ uses. id_fits (unwrap_or t.item []) (used l.item (is_longer 64 t.item) uses g.item) (used l.item (is_blank t.item) uses g.has_item)
          (rw (ap (λ (x : Texts). x.item) e) (clean 65 66 rest g.no_end));
      properties = λ uses. text_fits (unwrap_or t.properties []) (used l.properties (is_longer 1024 t.properties) uses g.properties)
          (rw (ap (λ (x : Texts). x.properties) e) (clean 67 72 rest g.no_end));
      pickup = λ uses. text_fits (unwrap_or t.pickup []) (used l.pickup (is_longer 1024 t.pickup) uses g.pickup)
          (rw (ap (λ (x : Texts). x.pickup) e) (clean 66 83 rest g.no_end));
      amount = amount_fits l t spelt;
    }
