-- Pieces, and what each of them adds to the fields.
use Rattle.std.proofs.Common.{ℕ, ◌≡◌, ◌+◌, ◌<◌, ◌||◌, Bool, true, false, List, [], ◌∷◌, ◌++◌, length, eqb, get_or, take, drop, Option, Some, None, refl, sym, ap, ◌∙◌, append_assoc, arith}
use Rattle.std.proofs.lemmas.Bool.{false_from_ne_true}
use Rattle.std.proofs.lemmas.List.{append-nil}
use Rattle.std.proofs.lemmas.List.Elements.{All-from_get_or}
use Rattle.std.proofs.lemmas.List.Folds.{list_any_at, list_any_none}
use Rattle.std.proofs.lemmas.List.Splits.{slice_split_first, slice_split_none}
use Rattle.std.proofs.lemmas.List.Sums.{position_or_len_is}
use Rattle.std.specs.List.{list_any}
use Rattle.std.specs.Option.{is_some}
use Rattle.memchr.specs.Find.{IsFirstByte, is_byte}
use Rattle.sip_reader.specs.Fields.{Texts, field, or_else, pieces, text_after, texts}
use Rattle.sip_reader.specs.Views.{or_now, with_piece, with_pieces}

or_else_none : (o : Option (List ℕ)) → or_else o None ≡ o
or_else_none None = refl
or_else_none (Some t) = refl

or_else_assoc : (x y z : Option (List ℕ)) → or_else x (or_else y z) ≡ or_else (or_else x y) z
or_else_assoc None y z = refl
or_else_assoc (Some t) y z = refl

pub field_push : (a b : ℕ) (ps : List (List ℕ)) (p : List ℕ)
    → field a b (ps ++ p ∷ []) ≡ or_else (field a b ps) (text_after a b p)
field_push a b [] p = or_else_none (text_after a b p)
field_push a b (q ∷ ps) p = ap (or_else (text_after a b q)) (field_push a b ps p) ∙ or_else_assoc (text_after a b q) (field a b ps) (text_after a b p)

or_now_is : (x y : Option (List ℕ)) → or_else x y ≡ or_now x y
or_now_is x None = or_else_none x
or_now_is x (Some t) = refl

pushed : (a b : ℕ) (ps : List (List ℕ)) (p : List ℕ)
    → field a b (ps ++ p ∷ []) ≡ or_now (field a b ps) (text_after a b p)
pushed a b ps p = field_push a b ps p ∙ or_now_is (field a b ps) (text_after a b p)

turned : (a b c : Bool) → (a || (b || c)) ≡ (b || (a || c))
turned true true c = refl
turned true false c = refl
turned false b c = refl

any_push : (ps : List (List ℕ)) (p : List ℕ) → list_any (λ x. eqb (length x) 1) (ps ++ p ∷ []) ≡ (eqb (length p) 1 || list_any (λ x. eqb (length x) 1) ps)
any_push [] p = refl
any_push (q ∷ ps) p = ap (λ r. eqb (length q) 1 || r) (any_push ps p) ∙ turned (eqb (length q) 1) (eqb (length p) 1) (list_any (λ x. eqb (length x) 1) ps)

pub texts_push : (ps : List (List ℕ)) (p : List ℕ) → texts (ps ++ p ∷ []) ≡ with_piece (texts ps) p
texts_push ps p = rw (pushed 65 65 ps p, pushed 65 66 ps p, pushed 65 74 ps p, pushed 66 73 ps p, pushed 66 79 ps p, pushed 66 83 ps p, pushed 66 86 ps p, pushed 67 71 ps p, pushed 67 72 ps p, any_push ps p) refl

-- with the pieces one after the other
with_more : (qs ps : List (List ℕ)) → with_pieces (texts qs) ps ≡ texts (qs ++ ps)
with_more qs [] = ap texts (sym (append-nil qs))
with_more qs (p ∷ ps) = ap (λ t. with_pieces t ps) (sym (texts_push qs p)) ∙ with_more (qs ++ p ∷ []) ps ∙ ap texts (append_assoc qs (p ∷ []) ps)

pub none_before : (t : Texts) (ps : List (List ℕ)) → t ≡ texts [] → with_pieces t ps ≡ texts ps
none_before t ps e = ap (λ u. with_pieces u ps) e ∙ with_more [] ps

-- ---- where a search finds a byte
pub found_bar : (s : List ℕ) (r : Option ℕ) (k : ℕ) → r ≡ Some k → IsFirstByte (is_byte 124) s r
    → IsFirstByte (is_byte 124) s (Some k)
found_bar s r k e h = rw e at h

pub no_bar : (s : List ℕ) (r : Option ℕ) → r ≡ None → IsFirstByte (is_byte 124) s r → IsFirstByte (is_byte 124) s None
no_bar s r e h = rw e at h

-- the piece before the first bar
pub next_piece : (s : List ℕ) (bar : ℕ) → IsFirstByte (is_byte 124) s (Some bar)
    → pieces s ≡ take bar s ∷ pieces (drop (bar + 1) s)
next_piece s bar h =
    let at = position_or_len_is (is_byte 124) s bar 0 (omega (arith, h.0.high)) (λ k less. false_from_ne_true (is_byte 124 (get_or s k 0)) (h.0.before k (omega arith) less)) (λ less. h.1) in
    slice_split_first (is_byte 124) s 0 (omega (arith, at, h.0.high)) ∙ ap (λ k. take k s ∷ pieces (drop (k + 1) s)) at

-- no byte that passes
none_of : (p : ℕ → Bool) (s : List ℕ) → IsFirstByte p s None → (k : ℕ) → k < length s → p (get_or s k 0) ≡ false
none_of p s h k less = false_from_ne_true (p (get_or s k 0)) (h k (omega arith) less)

-- no bar is left
pub last_piece : (s : List ℕ) → IsFirstByte (is_byte 124) s None → pieces s ≡ s ∷ []
last_piece s h =
    slice_split_none (is_byte 124) s (All-from_get_or (λ x. is_byte 124 x ≡ false) s 0 (none_of (is_byte 124) s h))

pub any_found : (p : ℕ → Bool) (s : List ℕ) (r : Option ℕ) → IsFirstByte p s r → is_some r ≡ list_any p s
any_found p s None h = sym (list_any_none p s (All-from_get_or (λ x. p x ≡ false) s 0 (none_of p s h)))
any_found p s (Some k) h = sym (list_any_at p s k 0 h.0.high h.1)
