use Rattle.std.proofs.Common.{◌≡◌, ℕ, List, [], ◌∷◌, ◌++◌, append_assoc, append-nil, refl, sym}
use Rattle.std.specs.Prelude.{codes, is_some}
use Rattle.std.specs.Option.{option_map, option_map_or}
use Rattle.circ_policy.specs.Medias.{media_code}
use Rattle.sip_answer.specs.DueDates.{due_text}
use Rattle.sip_answer.specs.Parts.{digit, field, filled, flag, given}
use Rattle.sip_answer.specs.Texts.{money}
use Rattle.sip_answer.specs.declared.answer.KnownItem.{KnownItem}
use Rattle.sip_answer.proofs.writing.loans.put_loan.Goals.{in-Some+in_ok-put_field-in-Some, in-None+in_ok-put_field-in-None, in-Some-rental+in_ok-put_field+in_ok-put_money, in_default}
use Rattle.sip_answer.proofs.writing.loans.put_loan.Goals as goal

regroup : (o i a b u d e f g h j k r m p : List ℕ)
    → o ++ i ++ (a ++ b ++ u ++ d) ++ e ++ f ++ g ++ h ++ j ++ k ++ r ++ m ++ p
    ≡ o ++ (i ++ a ++ b ++ u ++ d ++ e ++ f ++ g ++ h ++ j ++ k ++ r ++ m ++ p)
regroup o i a b u d e f g h j k r m p = simp append_assoc

pub returns : goal.returns
returns c =
    let a = c.args.answer.now in
    let flags : digit (is_some a.due) ++ flag a.renewed ++ codes "U" ++ flag (is_some a.due) ≡ c.digit.result ∷ c.flag.result ∷ 85 ∷ c.flag-2.result ∷ [] =
    rw (← c.is_some-is_made.ensures, c.digit.ensures, c.flag.ensures, c.flag-2.ensures) refl in
    let title : c.match-answer.out.items ≡ c.put_id-3.new.out.items ++ field (codes "AJ") (option_map_or (λ (i : KnownItem). i.title) a.known []) = elim c.match-answer.branch [
      | in-Some+in_ok-put_field-in-Some w ↦ rw (w.out-is, w.in_ok-put_field-in-Some.ensures, w.as_bytes-in-Some.ensures, w.in-Some.is) refl
      | in-None+in_ok-put_field-in-None w ↦ rw (w.out-is, w.in_ok-put_field-in-None.ensures, w.in-None.is) refl
    ] in
    let rental : c.match-answer-2.out.items ≡ c.put_due.new.out.items ++ option_map_or (λ (rental : ℕ). field (codes "BT") (codes "06") ++ money a.currency rental) a.rental [] = elim c.match-answer-2.branch [
      | in-Some-rental+in_ok-put_field+in_ok-put_money w ↦ rw (w.out-is, w.in_ok-put_money.ensures, w.in_ok-put_field.ensures, w.from.ensures, w.hundredths.ensures.value, w.in-Some-rental.is) (append_assoc c.put_due.new.out.items _ _)
      | in_default w ↦ rw (w.out-is, w.in_default.is) (sym (append-nil c.put_due.new.out.items))
    ] in
    rw (
      c.in_ok-put_shown.ensures,
      rental,
      c.in_ok-put_due.ensures,
      title,
      c.in_ok-put_id-3.ensures,
      c.in_ok-put_id-2.ensures,
      c.in_ok-put_id.ensures,
      c.in_ok-extend_from_slice-3.ensures.items,
      c.as_bytes.ensures,
      c.in_ok-extend_from_slice-2.ensures.items,
      c.in_ok-extend_from_slice.ensures.items,
      ← flags,
    ) (regroup c.args.out.now.items c.args.id.now (digit (is_some a.due)) (flag a.renewed) (codes "U") (flag (is_some a.due)) a.date
    (field (codes "AO") a.institution) (field (codes "AA") a.patron) (field (codes "AB") a.item) (field (codes "AJ") (option_map_or (λ (i : KnownItem). i.title) a.known []))
    (field (codes "AH") (option_map_or (due_text a.due_form) a.due [])) (option_map_or (λ (rental : ℕ). field (codes "BT") (codes "06") ++ money a.currency rental) a.rental [])
    (given (codes "CK") (option_map (λ (i : KnownItem). media_code i.media) a.known)) (filled (codes "CH") (option_map_or (λ (i : KnownItem). i.properties) a.known [])))
