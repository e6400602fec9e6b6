-- A run whose responses differ in nothing is the same both ways.
use Rattle.std.proofs.Common.{◌≡◌, ◌∙◌, ℕ, zero, suc, ◌+◌, ◌-◌, ◌≤◌, Bool, true, false, cond, List, [], ◌∷◌, Option, Some, None, map, refl, sym, ap, subst, arith}
use Rattle.std.proofs.lemmas.Bool.{ltb-false}
use Rattle.std.specs.Prelude.{IfSome, nat_lt, slice_get, unwrap_or}
use Rattle.circ_policy.specs.Terms.{Terms}
use Rattle.circ_policy.specs.declared.due_form.DueForm.{DueForm}
use Rattle.circ_records.specs.Records.{Entries}
use Rattle.journal_table.specs.Entry.{Entry}
use Rattle.read_set.specs.Asks.{over}
use Rattle.read_set.specs.Maps.{Map, put}
use Rattle.read_set.specs.Meaning.{effect, rule, rule_with}
use Rattle.read_set.specs.Plans.{Planned, deed_read, deeds_of, reading_at, readings_of}
use Rattle.read_set.specs.Replay.{after, answer_of, before, one_at, one_by}
use Rattle.read_set.specs.declared.effect.Effect.{Effect}
use Rattle.sip_answer.specs.Differ.{Agrees}
use Rattle.sip_answer.specs.declared.answer.Answer.{Answer}
use Rattle.sip_answer.specs.declared.deed.Deed.{Deed}
use Rattle.sip_reader.specs.Reading.{reading}
use Rattle.sip_reader.specs.declared.request.Reading.{Reading}
use Rattle.sip_reader.specs.declared.request.Reading.TheVariants as readings
use Rattle.way_laws.specs.BothWays.{NoneDiffers, SameRunIfNoneDiffers, as_recorded, by_rules}
use Rattle.read_set.proofs.WholeMaps.{lines-give}
use Rattle.way_laws.proofs.Ruled.{same-line}

-- ONE LINE

-- whatever a line is read as, what its response says changes nothing if it differs in no word from the answer
same-reading : (p : Terms) (n : ℕ) (form : DueForm) (r : Reading) (recorded : List ℕ) (M : Map) → IfSome (over M (rule p n r None)).answer (λ a. Agrees a recorded)
    → over M (rule p n r (deed_read form (Some r) recorded)) ≡ over M (rule p n r None)
unfolding rule rule_with
same-reading p n form (readings.Asked q) recorded M agrees = same-line p n q.date q.act form recorded M agrees
same-reading p n form readings.BadSum recorded M agrees = refl
same-reading p n form (readings.Passed why) recorded M agrees = refl
same-reading p n form (readings.Unread why) recorded M agrees = refl

same-effect : (p : Terms) (n : ℕ) (form : DueForm) (r : Reading) (recorded : List ℕ) (M : Map) → IfSome (effect p n r None M).answer (λ a. Agrees a recorded)
    → effect p n r (deed_read form (Some r) recorded) M ≡ effect p n r None M
same-effect p n form r recorded M agrees =
    sym (lines-give p n r (deed_read form (Some r) recorded) M)
    ∙ same-reading p n form r recorded M (subst (λ (x : Effect). IfSome x.answer (λ a. Agrees a recorded)) (sym (lines-give p n r None M)) agrees)
    ∙ lines-give p n r None M

-- WHERE THE DEEDS ARE

none-at : (i : ℕ) → unwrap_or (slice_get {X = Option Deed} [] i) None ≡ None
none-at i = refl

deed-at : (form : DueForm) (lines : List Entry) (i : ℕ) (r : Reading) → slice_get (readings_of lines) i ≡ Some r
    → (line : Entry) × (slice_get lines i ≡ Some line) × (unwrap_or (slice_get (map (λ (x : Entry). deed_read form (Some (reading x.request)) x.response) lines) i) None ≡ deed_read form (Some r) line.response)
deed-at form [] i r e = cc e
deed-at form (x ∷ rest) zero r e = let same : reading x.request ≡ r = cc e in (x, refl, ap (λ (y : Reading). deed_read form (Some y) x.response) same)
deed-at form (x ∷ rest) (suc i) r e = deed-at form rest i r e

module _ (policy : Terms) (base : Entries) (lines : List Entry) (none : NoneDiffers policy base lines) where
  rules : Planned
  rules = by_rules policy base lines

  recorded : Planned
  recorded = as_recorded policy base lines

  -- a line on the records as the lines before it left them by the rules
  line-same : (line : ℕ) (M : Map) → ((r : Reading) → reading_at rules line ≡ Some r → M ≡ before rules line) → one_at recorded line M ≡ one_at rules line M
  unfolding deeds_of rules recorded
  line-same line M there = by (reading_at rules line) refl
    where
      at : (b : Bool) → nat_lt line rules.first ≡ b → (r : Reading) → cond b None (slice_get rules.readings (line - rules.first)) ≡ Some r → rules.first + (line - rules.first) ≡ line
      at true e r f = cc f
      at false e r f = let low : rules.first ≤ line = ltb-false line rules.first e in omega arith

      found : (b : Bool) → (r : Reading) → cond b None (slice_get rules.readings (line - rules.first)) ≡ Some r → slice_get rules.readings (line - rules.first) ≡ Some r
      found true r f = cc f
      found false r f = f

      by : (o : Option Reading) → reading_at rules line ≡ o → one_by recorded line o M ≡ one_by rules line o M
      by None e = refl
      by (Some r) e =
          let here = deed-at policy.due_form lines (line - rules.first) r (found (nat_lt line rules.first) r e) in
          let number : rules.first + (line - rules.first) ≡ line = at (nat_lt line rules.first) refl r e in
          let answers : IfSome (answer_of rules line) (λ a. Agrees a here.0.response) =
          subst (λ (x : ℕ). IfSome (answer_of rules x) (λ a. Agrees a here.0.response)) number (none (line - rules.first) here.0 here.1) in
          let on : IfSome (one_by rules line (Some r) M).1 (λ a. Agrees a here.0.response) =
          subst (λ (x : Map). IfSome (one_by rules line (Some r) x).1 (λ a. Agrees a here.0.response)) (sym (there r e))
          (subst (λ (x : Option Reading). IfSome (one_by rules line x (before rules line)).1 (λ a. Agrees a here.0.response)) e answers) in
          ap (λ (x : Effect). (put x.writes M, x.answer))
          (ap (λ (d : Option Deed). effect policy line r d M) here.2 ∙ same-effect policy line policy.due_form r here.0.response M on)

  first-less : (n : ℕ) → (rules.first + n) - rules.first ≡ n
  first-less n = omega arith

  records-same : (n : ℕ) → after recorded n ≡ after rules n
  unfolding rules recorded
  records-same zero = refl
  records-same (suc n) =
      ap (λ (x : Map). (one_at recorded (rules.first + n) x).0) (records-same n)
      ∙ ap (λ (x : Map × Option Answer). x.0) (line-same (rules.first + n) (after rules n) (λ r e. ap (after rules) (sym (first-less n))))

  answers-same : (line : ℕ) → answer_of recorded line ≡ answer_of rules line
  unfolding rules recorded
  answers-same line =
      ap (λ (x : Map). (one_at recorded line x).1) (records-same (line - rules.first))
      ∙ ap (λ (x : Map × Option Answer). x.1) (line-same line (before rules line) (λ r e. refl))

pub same-run : SameRunIfNoneDiffers
unfolding recorded rules
same-run policy base lines none = (records-same policy base lines none, answers-same policy base lines none)
