use Rattle.std.proofs.Common.{◌≡◌, ◌∙◌, ◌++◌, ◌-◌, ℕ, List, [], length, drop, Option, Some, None, Bor, arith, refl, sym, ap, inl, inr}
use Rattle.std.specs.Option.{unwrap_or}
use Rattle.std.specs.Slice.{IsGetRangeResult}
use Rattle.std.proofs.lemmas.List.{drop_all, length-drop, take_all}
use Rattle.result_report.proofs.Parts.{texts-behind}
use Rattle.result_report.proofs.texts.ResultTexts.add.Goals as goal

-- what follows a header, or nothing
rest : (more : List ℕ) (head : ℕ) (got : Option (Bor (List ℕ))) (none : Bor (List ℕ))
    → IsGetRangeResult more head (length more) got → none.now ≡ []
    → (unwrap_or got none).now ≡ drop head more
rest more head None none lookup empty = elim lookup.0 [
  | inl past ↦ empty ∙ sym (drop_all head more (omega (arith, past)))
  | inr never ↦ absurd (omega (arith, never))
]
rest more head (Some x) none lookup empty =
    lookup.0.2 ∙ take_all (length more - head) (drop head more) (omega (arith, length-drop head more))

put : (text new rows items more : List ℕ) (head : ℕ) (got : Option (Bor (List ℕ)))
    (none : Bor (List ℕ)) → new ≡ text ++ rows → rows ≡ (unwrap_or got none).now
    → more ≡ items → IsGetRangeResult more head (length more) got → none.now ≡ [] → new ≡ text ++ drop head items
put text new rows items more head got none pushed got_is same lookup empty =
    pushed ∙ ap (λ (l : List ℕ). text ++ l) (got_is ∙ rest more head got none lookup empty ∙ ap (λ (l : List ℕ). drop head l) same)

pub returns : goal.returns
returns c front back few heads was more =
    let h = c.args.heads in
    texts-behind h front back c.args.self.now c.args.more.now _ few heads was more
    (put _ _ c.unwrap_or-answers.result.now _ c.deref.result.now h.answers c.get.result _ c.in_ok-extend_from_slice.ensures.items (ap (λ b. b.now) c.unwrap_or-answers.ensures) c.deref.ensures.value c.get.ensures.lookup refl)
    (put _ _ c.unwrap_or-report.result.now _ c.deref-2.result.now h.report c.get-2.result _ c.in_ok-extend_from_slice-2.ensures.items (ap (λ b. b.now) c.unwrap_or-report.ensures) c.deref-2.ensures.value c.get-2.ensures.lookup refl)
    (put _ _ c.unwrap_or-passed.result.now _ c.deref-3.result.now h.passed c.get-3.result _ c.in_ok-extend_from_slice-3.ensures.items (ap (λ b. b.now) c.unwrap_or-passed.ensures) c.deref-3.ensures.value c.get-3.ensures.lookup refl)
    (λ small. omega (arith, small, c.saturating_add-sizes.ensures)) (λ small. omega (arith, small, c.saturating_add-sizes-2.ensures)) (λ small. omega (arith, small, c.saturating_add-sizes-3.ensures))
