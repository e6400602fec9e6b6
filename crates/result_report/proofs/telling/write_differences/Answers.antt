use Rattle.std.proofs.Common.{◌≡◌, ◌∙◌, codes, rules}
use Rattle.std.specs.Prelude.{string_bytes}
use Rattle.std.proofs.lemmas.Iterator.{YieldsList-from_map_by, YieldsList-from_slice}
use Rattle.std.proofs.lemmas.Iterator.Consumers.{map_from_collect}
use Rattle.sip_answer.specs.Words.{word_of}
use Rattle.result_report.specs.Report.{joined_words}
use Rattle.result_report.proofs.Joined.{joined}
use Rattle.result_report.proofs.telling.write_differences.Goals as goal

pub returns : goal.returns
returns c =
    let fields = c.in_ok-fields.fields.items in
    let ran = map_from_collect _ c.collect.ensures.ran
    (YieldsList-from_map_by _ (λ w. w.now) word_of (YieldsList-from_slice fields cc) c.map.ensures.closure (λ x r q k. search rules)) in
    let words = rw c.in_ok-words.was at ran in
    let said : string_bytes c.in_ok-words-2.words ≡ joined_words fields = c.in_ok-words-2.ensures.ok ∙ joined c.deref-2.result.now fields (codes " ") (rw c.deref-2.ensures.value words) in
    search rules
