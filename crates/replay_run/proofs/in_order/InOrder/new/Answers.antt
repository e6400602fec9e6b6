use Rattle.std.proofs.Common.{◌≡◌, ◌+◌, ◌∷◌, [], List, length, sym, arith, refl, subst, ap}
use Rattle.circ_records.specs.Records.{Entries, record_at}
use Rattle.journal_table.specs.Entry.{Entry}
use Rattle.result_report.specs.Report.{LineResult, line_results}
use Rattle.result_report.specs.Tellings.{Tells}
use Rattle.sip_reader.specs.declared.request.Reading.{Reading}
use Rattle.replay_run.specs.InOrder.{HasReplayed}
use Rattle.replay_run.proofs.in_order.InOrder.new.Goals as goal

-- without an answer there is no result
none-yet : (lines : List Entry) (readings : List Reading) → line_results lines readings [] ≡ []
none-yet [] readings = refl
none-yet (line ∷ lines) [] = refl
none-yet (line ∷ lines) (r ∷ readings) = refl

pub returns-clause-begun : goal.returns-clause-begun
returns-clause-begun c plan lines is =
    let none : c.new.result.items ≡ [] = c.new.ensures.items in
    let count : 0 ≡ 0 + length c.new.result.items = let many : length c.new.result.items ≡ 0 = ap length none in omega (arith, many) in
    let begun : HasReplayed plan 0 0 (record { live = c.args.live; answers = c.new.result }) = record {
      records = λ k. ap (λ (live : Entries). record_at live k) is;
      answers = sym none;
    } in
    record {
      replayed = subst (λ n. HasReplayed plan 0 n (record { live = c.args.live; answers = c.new.result })) count begun;
      told = subst (λ (results : List LineResult). Tells results c.in_ok-new.field-0) (sym (none-yet lines plan.readings)) c.in_ok-new.ensures;
      within = omega (arith, count);
    }
