use Rattle.std.proofs.Common.{◌∙◌, ap}
use Rattle.circ_records.specs.Records.{Entries, record_at}
use Rattle.line_origins.proofs.tracer.Tracer.into_end.Goals as goal

pub returns : goal.returns
returns c = record {
  records = λ k. ap (λ (es : Entries). record_at es k) c.in_ok-into_records.ensures.same ∙ c.args.self.comes.records k;
  writers = c.args.self.comes.writers;
}
