use Rattle.std.proofs.Common.{◌≡◌, arith}
use Rattle.std.specs.Prelude.{IfOk}
use Rattle.rayon.specs.Lists.{chunks_of}
use Rattle.rayon.proofs.ToStd.{slice-AllZip}
use Rattle.journal_table.specs.Readings.{requests_read}
use Rattle.journal_table.proofs.Rising.{each-stretch}
use Rattle.journal_table.proofs.Stretches.{kept}
use Rattle.journal_table.proofs.readings.read_all.Goals as goal

pub of-requires : goal.of-requires
of-requires g c =
    let lines = c.lines-lines.result.now in
    let h = c.in_ok-stretches.ensures in
    let chain = rw (c.map.ensures.base, c.par_chunks.ensures.slice, c.par_chunks.ensures.size) at h.1 in
    let read = rw c.in_ok-stretches-2.was at h.2 in
    let (ys, all, items) = read in
    let each = slice-AllZip chain.0 (chunks_of 4096 lines) chain.1 (λ ls r. IfOk r (λ v. v.items ≡ requests_read ls)) h.0 chain.2 in
    let same = each-stretch (chunks_of 4096 lines) ys _ (rw all at each) in
    let (whole, full) = kept 4096 lines ys (omega arith) same in
    rw (← c.lines-lines.ensures.lines, items) (record { whole = whole; full = full })
