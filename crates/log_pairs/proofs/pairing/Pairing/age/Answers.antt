use Rattle.std.proofs.Common.{◌≡◌, ◌+◌, ◌-◌, ℕ, List, length, map, ap, ap₂, sym, arith, ◌∙◌}
use Rattle.std.proofs.lemmas.List.{length-set}
use Rattle.log_pairs.specs.Pairs.{Open, Pending, aged}
use Rattle.log_pairs.specs.Devices.Places.{named}
use Rattle.log_pairs.proofs.Places.{aged-now}
use Rattle.log_pairs.proofs.pairing.Pairing.age.Goals as goal

pub returns-then-len-gt-PATIENCE : goal.returns-then-len-gt-PATIENCE
returns-then-len-gt-PATIENCE c =
    let a = c.self.inside in
    let ps = a.waiting.items in
    let n = c.len-then-len-gt-PATIENCE.result in
    rw (← c.self.view_is) (ap₂ (λ (k : ℕ) (qs : List Pending). record { asked = k; pending = qs; clients = map named a.clients.entries; unasked = a.unasked; mismatched = a.mismatched })
    (ap (λ (k : ℕ). a.taken + k) (length-set ps (n - 16384 - 1) c.close.new.self))
    (aged-now ps n c.len.result c.index_mut.result.now c.close.new.self (c.len-then-len-gt-PATIENCE.ensures ∙ a.waiting.ok.0) (c.len.ensures ∙ a.waiting.ok.0) c.if-len-gt-PATIENCE.true
    c.index_mut.ensures.value c.close.ensures))
