use Rattle.std.proofs.Common.{rules}
use Rattle.circ_records.proofs.Positions.{moved}
use Rattle.circ_records.proofs.record_map.put_before.Goals as goal

pub loop-key-preserved : goal.loop-key-preserved
loop-key-preserved c = moved c.pop.new.self.items c.loop-key.all.entries _ c.loop-key.left.items _ c.in-Some.key c.in-Some.record c.requires (search rules) c.loop-key.invariant c.in_ok-insert.ensures.entries

pub loop-key-preserved-in_ok-insert : goal.loop-key-preserved-in_ok-insert
loop-key-preserved-in_ok-insert c = moved c.pop.new.self.items c.loop-key.all.entries _ c.loop-key.left.items _ c.in-Some.key c.in-Some.record c.requires (search rules) c.loop-key.invariant c.in_ok-insert.ensures.entries

pub loop-key-preserved-in_ok-insert-2 : goal.loop-key-preserved-in_ok-insert-2
loop-key-preserved-in_ok-insert-2 c = moved c.pop.new.self.items c.loop-key.all.entries _ c.loop-key.left.items _ c.in-Some.key c.in-Some.record c.requires (search rules) c.loop-key.invariant c.in_ok-insert.ensures.entries

pub loop-key-preserved-in_ok-insert-3 : goal.loop-key-preserved-in_ok-insert-3
loop-key-preserved-in_ok-insert-3 c = moved c.pop.new.self.items c.loop-key.all.entries _ c.loop-key.left.items _ c.in-Some.key c.in-Some.record c.requires (search rules) c.loop-key.invariant c.in_ok-insert.ensures.entries
