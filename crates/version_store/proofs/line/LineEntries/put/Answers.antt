use Rattle.std.proofs.Common.{◌≡◌, ◌∙◌, ap, arith, subst, sym}
use Rattle.std.specs.Prelude.{option_map}
use Rattle.std.specs.FinMap.{put}
use Rattle.std.specs.FinMap.Entries.{is_sorted-put}
use Rattle.circ_records.specs.Keys.{key_cmp, key_cmp_total}
use Rattle.circ_records.proofs.Changing.{on-err}
use Rattle.version_store.specs.Entries.{keyed, line_of, shown}
use Rattle.version_store.specs.Devices.Positions.{Rise}
use Rattle.version_store.proofs.Keyed.{keyed_insert, keyed_length, keyed_set}
use Rattle.version_store.proofs.Positions.{gap_find, gap_put, set_put}
use Rattle.version_store.proofs.Views.{get_shown, line_put}
use Rattle.version_store.proofs.line.LineEntries.put.Goals as goal

set_here : (g : _) (c : goal.After-set g) → keyed c.set.new.self ≡ put key_cmp c.args.key.now c.args.made (keyed c.self.inside.entries)
set_here g c =
    let es = c.self.inside.entries in
    let at = c.in-Ok.ensures in
    ap (λ l. keyed l) c.set.ensures
    ∙ keyed_set es c.in-Ok.position (c.args.key, c.args.made)
    ∙ set_put (keyed es) c.args.key.now c.args.made c.in-Ok.position c.self.invariant at

inserted_here : (g : _) (c : goal.In_ok-insert-in-Err g) → keyed c.insert.new.self ≡ put key_cmp c.args.key.now c.args.made (keyed c.self.inside.entries)
inserted_here g c =
    let es = c.self.inside.entries in
    let gap = c.in-Err.ensures in
    ap (λ l. keyed l) c.in_ok-insert-in-Err.ensures.put
    ∙ keyed_insert es c.in-Err.position (c.args.key, c.args.made)
    ∙ gap_put (keyed es) c.args.key.now c.args.made c.in-Err.position gap

pub invariant_of-self : goal.invariant_of-self
invariant_of-self g c = subst Rise (sym (set_here g c)) (is_sorted-put key_cmp key_cmp_total c.args.key.now c.args.made (keyed c.self.inside.entries) c.self.invariant)

pub invariant_of-self-in-Continue-1 : goal.invariant_of-self-in-Continue-1
invariant_of-self-in-Continue-1 g c = subst Rise (sym (inserted_here g c)) (is_sorted-put key_cmp key_cmp_total c.args.key.now c.args.made (keyed c.self.inside.entries) c.self.invariant)

pub insert-requires : goal.insert-requires
insert-requires g c = omega (arith, c.in-Err.ensures.within, keyed_length c.self.inside.entries)

pub returns-in-Ok-clause-put : goal.returns-in-Ok-clause-put
returns-in-Ok-clause-put g c = rw (← c.self.view_is) (ap line_of (set_here g c) ∙ line_put (keyed c.self.inside.entries) c.args.key.now c.args.made)

pub returns-in_ok-insert-in-Err-clause-put : goal.returns-in_ok-insert-in-Err-clause-put
returns-in_ok-insert-in-Err-clause-put g c = rw (← c.self.view_is) (ap line_of (inserted_here g c) ∙ line_put (keyed c.self.inside.entries) c.args.key.now c.args.made)

pub returns-in_err-insert-in-Err-clause-absent : goal.returns-in_err-insert-in-Err-clause-absent
returns-in_err-insert-in-Err-clause-absent g c =
    let es = keyed c.self.inside.entries in
    let gap = c.in-Err.ensures in
    let none = get_shown es c.args.key.now ∙ ap (option_map shown) (gap_find es c.args.key.now c.in-Err.position gap) in
    rw (← c.self.view_is) (on-err c.from_residual.result none)

pub set-requires : goal.set-requires
set-requires g c = omega (arith, c.in-Ok.ensures.within, keyed_length c.self.inside.entries)
