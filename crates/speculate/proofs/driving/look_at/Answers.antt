use Rattle.std.proofs.Common.{◌≡◌, List, ◌∷◌, [], ◌++◌, Option, ap, ap₂, option_map, map, subst, sym, ◌∙◌}
use Rattle.circ_records.specs.declared.key.Key.{Key}
use Rattle.circ_records.specs.declared.record.Record.{Record}
use Rattle.std.proofs.lemmas.Result.{err_from_is_err_and}
use Rattle.read_set.specs.Plans.{Planned}
use Rattle.read_set.specs.declared.notes.Note.{Note}
use Rattle.board_steps.specs.Steps.Call.{Look}
use Rattle.board_lines.specs.Notes.{found_by, contents_at}
use Rattle.speculate.specs.Devices.Phases.{Reads}
use Rattle.speculate.proofs.Drives.{drives, keys_more, look_only, look_seen, seen_stops}
use Rattle.speculate.proofs.Phases.{look_for}
use Rattle.board_lines.specs.declared.reply.Reply.TheVariants as replies
use Rattle.speculate.proofs.driving.look_at.Goals as goal

pub unreachable-requires : goal.unreachable-requires
unreachable-requires g c =
    look_only g.J.PlanName.plan c.args.board.now c.look.new.self c.args.line c.args.notes.now c.args.key.now c.look.result
    c.requires.reads c.requires.fresh c.look.ensures c.in_default.not-Seen c.in_default.not-Memory

pub returns-in_err-found-clause-fault : goal.returns-in_err-found-clause-fault
returns-in_err-found-clause-fault g c =
    let p = err_from_is_err_and c.from_residual.result c.from_residual.ensures.1 in
    rw (p.1, p.2) (seen_stops g.J.PlanName.plan c.args.board.now c.look.new.self c.args.line c.args.notes.now c.args.key.now c.in-Seen.name c.in-Seen.place c.requires.reads c.in-Seen.ensures)

pub returns-in_err-add-clause-fault : goal.returns-in_err-add-clause-fault
returns-in_err-add-clause-fault g c =
    let p = err_from_is_err_and c.from_residual-in_err-add.result c.from_residual-in_err-add.ensures.1 in
    rw (p.1, p.2) (seen_stops g.J.PlanName.plan c.args.board.now c.look.new.self c.args.line c.args.notes.now c.args.key.now c.in-Seen.name c.in-Seen.place c.requires.reads c.in-Seen.ensures)

pub returns-in_err-clone-clause-fault : goal.returns-in_err-clone-clause-fault
returns-in_err-clone-clause-fault g c =
    let p = err_from_is_err_and c.from_residual-in_err-clone.result c.from_residual-in_err-clone.ensures.1 in
    rw (p.1, p.2) (seen_stops g.J.PlanName.plan c.args.board.now c.look.new.self c.args.line c.args.notes.now c.args.key.now c.in-Seen.name c.in-Seen.place c.requires.reads c.in-Seen.ensures)

pub returns-in_err-clone-clause-led : goal.returns-in_err-clone-clause-led
returns-in_err-clone-clause-led g c =
    drives {J = g.row.J.Denot} g.J.PlanName.plan c.args.line c.args.board.now c.look.new.self (Look 0 c.args.key.now) (replies.Seen c.in-Seen.name c.in-Seen.place) tt
    (look_for g.J.PlanName.plan c.args.board.now c.args.line c.requires.reads.goes.stands c.args.key.now) tt c.in-Seen.ensures

pub returns-in_err-found-clause-led : goal.returns-in_err-found-clause-led
returns-in_err-found-clause-led g c =
    drives {J = g.row.J.Denot} g.J.PlanName.plan c.args.line c.args.board.now c.look.new.self (Look 0 c.args.key.now) (replies.Seen c.in-Seen.name c.in-Seen.place) tt
    (look_for g.J.PlanName.plan c.args.board.now c.args.line c.requires.reads.goes.stands c.args.key.now) tt c.in-Seen.ensures

pub returns-in_err-add-clause-led : goal.returns-in_err-add-clause-led
returns-in_err-add-clause-led g c =
    drives {J = g.row.J.Denot} g.J.PlanName.plan c.args.line c.args.board.now c.look.new.self (Look 0 c.args.key.now) (replies.Seen c.in-Seen.name c.in-Seen.place) tt
    (look_for g.J.PlanName.plan c.args.board.now c.args.line c.requires.reads.goes.stands c.args.key.now) tt c.in-Seen.ensures

pub returns-clause-reads : goal.returns-clause-reads
returns-clause-reads g c =
    let plan = g.J.PlanName.plan in
    let k = c.args.key.now in
    let notes = c.args.notes.now in
    let name = c.in-Seen.name in
    let place = c.in-Seen.place in
    let is : c.new-found.result ≡ found_by plan.base k (option_map contents_at place) =
    c.new-found.ensures ∙ c.in_ok-found.ensures ∙ c.record_seen.ensures ∙ ap (λ (p : Planned). found_by p.base k (option_map contents_at place)) c.plan-plan.ensures.plan in
    let noted : c.add.new.self ≡ notes ++ record { key = k; name = name; found = found_by plan.base k (option_map contents_at place) } ∷ [] =
    c.in_ok-add.ensures.ok ∙ ap₂ (λ (q : Key) (f : Option Record). notes ++ record { key = q; name = name; found = f } ∷ []) c.in_ok-clone.ensures.cases is in
    subst (λ (ns : List Note). Reads plan c.look.new.self c.args.line ns) (sym noted)
    (look_seen plan c.args.board.now c.look.new.self c.args.line notes k name place c.requires.reads c.in-Seen.ensures).0

pub returns-clause-led : goal.returns-clause-led
returns-clause-led g c =
    drives {J = g.row.J.Denot} g.J.PlanName.plan c.args.line c.args.board.now c.look.new.self (Look 0 c.args.key.now) (replies.Seen c.in-Seen.name c.in-Seen.place) tt
    (look_for g.J.PlanName.plan c.args.board.now c.args.line c.requires.reads.goes.stands c.args.key.now) tt c.in-Seen.ensures

pub returns-clause-keys : goal.returns-clause-keys
returns-clause-keys g c =
    ap (λ (ns : List Note). map (λ (n : Note). n.key) ns) c.in_ok-add.ensures.ok
    ∙ keys_more c.args.notes.now (record { key = c.in_ok-clone.field-0; name = c.in-Seen.name; found = c.new-found.result })
    ∙ ap (λ (q : Key). map (λ (n : Note). n.key) c.args.notes.now ++ q ∷ []) c.in_ok-clone.ensures.cases

pub returns-clause-next : goal.returns-clause-next
returns-clause-next g c =
    (look_seen g.J.PlanName.plan c.args.board.now c.look.new.self c.args.line c.args.notes.now c.args.key.now c.in-Seen.name c.in-Seen.place c.requires.reads c.in-Seen.ensures).1
