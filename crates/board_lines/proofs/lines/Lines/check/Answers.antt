use Rattle.std.proofs.Common.{◌≡◌, true, false, Option, refl, sym, ◌∙◌, rules}
use Rattle.std.specs.Prelude.{option_map, slice_get}
use Rattle.circ_records.specs.declared.key.Key.{Key}
use Rattle.read_set.specs.declared.notes.Name.{Name}
use Rattle.board_steps.specs.Board.{row_at}
use Rattle.board_lines.specs.Hands.{notes_of}
use Rattle.board_lines.specs.Notes.{key_and_name}
use Rattle.board_lines.proofs.Checks.{hand_here, is_other, live_here, names_there, same_here, whole_here}
use Rattle.board_lines.proofs.lines.Lines.check.Goals as goal

pub go_on-requires-clause-old : goal.go_on-requires-clause-old
go_on-requires-clause-old g c = live_here c.self.inside g.J.PlanName.plan c.self.invariant.0 c.self.invariant.1 c.args.self.now c.self.view_is c.args.worker c.args.line c.in-Some.ensures.0 c.in-Some.ensures.1 c.in-Some.stamp c.in-Some.compared c.in-Some.ensures.2

pub index_mut-requires : goal.index_mut-requires
index_mut-requires g c = (let h = hand_here c.self.inside g.J.PlanName.plan c.self.invariant.0 c.self.invariant.1 c.args.self.now c.self.view_is c.args.worker c.args.line c.in-Some.ensures.0 c.in-Some.ensures.1 c.in-Some.stamp c.in-Some.compared c.in-Some.ensures.2 in search (rules, h))

pub invariant_of-self : goal.invariant_of-self
invariant_of-self g c = (c.self.invariant.0, (whole_here c.self.inside g.J.PlanName.plan c.self.invariant.0 c.self.invariant.1 c.args.self.now c.self.view_is c.args.worker c.args.line c.in-Some.ensures.0 c.in-Some.ensures.1 c.in-Some.stamp c.in-Some.compared c.in-Some.ensures.2 c.in_default-names_at.ensures.names c.go_on.new.self c.go_on.ensures).1)

pub returns-in_default-names_at : goal.returns-in_default-names_at
returns-in_default-names_at g c = (whole_here c.self.inside g.J.PlanName.plan c.self.invariant.0 c.self.invariant.1 c.args.self.now c.self.view_is c.args.worker c.args.line c.in-Some.ensures.0 c.in-Some.ensures.1 c.in-Some.stamp c.in-Some.compared c.in-Some.ensures.2 c.in_default-names_at.ensures.names c.go_on.new.self c.go_on.ensures).0

pub go_on-requires-then-is_named-clause-old : goal.go_on-requires-then-is_named-clause-old
go_on-requires-then-is_named-clause-old g c = live_here c.self.inside g.J.PlanName.plan c.self.invariant.0 c.self.invariant.1 c.args.self.now c.self.view_is c.args.worker c.args.line c.in-Some.ensures.0 c.in-Some.ensures.1 c.in-Some.stamp c.in-Some.compared c.in-Some.ensures.2

pub index_mut-requires-then-is_named : goal.index_mut-requires-then-is_named
index_mut-requires-then-is_named g c = (let h = hand_here c.self.inside g.J.PlanName.plan c.self.invariant.0 c.self.invariant.1 c.args.self.now c.self.view_is c.args.worker c.args.line c.in-Some.ensures.0 c.in-Some.ensures.1 c.in-Some.stamp c.in-Some.compared c.in-Some.ensures.2 in search (rules, h))

pub invariant_of-self-then-is_named : goal.invariant_of-self-then-is_named
invariant_of-self-then-is_named g c = (c.self.invariant.0, (same_here c.self.inside g.J.PlanName.plan c.self.invariant.0 c.self.invariant.1 c.args.self.now c.self.view_is c.args.worker c.args.line c.in-Some.ensures.0 c.in-Some.ensures.1 c.in-Some.stamp c.in-Some.compared c.in-Some.ensures.2 c.in-Some-names_at.noted c.in-Some-names_at.found c.in-Some-names_at.ensures.names (c.is_named.ensures.0 c.if-is_named.true) c.go_on-then-is_named.new.self c.go_on-then-is_named.ensures).1)

pub returns-then-is_named : goal.returns-then-is_named
returns-then-is_named g c = (same_here c.self.inside g.J.PlanName.plan c.self.invariant.0 c.self.invariant.1 c.args.self.now c.self.view_is c.args.worker c.args.line c.in-Some.ensures.0 c.in-Some.ensures.1 c.in-Some.stamp c.in-Some.compared c.in-Some.ensures.2 c.in-Some-names_at.noted c.in-Some-names_at.found c.in-Some-names_at.ensures.names (c.is_named.ensures.0 c.if-is_named.true) c.go_on-then-is_named.new.self c.go_on-then-is_named.ensures).0

pub send_back-requires : goal.send_back-requires
send_back-requires g c =
    let b = c.args.self.now in
    let n = c.args.line in
    let i = c.in-Some.compared in
    let now = c.in-Some-names_at.found in
    let noted = c.in-Some-names_at.noted in
    let o : Option (Key × Name) = option_map key_and_name (slice_get (notes_of (row_at b n).state) i) in
    let x = names_there b n o noted now c.in-Some-names_at.ensures.names in
    is_other b c.args.worker n c.in-Some.ensures.0 c.in-Some.ensures.1 c.in-Some.stamp i x.0 noted now c.in-Some.ensures.2 x.1 x.2
    (λ e. (let z : true ≡ false = sym (c.is_named.ensures.1 e) ∙ c.if-is_named.false in cc))

pub returns-in_default : goal.returns-in_default
returns-in_default g c = (c.in_default.ensures, refl)

pub returns : goal.returns
returns g c = c.send_back.ensures
