use Rattle.std.proofs.Common.{ap, sym, []}
use Rattle.std.proofs.lemmas.Result.{err_from_is_err_and}
use Rattle.read_set.specs.Owing.{owed_at}
use Rattle.read_set.specs.Asks.{Give, Done}
use Rattle.read_set.specs.Blocks.{blocked_by}
use Rattle.read_set.proofs.Following.{follow_then, stop_then}
use Rattle.read_set.proofs.Gaining.{gains_first}
use Rattle.message_meaning.proofs.blocks.block_known.Goals as goal

pub returns-in_err-owes-clause-gives : goal.returns-in_err-owes-clause-gives
returns-in_err-owes-clause-gives g c =
    let p = err_from_is_err_and c.from_residual.result c.from_residual.ensures.1 in
    let stops = rw (c.new.ensures, c.as_slice.ensures, c.get.ensures) at c.in_err-owes.ensures.gives in
    rw (p.1, p.2) (stop_then _ (owed_at [] c.args.member.patron.fees) (λ owes. Give (blocked_by c.args.asked.now.policy.now c.args.asked.now.blocks c.args.asked.now.id.now c.args.asked.now.date c.args.member owes)) _ stops)

pub returns-clause-gives : goal.returns-clause-gives
returns-clause-gives g c =
    let first = rw (c.new.ensures, c.as_slice.ensures, c.get.ensures) at c.in_ok-owes.ensures.gives in
    follow_then _ (owed_at [] c.args.member.patron.fees) (λ owes. Give (blocked_by c.args.asked.now.policy.now c.args.asked.now.blocks c.args.asked.now.id.now c.args.asked.now.date c.args.member owes)) c.in_ok-owes.owes _
    first (ap Done (sym c.in_ok-block_member.ensures))

pub returns-in_err-owes-clause-keeps : goal.returns-in_err-owes-clause-keeps
returns-in_err-owes-clause-keeps g c =
    let first = rw (c.new.ensures, c.as_slice.ensures, c.get.ensures) at c.in_err-owes.ensures.keeps in
    gains_first _ _ (owed_at [] c.args.member.patron.fees) (λ owes. Give (blocked_by c.args.asked.now.policy.now c.args.asked.now.blocks c.args.asked.now.id.now c.args.asked.now.date c.args.member owes)) first

pub returns-clause-keeps : goal.returns-clause-keeps
returns-clause-keeps g c =
    let first = rw (c.new.ensures, c.as_slice.ensures, c.get.ensures) at c.in_ok-owes.ensures.keeps in
    gains_first _ _ (owed_at [] c.args.member.patron.fees) (λ owes. Give (blocked_by c.args.asked.now.policy.now c.args.asked.now.blocks c.args.asked.now.id.now c.args.asked.now.date c.args.member owes)) first

pub returns-in_err-block_member-clause-keeps : goal.returns-in_err-block_member-clause-keeps
returns-in_err-block_member-clause-keeps g c =
    let first = rw (c.new.ensures, c.as_slice.ensures, c.get.ensures) at c.in_ok-owes.ensures.keeps in
    gains_first _ _ (owed_at [] c.args.member.patron.fees) (λ owes. Give (blocked_by c.args.asked.now.policy.now c.args.asked.now.blocks c.args.asked.now.id.now c.args.asked.now.date c.args.member owes)) first
