use Rattle.std.proofs.Common.{refl, subst, ◌∙◌, ◌≡◌, arith, codes, List, [], ◌∷◌}
use Rattle.std.proofs.lemmas.Result.{IfOk-weaker}
use Rattle.std.specs.Result.{IfOk}
use Rattle.clap.specs.declared.builder.arg.Arg.{Arg}
use Rattle.clap.specs.Words.{App, Rule, Text, new_app, with_rule}
use Rattle.command_line.specs.CommandLine.{IsProgram, flag_rule, number_rule, path_rule, sip_replay_line, versioned}
use Rattle.command_line.proofs.Chain.{AreOwn, line_of, value_given}
use Rattle.command_line.proofs.words.command.Goals as goal

abbrev names : List Text
names = codes "policy" ∷ codes "base" ∷ codes "journal" ∷ codes "out" ∷ codes "workers" ∷ codes "explain" ∷ codes "check" ∷ codes "as-recorded" ∷ []

abbrev with_all : App → Rule → Rule → Rule → Rule → Rule → Rule → Rule → Rule → App
with_all a p b j o w e k r = with_rule (with_rule (with_rule (with_rule (with_rule (with_rule (with_rule (with_rule a p) b) j) o) w) e) k) r

is_line : with_all (versioned (new_app (codes "sip_replay"))) (path_rule (codes "policy")) (path_rule (codes "base")) (path_rule (codes "journal"))
    (path_rule (codes "out")) (number_rule (codes "workers")) (flag_rule (codes "explain")) (flag_rule (codes "check")) (flag_rule (codes "as-recorded")) ≡ sip_replay_line
unfolding sip_replay_line
is_line = refl

pub returns : goal.returns
returns c =
    let p = c.path.ensures in
    let b = c.path-2.ensures in
    let j = c.path-3.ensures in
    let o = c.path-4.ensures in
    let w = c.number.ensures in
    let e = c.flag.ensures in
    let k = c.flag-2.ensures in
    let r = c.flag-3.ensures in
    let xs : List Arg = c.path.result ∷ c.path-2.result ∷ c.path-3.result ∷ c.path-4.result ∷ c.number.result ∷ c.flag.result ∷ c.flag-2.result ∷ c.flag-3.result ∷ [] in
    let own : AreOwn names xs = (p.own, (b.own, (j.own, (o.own, (w.own, (e.own, (k.own, (r.own, tt)))))))) in
    let made = subst (λ (v : List Arg). IfOk c.program.result (IsProgram (codes "sip_replay") v)) c.in_ok-args.ensures.items c.program.ensures in
    record {
      line = IfOk-weaker c.program.result _ _ (λ cmd is.
          line_of (codes "sip_replay") names xs cmd is own refl ∙ rw (p.rule, b.rule, j.rule, o.rule, w.rule, e.rule, k.rule, r.rule) is_line) made;
      paths = IfOk-weaker c.program.result _ _ (λ cmd is m parsed. record {
        policy = value_given (codes "sip_replay") names xs cmd is own refl 0 c.path.result (omega arith) p.takes _ p.own.0 m parsed;
        base = value_given (codes "sip_replay") names xs cmd is own refl 1 c.path.result (omega arith) b.takes _ b.own.0 m parsed;
        journal = value_given (codes "sip_replay") names xs cmd is own refl 2 c.path.result (omega arith) j.takes _ j.own.0 m parsed;
        out = value_given (codes "sip_replay") names xs cmd is own refl 3 c.path.result (omega arith) o.takes _ o.own.0 m parsed;
      }) made;
    }
