use Rattle.std.proofs.Common.{refl, subst, ◌∙◌, ◌≡◌, arith, codes, List, [], ◌∷◌}
use Rattle.std.proofs.lemmas.Result.{IfOk-weaker}
use Rattle.std.specs.Result.{IfOk}
use Rattle.clap.specs.declared.builder.arg.Arg.{Arg}
use Rattle.clap.specs.Words.{App, Rule, Text, new_app, with_rule}
use Rattle.command_line.specs.CommandLine.{IsProgram, number_rule, optional_rule, path_rule, versioned}
use Rattle.command_line.specs.Page.{sip_page_line}
use Rattle.command_line.proofs.Chain.{AreOwn, line_of, value_given}
use Rattle.command_line.proofs.page.command.Goals as goal

abbrev names : List Text
names = codes "journal" ∷ codes "base" ∷ codes "out" ∷ codes "why" ∷ codes "limit" ∷ []

abbrev with_all : App → Rule → Rule → Rule → Rule → Rule → App
with_all a j b o w l = with_rule (with_rule (with_rule (with_rule (with_rule a j) b) o) w) l

is_line : with_all (versioned (new_app (codes "sip_page"))) (path_rule (codes "journal")) (optional_rule (codes "base")) (path_rule (codes "out"))
    (optional_rule (codes "why")) (number_rule (codes "limit")) ≡ sip_page_line
unfolding sip_page_line
is_line = refl

pub returns : goal.returns
returns c =
    let j = c.path.ensures in
    let b = c.optional.ensures in
    let o = c.path-2.ensures in
    let w = c.optional-2.ensures in
    let l = c.number.ensures in
    let xs : List Arg = c.path.result ∷ c.optional.result ∷ c.path-2.result ∷ c.optional-2.result ∷ c.number.result ∷ [] in
    let own : AreOwn names xs = (j.own, (b.own, (o.own, (w.own, (l.own, tt))))) in
    let made = subst (λ (v : List Arg). IfOk c.program.result (IsProgram (codes "sip_page") v)) c.in_ok-args.ensures.items c.program.ensures in
    record {
      line = IfOk-weaker c.program.result _ _ (λ cmd is.
          line_of (codes "sip_page") names xs cmd is own refl ∙ rw (j.rule, b.rule, o.rule, w.rule, l.rule) is_line) made;
      paths = IfOk-weaker c.program.result _ _ (λ cmd is m parsed. record {
        journal = value_given (codes "sip_page") names xs cmd is own refl 0 c.path.result (omega arith) j.takes _ j.own.0 m parsed;
        out = value_given (codes "sip_page") names xs cmd is own refl 2 c.path.result (omega arith) o.takes _ o.own.0 m parsed;
      }) made;
    }
