use Rattle.std.proofs.Common.{refl, subst, ◌∙◌, ◌≡◌, arith, codes, List, [], ◌∷◌}
use Rattle.std.proofs.lemmas.Result.{IfOk-weaker}
use Rattle.std.specs.Result.{IfOk}
use Rattle.clap.specs.declared.builder.arg.Arg.{Arg}
use Rattle.clap.specs.Words.{App, Rule, Text, new_app, with_rule}
use Rattle.command_line.specs.CommandLine.{IsProgram, repeated_rule, versioned}
use Rattle.command_line.specs.Diff.{folder_rule, sip_diff_line}
use Rattle.command_line.proofs.Chain.{AreOwn, line_of, value_given}
use Rattle.command_line.proofs.diff.command.Goals as goal

abbrev names : List Text
names = codes "left" ∷ codes "right" ∷ codes "leave" ∷ []

abbrev with_all : App → Rule → Rule → Rule → App
with_all a l r v = with_rule (with_rule (with_rule a l) r) v

is_line : with_all (versioned (new_app (codes "sip_diff"))) (folder_rule (codes "left")) (folder_rule (codes "right")) (repeated_rule (codes "leave"))
    ≡ sip_diff_line
unfolding sip_diff_line
is_line = refl

pub returns : goal.returns
returns c =
    let l = c.folder.ensures in
    let r = c.folder-2.ensures in
    let v = c.repeated.ensures in
    let xs : List Arg = c.folder.result ∷ c.folder-2.result ∷ c.repeated.result ∷ [] in
    let own : AreOwn names xs = (l.own, (r.own, (v.own, tt))) in
    let made = subst (λ (v : List Arg). IfOk c.program.result (IsProgram (codes "sip_diff") v)) c.in_ok-args.ensures.items c.program.ensures in
    record {
      line = IfOk-weaker c.program.result _ _ (λ cmd is. line_of (codes "sip_diff") names xs cmd is own refl ∙ rw (l.rule, r.rule, v.rule) is_line) made;
      folders = IfOk-weaker c.program.result _ _ (λ cmd is m parsed. record {
        left = value_given (codes "sip_diff") names xs cmd is own refl 0 c.folder.result (omega arith) l.takes _ l.own.0 m parsed;
        right = value_given (codes "sip_diff") names xs cmd is own refl 1 c.folder.result (omega arith) r.takes _ r.own.0 m parsed;
      }) made;
    }
