use Rattle.std.proofs.Common.{◌++◌, string_bytes}
use Rattle.std.proofs.lemmas.Result.{err_from_is_err_and}
use Rattle.outside.proofs.ReadSteps.{behind, here, more, moved}
use Rattle.page_run.specs.Sources.{base_files, base_texts, file_of_why, name_texts, names_in, result_files, result_texts, text_of_why}
use Rattle.page_run.proofs.files.read_all.Goals as goal

pub returns-in_err-names-clause-stops : goal.returns-in_err-names-clause-stops
returns-in_err-names-clause-stops g c =
    let p = err_from_is_err_and c.from_residual.result c.from_residual.ensures.1 in rw (p.1, p.2)
    (here (names_in (string_bytes c.args.options.now.out)) ((result_files c.args.options.now) ++ ((file_of_why c.args.options.now.why) ++ ((base_files c.args.options.now.base (string_bytes c.args.options.now.out))))) _ _ _ (rw (c.as_str.ensures.value) at c.in_err-names.ensures.stops))

pub returns-in_err-result-clause-stops : goal.returns-in_err-result-clause-stops
returns-in_err-result-clause-stops g c =
    let p = err_from_is_err_and c.from_residual-in_err-result.result c.from_residual-in_err-result.ensures.1 in rw (p.1, p.2)
    (behind (names_in (string_bytes c.args.options.now.out)) (name_texts c.in_ok-names.names) ((result_files c.args.options.now) ++ ((file_of_why c.args.options.now.why) ++ ((base_files c.args.options.now.base (string_bytes c.args.options.now.out))))) _ _ _ _ (moved names_in _ _ (name_texts c.in_ok-names.names) _ _ c.as_str.ensures.value c.in_ok-names.ensures.read)
    (here (result_files c.args.options.now) ((file_of_why c.args.options.now.why) ++ ((base_files c.args.options.now.base (string_bytes c.args.options.now.out)))) _ _ _ c.in_err-result.ensures.stops))

pub returns-in_err-why-clause-stops : goal.returns-in_err-why-clause-stops
returns-in_err-why-clause-stops g c =
    let p = err_from_is_err_and c.from_residual-in_err-why.result c.from_residual-in_err-why.ensures.1 in rw (p.1, p.2)
    (behind (names_in (string_bytes c.args.options.now.out)) (name_texts c.in_ok-names.names) ((result_files c.args.options.now) ++ ((file_of_why c.args.options.now.why) ++ ((base_files c.args.options.now.base (string_bytes c.args.options.now.out))))) _ _ _ _ (moved names_in _ _ (name_texts c.in_ok-names.names) _ _ c.as_str.ensures.value c.in_ok-names.ensures.read)
    (behind (result_files c.args.options.now) (result_texts c.in_ok-result.result) ((file_of_why c.args.options.now.why) ++ ((base_files c.args.options.now.base (string_bytes c.args.options.now.out)))) _ _ _ _ c.in_ok-result.ensures.read
    (here (file_of_why c.args.options.now.why) (base_files c.args.options.now.base (string_bytes c.args.options.now.out)) _ _ _ c.in_err-why.ensures.stops)))

pub returns-in_err-base-clause-stops : goal.returns-in_err-base-clause-stops
returns-in_err-base-clause-stops g c =
    let p = err_from_is_err_and c.from_residual-in_err-base.result c.from_residual-in_err-base.ensures.1 in rw (p.1, p.2)
    (behind (names_in (string_bytes c.args.options.now.out)) (name_texts c.in_ok-names.names) ((result_files c.args.options.now) ++ ((file_of_why c.args.options.now.why) ++ ((base_files c.args.options.now.base (string_bytes c.args.options.now.out))))) _ _ _ _ (moved names_in _ _ (name_texts c.in_ok-names.names) _ _ c.as_str.ensures.value c.in_ok-names.ensures.read)
    (behind (result_files c.args.options.now) (result_texts c.in_ok-result.result) ((file_of_why c.args.options.now.why) ++ ((base_files c.args.options.now.base (string_bytes c.args.options.now.out)))) _ _ _ _ c.in_ok-result.ensures.read
    (behind (file_of_why c.args.options.now.why) (text_of_why c.in_ok-why.why) (base_files c.args.options.now.base (string_bytes c.args.options.now.out)) _ _ _ _ c.in_ok-why.ensures.read
    ((rw (c.as_str-2.ensures.value) at c.in_err-base.ensures.stops)))))

pub returns-clause-read : goal.returns-clause-read
returns-clause-read g c =
    more (names_in (string_bytes c.args.options.now.out)) (name_texts c.in_ok-names.names) ((result_files c.args.options.now) ++ ((file_of_why c.args.options.now.why) ++ ((base_files c.args.options.now.base (string_bytes c.args.options.now.out))))) ((result_texts c.in_ok-result.result) ++ ((text_of_why c.in_ok-why.why) ++ ((base_texts c.in_ok-base.base)))) _ _ _ (moved names_in _ _ (name_texts c.in_ok-names.names) _ _ c.as_str.ensures.value c.in_ok-names.ensures.read)
    (more (result_files c.args.options.now) (result_texts c.in_ok-result.result) ((file_of_why c.args.options.now.why) ++ ((base_files c.args.options.now.base (string_bytes c.args.options.now.out)))) ((text_of_why c.in_ok-why.why) ++ ((base_texts c.in_ok-base.base))) _ _ _ c.in_ok-result.ensures.read
    (more (file_of_why c.args.options.now.why) (text_of_why c.in_ok-why.why) (base_files c.args.options.now.base (string_bytes c.args.options.now.out)) (base_texts c.in_ok-base.base) _ _ _ c.in_ok-why.ensures.read
    ((moved (base_files c.args.options.now.base) _ _ (base_texts c.in_ok-base.base) _ _ c.as_str-2.ensures.value c.in_ok-base.ensures.read))))
