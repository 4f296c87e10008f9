use Rattle.std.proofs.Common.{rules, ap, ap₂, codes, true, Some, [], ◌≡◌, ◌∙◌}
use Rattle.std.proofs.lemmas.Result.{IfOk-weaker}
use Rattle.clap.specs.Lexer.{usize_max}
use Rattle.clap.specs.Words.{App, Rule, app_of, rule_of, with_rule}
use Rattle.clap.specs.Simple.{app_of_fields, new_shape, on_top}
use Rattle.dp_app.specs.CommandLine.{first_rule, rest_rule}
use Rattle.dp_app.proofs.ReadWords.{some_and}
use Rattle.dp_app.proofs.command_line.simple_command.Goals as goal

abbrev named : App
named = record { top = record (new_shape (codes "dp")) { no_binary_name = true }; subs = [] }

abbrev bare : App
bare = record { top = record (new_shape (codes "dp")) { no_binary_name = true; disable_help_flag = true }; subs = [] }

pub returns : goal.returns
returns c =
    let first_is : rule_of c.required-first.result ≡ first_rule = search rules in
    let range_is : c.num_args-rest.result.num_vals ≡ Some (record { start_inclusive = 0; end_inclusive = usize_max }) = some_and _ _ (search (rules, c.num_args-rest.ensures)) in
    let rest_is : rule_of c.num_args-rest.result ≡ rest_rule = ap rule_of c.num_args-rest.ensures.0 ∙ ap₂ (λ (r : Rule) n. record r { range = n }) c.new-2.ensures.rule range_is in
    let named_is : app_of c.no_binary_name.result ≡ named = ap app_of_fields c.no_binary_name.ensures ∙ ap (on_top (λ s. record s { no_binary_name = true })) c.new-3.ensures.app in
    let bare_is : app_of c.disable_help_flag-command.result ≡ bare = ap app_of_fields c.disable_help_flag-command.ensures ∙ ap (on_top (λ s. record s { disable_help_flag = true })) named_is in
    let one_is : app_of c.in_ok-arg.field-0 ≡ with_rule bare first_rule = c.in_ok-arg.ensures.shape (search rules) ∙ ap₂ with_rule bare_is first_is in
    IfOk-weaker c.arg-2.result _ _ (λ r h. h.shape (search rules) ∙ ap₂ with_rule one_is rest_is) c.arg-2.ensures
