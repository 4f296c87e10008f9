use Rattle.std.proofs.Common.{sym, ◌∙◌}
use Rattle.dp_cert.proofs.ValidFacts.{option_or-none}
use Rattle.dp_cert.proofs.judge.first_shape.Goals as goal

pub returns-clause-sound : goal.returns-clause-sound
returns-clause-sound g c = λ none.
    let h6 = option_or-none _ _ (sym c.or-6.ensures ∙ none) in
    let h5 = option_or-none _ _ (sym c.or-5.ensures ∙ h6.0) in
    let h4 = option_or-none _ _ (sym c.or-4.ensures ∙ h5.0) in
    let h3 = option_or-none _ _ (sym c.or-3.ensures ∙ h4.0) in
    let h2 = option_or-none _ _ (sym c.or-2.ensures ∙ h3.0) in
    let h1 = option_or-none _ _ (sym c.or.ensures ∙ h2.0) in
    let v = c.first_vertex.ensures in
    let o = c.first_output.ensures in
    record {
      rate = c.rate_condition.ensures.rate h1.0;
      shape = c.form_condition.ensures.nonneg h1.1;
      input = c.input_condition.ensures.enough h3.1;
      rounding = c.round_condition.ensures.enough h4.1;
      surge = record {
        saturated = v.surge_saturated h2.1;
        clamped = v.surge_clamped h2.1;
        free = v.surge_free h2.1;
        output = o.surge h5.1;
        clamped_output = o.surge_clamped h5.1;
      };
      sway = record {
        saturated = v.sway_saturated h2.1;
        clamped = v.sway_clamped h2.1;
        free = v.sway_free h2.1;
        output = o.sway h5.1;
        clamped_output = o.sway_clamped h5.1;
      };
    }
