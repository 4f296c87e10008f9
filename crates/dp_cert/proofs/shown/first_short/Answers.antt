use Rattle.std.proofs.Common.{◌∙◌}
use Rattle.dp_cert.proofs.ShownFirst.{short_is, nonneg_where_none}
use Rattle.dp_cert.proofs.shown.first_short.Goals as goal

pub returns-clause-value : goal.returns-clause-value
returns-clause-value g c = c.err.ensures.value ∙ short_is c.args.s.now.at c.args.w.now.list.items c.is_nonneg.result c.is_nonneg.ensures.shown c.is_nonneg.ensures.not_shown

pub returns-clause-nonneg : goal.returns-clause-nonneg
returns-clause-nonneg g c = λ none. nonneg_where_none c.is_nonneg.result _ (c.err.ensures.value) none c.is_nonneg.ensures.nonneg
