use Rattle.std.proofs.Common.{◌∙◌, ℕ}
use Rattle.std.proofs.lemmas.List.{map-set}
use Rattle.arrayvec.specs.ArrayVec.{ArrayVec}
use Rattle.dp_exchange.proofs.offers.Offers.keep.Goals as goal

pub returns-clause-text : goal.returns-clause-text
returns-clause-text c = map-set (λ (t : ArrayVec ℕ). t.items) c.self.inside.texts c.args.from _ ∙ rw (c.write_state.ensures.text, c.self.view_is)
