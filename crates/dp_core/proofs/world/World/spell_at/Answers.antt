use Rattle.std.proofs.Common.{◌≡◌, ◌∙◌, Some, ap, arith, sym, subst}
use Rattle.std.specs.Prelude.{slice_get}
use Rattle.dp_exchange.specs.ComputerState.{ComputerState, text_at}
use Rattle.dp_core.specs.WorldState.{WorldState}
use Rattle.dp_core.proofs.Lists.{read-at}
use Rattle.dp_core.proofs.Tells.{spelling-shown}
use Rattle.dp_core.proofs.world.World.spell_at.Goals as goal

pub returns-clause-text : goal.returns-clause-text
returns-clause-text c = λ es r.
    let w = c.args.self.now in
    let items = c.self.inside.computers in
    let same = ap (λ (w : WorldState). w.computers) c.self.view_is in
    let three = c.self.told in
    let x = c.index-self-c.result in
    let at : slice_get items c.args.c ≡ Some x = read-at items c.args.c x (omega (arith, three, c.requires)) c.index-self-c.is in
    let there : slice_get w.computers c.args.c ≡ Some x = subst (λ ws. slice_get ws c.args.c ≡ Some x) same at in
    spelling-shown es w c.args.c x c.args.at c.spell_at.new.into.items there (c.spell_at.ensures.text ∙ ap (λ (z : ComputerState). text_at z c.args.at) (sym c.index-self-c.is)) r
