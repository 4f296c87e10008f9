use Rattle.std.proofs.Common.{◌≡◌, ◌≢◌, sym}
use Rattle.dp_plant.specs.FrameRanges.{IsFrameInRange}
use Rattle.dp_plant.specs.declared.voting.Mode.TheVariants.{Off}
use Rattle.dp_exchange.specs.ComputerState.{ComputerState, mode_of}
use Rattle.dp_core.proofs.Lists.{second-kept, third-kept}
use Rattle.dp_core.proofs.world.wire_all.Goals as goal

pub hear-requires-2-clause-within : goal.hear-requires-2-clause-within
hear-requires-2-clause-within c =
    second-kept (λ (x : ComputerState). IsFrameInRange x.plant.groups c.args.f.now) c.args.computers.now _ _ c.told-computers c.requires.within

pub hear-requires-3-clause-next : goal.hear-requires-3-clause-next
hear-requires-3-clause-next c =
    third-kept (λ (x : ComputerState). mode_of x.control ≢ Off → c.args.f.now.cycle ≡ x.next) c.args.computers.now _ _ _ c.told-computers (λ k x at on. sym (c.requires.in_step k x at on))

pub hear-requires-3-clause-within : goal.hear-requires-3-clause-within
hear-requires-3-clause-within c =
    third-kept (λ (x : ComputerState). IsFrameInRange x.plant.groups c.args.f.now) c.args.computers.now _ _ _ c.told-computers c.requires.within
