use Rattle.std.proofs.Common.{◌≡◌, ◌≢◌, sym}
use Rattle.dp_plant.specs.FrameRanges.{IsFrameInRange}
use Rattle.dp_plant.specs.declared.voting.Mode.TheVariants.{Off}
use Rattle.dp_exchange.specs.ComputerState.{ComputerState, mode_of}
use Rattle.dp_core.proofs.Lists.{second-kept, third-kept}
use Rattle.dp_core.proofs.world.advance_all.Goals as goal

pub advance-requires-2-clause-within : goal.advance-requires-2-clause-within
advance-requires-2-clause-within c =
    second-kept (λ (x : ComputerState). IsFrameInRange x.plant.groups c.args.f.now) c.args.computers.now _ _ c.told-computers c.requires.within

pub advance-requires-3-clause-next : goal.advance-requires-3-clause-next
advance-requires-3-clause-next c =
    third-kept (λ (x : ComputerState). mode_of x.control ≢ Off → c.args.f.now.cycle ≡ x.next) c.args.computers.now _ _ _ c.told-computers (λ k x at on. sym (c.requires.in_step k x at on))

pub advance-requires-3-clause-within : goal.advance-requires-3-clause-within
advance-requires-3-clause-within c =
    third-kept (λ (x : ComputerState). IsFrameInRange x.plant.groups c.args.f.now) c.args.computers.now _ _ _ c.told-computers c.requires.within
