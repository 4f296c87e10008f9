pub mod Moment
pub mod Mode
pub mod Offered
pub mod Trajectory
pub mod HeldOffers
pub mod Voting
pub mod CycleAlarms
pub mod History
pub mod Faulty
pub mod OwnForce
pub mod OnReference
pub mod Shown
pub mod WorldState
pub mod WorldView
pub mod Several
pub mod Laws
pub mod Represents
pub use Rattle.dp_exchange.specs.{after_offer, after_restart, after_run, after_skew, after_stop, after_upgrade, after_wire, first_computer, is_live, mode_of, offer_answer, offered_by, run_answer, skew_answer, text_at, told_text, wire_answer}
pub use Rattle.dp_core.specs.Mode.{mode, software}
pub use Rattle.dp_core.specs.HeldOffers.{offered}
pub use Rattle.dp_core.specs.Trajectory.{last_issue, steps, trajectory}
pub use Rattle.dp_core.specs.Voting.{answer, answer_if, ballot, given_ballot, message_of, taken_force, taken_forces}
pub use Rattle.dp_core.specs.CycleAlarms.{alarms_in, cycle_alarms}
pub use Rattle.dp_core.specs.History.{answer_in, answer_to_offer, answer_to_run, answers_to_wire, history, seen_of}
pub use Rattle.dp_core.specs.Shown.{IsLeftOf, IsMachineOf, spelling_at}
pub use Rattle.dp_core.specs.Faulty.{AtMostOneFaulty}
pub use Rattle.dp_core.specs.WorldState.{IsAllowed, after, after_order, change_at, last_of, message_by, text_answer, voter_of, with_text}
pub use Rattle.dp_core.specs.Several.{order_events, sent, sent_by}
pub use Rattle.dp_core.specs.WorldView.{IsInStep, IsWorld, world_of}
pub use Rattle.dp_core.specs.Laws.{AdoptedIsReference, FreshIsReference, HeldIsOwn, SkewedIsFaulty, TakenIsOwn, TrajectoriesAreReference, TwoHeardAreFresh}
-- what a world's contracts name of the crates below, and of the types
pub use Rattle.std.specs.Option.{option_map}
pub use Rattle.dp_plant.specs.{IsFrameInRange, IsVectorWithin}
pub use Rattle.dp_machine.specs.{IsAcceptedPlant}
pub use Rattle.dp_machine.specs.Machine.{MachineValue}
pub use Rattle.dp_machine.specs.declared.state.State.{State}
pub use Rattle.dp_codec.specs.{IsSoftware, state_read}
pub use Rattle.dp_exchange.specs.ComputerState.{ComputerState, InControl}
pub use Rattle.dp_exchange.specs.{told_state}
pub use Rattle.dp_plant.specs.declared.thrusters.Thruster.{Thruster}
pub use Rattle.dp_voter.specs.{answer_of, begun}
pub use Rattle.dp_voter.specs.VoterState.{VoterState}
pub use Rattle.dp_core.specs.declared.event.Event.{Event}
