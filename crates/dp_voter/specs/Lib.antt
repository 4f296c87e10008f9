pub mod VoterState
pub mod View
pub mod Orders
pub mod Ballots
pub mod Laws
pub use Rattle.dp_voter.specs.VoterState.{begun, new_voter}
pub use Rattle.dp_voter.specs.View.{view_of}
pub use Rattle.dp_voter.specs.Orders.{IsReasonFor, answer_of, ordered}
pub use Rattle.dp_voter.specs.Ballots.{IsDue, agreed_of, ballot_of, held_forces, voted}
pub use Rattle.dp_voter.specs.Laws.{AnswerHasReason, FreshIsBetween, FreshIsRight, FreshIsWithin, OrdersStayWithin, SecondVoteIsFirst, TwoEqualDecide, TwoRightAreFresh}
