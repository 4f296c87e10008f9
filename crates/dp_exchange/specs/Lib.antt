pub mod SameState
pub mod Offers
pub mod ComputerState
pub mod OfferTexts
pub mod Inside
pub use Rattle.dp_exchange.specs.SameState.{SameStatesAreEqual, is_same}
pub use Rattle.dp_exchange.specs.Offers.{is_confirmed, no_offers, offers_same, told_state}
pub use Rattle.dp_exchange.specs.ComputerState.{InControl, after_offer, after_restart, after_run, after_skew, after_stop, after_upgrade, after_wire, first_computer, is_live, mode_of, offer_answer, offered_by, oldest, run_answer, skew_answer, text_at, told_text, wire_answer}
pub use Rattle.dp_exchange.specs.Inside.{IsComputer, computer_state}
