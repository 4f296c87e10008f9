pub mod AxisAnswers
pub mod AxisRanges
pub mod ThreeAnswers
