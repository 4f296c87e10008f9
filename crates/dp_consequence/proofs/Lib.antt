pub mod Numbers
pub mod Boxes
