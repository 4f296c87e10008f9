pub mod Means
pub mod Hulls
pub mod Lists
pub mod Middles
