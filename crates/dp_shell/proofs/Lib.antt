pub mod OneName
pub mod Places
pub mod Prefixes
pub mod Taken
