pub mod FirstLine
pub mod FirstPart
pub mod Digits
pub mod Places
pub mod Signs
pub mod JoinedParts
pub mod Decimals
