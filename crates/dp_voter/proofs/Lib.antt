mod Limits
mod Reasons
mod Right
