-- Laws of the waiting list: places and counts from a place on, the limits, what a call leaves.
pub mod Places
pub mod Limits
pub mod Changes
