-- What the contracts of this crate cite besides rules.
pub mod Stages
pub mod Soundness
pub mod Held
pub mod Changes
