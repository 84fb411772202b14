-- What the contracts of this crate cite besides rules and waiting.
pub mod Waits
pub mod Named
