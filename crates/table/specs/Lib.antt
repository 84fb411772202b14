-- What the contracts of this crate cite besides rules and layout.
pub mod Reading
pub mod Deciding
