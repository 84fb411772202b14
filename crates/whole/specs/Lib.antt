-- What the contracts of this crate cite besides rules.
pub mod Pieces
