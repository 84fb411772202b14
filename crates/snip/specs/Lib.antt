-- What the contracts of this crate cite besides algebra, rules and field.
pub mod Judged
