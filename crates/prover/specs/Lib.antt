-- What the contracts of this crate cite besides algebra, rules, field and walk.
pub mod Curves
pub mod Tables
