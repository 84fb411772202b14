-- What the contracts of this crate cite besides rules, sheet and values.
pub mod Listing
