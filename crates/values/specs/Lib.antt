-- What the contracts of this crate cite besides rules and sheet.
pub mod Encode
