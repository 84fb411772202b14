-- What the contracts of this crate cite besides algebra and field.
pub mod Lengths
