-- What the contracts of this crate cite beside rules' definitions.
pub mod Writing
