-- What the contracts of this crate cite besides rules. Read Calls, then Pieces.
pub mod Calls
pub mod Pieces
