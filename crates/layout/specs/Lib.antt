-- What the contracts of this crate cite besides rules. Read Places, then Numbers, then Writing.
pub mod Places
pub mod Numbers
pub mod Writing
