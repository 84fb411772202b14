-- What the contracts of this crate cite besides rules. Read Calls, then Taking.
pub mod Calls
pub mod Taking
