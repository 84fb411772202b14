-- What the contracts of this crate cite besides rules. Read Calls; One is what the functions below the call go by.
pub mod One
pub mod Calls
