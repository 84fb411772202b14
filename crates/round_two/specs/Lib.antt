-- What the contracts of this crate cite besides rules. Read Calls; Two is what the functions below the call go by.
pub mod Two
pub mod Calls
