-- What the contracts of this crate cite besides rules. Read Calls; Totals is what the functions below the call go by.
pub mod Totals
pub mod Calls
