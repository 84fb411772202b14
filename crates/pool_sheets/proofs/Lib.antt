pub mod Sheets
pub mod Circuits
pub mod EveryReturns
