-- Laws of the limits.
pub mod Sheets
