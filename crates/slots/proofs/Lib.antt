-- Laws of the eight records.
pub mod Eight
