-- What the call answers, from what the reader of a table finds.
pub mod Telling
