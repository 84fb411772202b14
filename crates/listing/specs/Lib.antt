-- What the functions that write text do to a buffer.
pub mod Text
