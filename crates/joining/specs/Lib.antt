-- What joining comes to, in the numbers of code.
pub mod Calls
