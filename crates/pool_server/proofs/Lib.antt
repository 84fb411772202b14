-- What the C functions' promises need of the calls': eight records or none.
pub mod Eight
pub mod Facts
