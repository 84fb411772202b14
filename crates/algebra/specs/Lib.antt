-- Mathematics that the rest rests on, with nothing of the pool in it.
-- Read Prime, Ops, Modulo, Sums, Polynomial, Interpolation, Count and Lists for the definitions, then Claims.
pub mod Lists
pub mod Prime
pub mod Ops
pub mod Modulo
pub mod Sums
pub mod Polynomial
pub mod Interpolation
pub mod Count
pub mod Claims
