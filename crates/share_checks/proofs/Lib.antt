-- Laws of the checks of a share.
pub mod Faults
pub mod Refusing
