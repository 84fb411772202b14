pub mod Numbers
pub mod Splice
pub mod Elements
pub mod Below
pub mod Same
pub mod Loops
