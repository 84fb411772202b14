-- Laws of taking a share.
pub mod Reading
pub mod Working
pub mod Taken
pub mod Sharing
