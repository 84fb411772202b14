-- Laws of dropping and closing.
pub mod Dropping
pub mod Closing
