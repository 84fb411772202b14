-- Lists of C calls. Read Calls, then Servers; Lines has what is said of pool_line there.
pub mod Calls
pub mod Lines
pub mod Servers
