-- What the crate's code answers, in the numbers of code: the line of totals, and the call. Read Numbers, then Calls.
pub mod Numbers
pub mod Calls
