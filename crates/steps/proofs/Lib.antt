-- Laws that callers cite: words at equal steps, parts of a run, tests that hold together or one after another.
pub mod Every
pub mod Parts
pub mod Words
