-- What antt computes: the examples, and the facts of document 01's setting.
pub mod Computing
pub mod Examples
pub mod TableExamples
pub mod Facts
