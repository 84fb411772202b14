-- What the exported kernels take, answer and leave.
pub mod Outcomes
