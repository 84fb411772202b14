-- Numbers as bytes, parts of a buffer, and runs of elements. All definitions are in Bytes.
pub mod Bytes
