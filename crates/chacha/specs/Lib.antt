-- The stream cipher ChaCha20, in the order of RFC 8439; before it the operations on words, behind it the RFC's test vectors.
pub mod Words
pub mod ChaCha
pub mod Vectors
