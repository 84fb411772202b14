-- Document 01, "Field and bytes", and document 02, short shares from seeds: the numbers that a second prime would change.
-- Assumes nothing.
use Rattle.std.specs.Prelude.{ℕ, ◌+◌, ◌*◌, ◌^◌, ◌≤◌, ◌<◌}
use Rattle.algebra.specs.Prime.{Prime}

pub record Setting : Type 0 where
  -- p
  pub modulus : ℕ
  -- the bytes of an element
  pub width : ℕ
  -- the most bytes of a circuit
  pub circuit_limit : ℕ
  -- the first byte of a totals message
  pub totals_byte : ℕ
  -- the first byte of a table
  pub table_byte : ℕ
  -- the bytes of a word of a seed's key stream, and how many of its bits count
  pub stream_width : ℕ
  pub stream_bits : ℕ

-- "p = 2147483647. An element is a whole number from 0 to p - 1. Elements travel as 4 bytes." "Each 4 stream bytes, with the top bit
-- cleared, are taken modulo p."
abbrev pub document01 : Setting
document01 = record {
  modulus = 2147483647;
  width = 4;
  circuit_limit = 17920;
  totals_byte = 36;
  table_byte = 3;
  stream_width = 4;
  stream_bits = 31;
}

-- What the theorems assume of a setting
pub record Facts (σ : Setting) : Type 0 where
  pub prime : Prime σ.modulus
  -- points up to 513 differ, the sum of two numbers of 24 bits fits, 64 ones do not wrap
  pub large : 33554432 < σ.modulus
  -- an element fits its bytes
  pub fits : σ.modulus ≤ 256 ^ σ.width
  -- the circuit of every sheet with at most 256 entries fits
  pub roomy : 1 + σ.width + 256 * (24 + 2 * σ.width) ≤ σ.circuit_limit
  -- a totals message is no round message, and its first byte and a table's are bytes
  pub apart : 35 < σ.totals_byte
  pub totals_fits : σ.totals_byte < 256
  pub table_fits : σ.table_byte < 256
  -- a word of a stream has bytes
  pub stream_word : 0 < σ.stream_width
