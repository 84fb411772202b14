-- The setting of document 01 has the facts that the theorems assume of a setting: 2147483647 is a prime, and the rest
-- are comparisons of numbers. Assumes nothing.
use lib.Dec.{lit<, lit≤}
use Rattle.algebra.proofs.Trial.{prime_2147483647}
use Rattle.rules.specs.Settings.{document01, Facts}

pub document01_facts : Facts document01
document01_facts = record {
  prime = prime_2147483647;
  large = lit< tt;
  fits = lit≤ tt;
  roomy = lit≤ tt;
  apart = lit< tt;
  totals_fits = lit< tt;
  table_fits = lit< tt;
  stream_word = lit< tt;
}
