-- A proof that says `unfolding chacha20` computes with all definitions of this crate: unfolding a definition unfolds what its own line
-- names. Assumes nothing.
use Rattle.algebra.specs.Lists.{tabulate, count_from}
use Rattle.words.specs.Bytes.{bytes_of, bytes_of_all, value_of, elements_of, same_bytes}
use Rattle.chacha.specs.Words.{plus, xor, rotated}
use Rattle.chacha.specs.ChaCha.{step, quarter_round, columns, diagonals, rounds, state, sums, mixed, block, stream}

unfoldable pub chacha20 : Unit {0}
unfolding tabulate count_from bytes_of bytes_of_all value_of elements_of same_bytes plus xor rotated step quarter_round columns diagonals
    rounds state sums mixed block stream
chacha20 = tt
