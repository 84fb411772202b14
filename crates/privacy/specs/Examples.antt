-- Document 02, what a curious server learns: a yes/no column at the prime 3, where all choices of the random elements can be tried.
-- proofs/Counts has the counts, and proofs/Examples a case at document 01's prime.
-- Assumes nothing.
use Rattle.std.specs.Prelude.{List, [], ◌∷◌, ◌++◌, ℕ}
use Rattle.rules.specs.Settings.{Setting}
use Rattle.privacy.specs.Choices.{count_choices}
use Rattle.privacy.specs.Sight.{Case, share_from, sight, same_sight}
use Rattle.privacy.specs.Hidden.{choices_of}

-- the sheet 17, with the pair r and s
abbrev pub yes_no_case : ℕ → ℕ → ℕ → ℕ → Case
yes_no_case servers r s left_out = record {
  sheet = 17 ∷ [];
  servers = servers;
  returns = 3;
  least = 1;
  id = 77;
  r = r;
  s = s;
  left_out = left_out;
}

-- the prime 3: elements 0, 1 and 2, of one byte
abbrev pub three : Setting
three = record {
  modulus = 3;
  width = 1;
  circuit_limit = 100;
  totals_byte = 36;
  table_byte = 3;
  stream_width = 4;
  stream_bits = 31;
}

-- the choice u_0 = 1, v_0 = 2, a = 0, b = 1; and a share for server 1
abbrev pub first_four : List ℕ
first_four = 1 ∷ 2 ∷ 0 ∷ 1 ∷ []

abbrev pub share_one : List ℕ
share_one = 2 ∷ 0 ∷ 1 ∷ 1 ∷ 2 ∷ 0 ∷ 2 ∷ 1 ∷ 1 ∷ []

-- One server: how many of the 81 choices show with the entry x what the choice above shows with the entry 0, "no"
unfoldable pub like_no : ℕ → ℕ → ℕ
like_no left_out x =
    let c = yes_no_case 1 2 1 left_out in
    choices_of three c (share_from three c (x ∷ [])) (same_sight (sight three c (share_from three c (0 ∷ []) first_four)))

-- Two servers, of which server 1 has the share above: the same, of the 81 choices of u_0, v_0, a and b
unfoldable pub like_no_beside : ℕ → ℕ → ℕ
like_no_beside left_out x =
    let c = yes_no_case 2 2 1 left_out in
    let seen = sight three c (share_from three c (0 ∷ []) (first_four ++ share_one)) in
    count_choices 3 4 (λ zs. same_sight seen (sight three c (share_from three c (x ∷ []) (zs ++ share_one))))
