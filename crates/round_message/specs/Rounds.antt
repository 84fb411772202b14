-- A round by its kind byte, and joined round messages: what the functions over them ask for.
-- Assumes nothing.
use Rattle.std.specs.Prelude.{◌≡◌, Bool, List, ℕ, ◌+◌, ◌*◌, ◌≤◌, ◌<◌, length}
use Rattle.algebra.specs.Lists.{every, count_from}
use Rattle.rules.specs.Settings.{document01}
use Rattle.rules.specs.Messages.{round_elements, round_length, element_in, place_in, place_sound}
use Rattle.round_message.specs.declared.Round.{Round}
use Rattle.round_message.specs.declared.Round.TheVariants as which

-- the kind byte of a round's messages
abbrev pub code_of : Round → ℕ
code_of which.One = 34
code_of which.Two = 35

-- S is at most 8, and the server is one of them
pub record Placed (servers own : ℕ) : Type 0 where
  pub few : servers ≤ 8
  pub one : own < servers

-- so many places of a round's messages, at most 8
pub record Places (kind i : ℕ) (joined : List ℕ) : Type 0 where
  pub few : i ≤ 8
  pub long : round_length document01 kind * i ≤ length joined

-- and a message at the next
pub record InPlace (kind i : ℕ) (joined : List ℕ) : Type 0 where
  pub few : i ≤ 8
  pub long : round_length document01 kind * i + round_length document01 kind ≤ length joined

-- the messages are S of a round's
pub record Whole (servers kind : ℕ) (joined : List ℕ) : Type 0 where
  pub few : servers ≤ 8
  pub long : length joined ≡ round_length document01 kind * servers

-- each place is sound
unfoldable pub all_sound : ℕ → ℕ → ℕ → ℕ → List ℕ → List ℕ → Bool
all_sound servers kind id own mine joined = every (place_sound document01 servers kind id own mine joined) (count_from 0 servers)

-- joined messages that can be summed: their elements are below p
pub record Summable (servers kind : ℕ) (joined : List ℕ) : Type 0 where
  pub long : length joined ≡ round_length document01 kind * servers
  pub below : (k i : ℕ) → k < round_elements kind → i < servers
      → element_in document01 k (place_in document01 kind joined i) < document01.modulus
