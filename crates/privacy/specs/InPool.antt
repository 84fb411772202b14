-- Document 02, what a curious server learns: "All servers keep the rules and the workshop makes the return by document 01." What ties a
-- sight to whole runs: at the servers of a pool it is what they are handed and write of a return that making wrote.
-- Assumes nothing.
use Rattle.std.specs.Prelude.{◌≡◌, List, ◌++◌, map, ℕ}
use Rattle.words.specs.Bytes.{elements_of}
use Rattle.rules.specs.Settings.{Setting}
use Rattle.rules.specs.Pools.{Pool}
use Rattle.rules.specs.WholeRun.{firsts, seconds}
use Rattle.rules.specs.Made.{made_part, share_made, MadeAccepted}
use Rattle.privacy.specs.Sight.{Case, others, sight}
use Rattle.privacy.specs.Hidden.{Fits}

-- one return and its pair at the servers of a pool
module _ (σ : Setting) (𝓟 : Pool σ) (id r s left_out : ℕ) where
  abbrev pub case_in : Case
  case_in = record {
    sheet = 𝓟.sheet;
    servers = 𝓟.servers;
    returns = 𝓟.returns;
    least = 𝓟.least;
    id = id;
    r = r;
    s = s;
    left_out = left_out;
  }

  module _ (values random : List ℕ) where
    -- the values and the random elements as numbers, and the shares of them
    abbrev vs : List ℕ
    vs = elements_of 4 values

    abbrev zs : List ℕ
    zs = elements_of σ.width random

    abbrev shares : ℕ → List ℕ
    shares = share_made σ 𝓟.sheet 𝓟.servers id vs zs

    -- server i's part of the bytes that making wrote
    abbrev parts : ℕ → List ℕ
    parts = made_part σ 𝓟.sheet 𝓟.servers id values random

    -- CLAIM, of a return that making wrote with long shares, where the buffers for messages have the given room
    pub record SeenInPool (room roundRoom : ℕ) : Type 0 where
      pub fits : Fits σ case_in
      -- a sight is the others' parts of the bytes that making wrote, and the messages of both rounds
      pub sight_is : sight σ case_in shares
          ≡ map parts (others case_in)
          ++ (firsts σ 𝓟 id shares r s ++ seconds σ 𝓟 id shares r s)
      -- each server, handed its part of these bytes, the messages of both rounds and the entry, writes its own two of them, accepts and
      -- enters
      pub accepted : MadeAccepted σ 𝓟 id vs zs parts r s room roundRoom
