-- The bytes of messages, moved from a run into a buffer. What was moved stays where it is, so the order of moving is free.
-- Assumes nothing.
use Rattle.std.specs.Prelude.{◌≡◌, List, ℕ, ◌+◌, ◌*◌, ◌≤◌, ◌<◌, length, get_or}
use Rattle.shelf.specs.declared.Grid.{Grid}
use Rattle.shelf.specs.declared.Steps.{Steps}

-- where byte j of message i stands
abbrev pub at : Steps → ℕ → ℕ → ℕ
at s i j = s.message * i + s.byte * j

-- messages of w bytes, one after another
abbrev pub by_message : ℕ → Steps
by_message w = record { message = w; byte = 1 }

-- the first byte of each of r messages, then the second of each
abbrev pub by_place : ℕ → Steps
by_place r = record { message = 1; byte = r }

abbrev pub size : Grid → ℕ
size g = g.messages * g.width

-- byte j of message i of the run stands in the buffer
abbrev pub There : Grid → List ℕ → List ℕ → ℕ → ℕ → Type 0
There g run out i j = get_or out (at g.write i j) 0 ≡ get_or run (at g.read i j) 0

-- every byte has a place in the run and one of its own among the first of the buffer
pub record Movable (g : Grid) (run out : List ℕ) : Type 0 where
  pub reads : (i j : ℕ) → i < g.messages → j < g.width → at g.read i j < length run
  pub writes : (i j : ℕ) → i < g.messages → j < g.width → at g.write i j < size g
  pub apart : (i j k l : ℕ) → i < g.messages → j < g.width → k < g.messages → l < g.width
      → at g.write i j ≡ at g.write k l → (i ≡ k) × (j ≡ l)
  pub room : size g ≤ length out

-- the bytes from..to of the messages first..last were moved; what was there before is there still, and what stands past
-- the grid is kept
pub record Moved (g : Grid) (first last from to : ℕ) (run out out' : List ℕ) : Type 0 where
  pub long : length out' ≡ length out
  pub past : (k : ℕ) → size g ≤ k → get_or out' k 0 ≡ get_or out k 0
  pub stay : (i j : ℕ) → i < g.messages → j < g.width → There g run out i j → There g run out' i j
  pub moved : (i j : ℕ) → first ≤ i → i < last → from ≤ j → j < to → There g run out' i j
