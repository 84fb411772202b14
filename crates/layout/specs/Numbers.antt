-- The numbers of a table: what a table says, and their limits.
-- Assumes nothing.
use Rattle.std.specs.Prelude.{Bool, true, false, not, List, ℕ, ◌≤◌, ◌<◌, eqb, length}
use Rattle.rules.specs.Settings.{document01}
use Rattle.rules.specs.Columns.{entries_in, published_in}
use Rattle.rules.specs.Circuit.{gates_in, tests_in}
use Rattle.rules.specs.Table.{stage_open, stage_closed, stage_byte, servers_in, own_in, returns_in, decided_in, entered_in, least_in, sheet_size, columns_in}
use Rattle.layout.specs.declared.Table.{Table}

-- the stage of a table, by whether it is closed
abbrev pub stage_of : Bool → ℕ
stage_of false = stage_open
stage_of true = stage_closed

-- what a table says, by rules
unfoldable pub table_of : List ℕ → Table
table_of T =
    record {
      closed = not (eqb (stage_byte document01 T) stage_open);
      servers = servers_in document01 T;
      own = own_in document01 T;
      returns = returns_in document01 T;
      decided = decided_in document01 T;
      entered = entered_in document01 T;
      least = least_in document01 T;
      sheet = sheet_size document01 T;
      columns = length (columns_in document01 T);
      entries = entries_in (columns_in document01 T);
      published = published_in (columns_in document01 T);
      gates = gates_in (columns_in document01 T);
      tests = tests_in (columns_in document01 T);
    }

-- the numbers of a table whose header and sheet are sound
pub record Limited (k : Table) : Type 0 where
  pub servers_some : 2 ≤ k.servers
  pub servers_few : k.servers ≤ 8
  pub own_one : k.own < k.servers
  pub returns_some : 1 ≤ k.returns
  pub returns_most : k.returns ≤ 1024
  pub sheet_most : k.sheet ≤ 426
  pub entries_most : k.entries ≤ 256
  pub published_most : k.published ≤ 256
  pub gates_most : k.gates ≤ 256
