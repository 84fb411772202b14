-- What a table says, from the pieces of its bytes and from its records: each read of the layout falls into one piece.
-- Assumes nothing.
use mathlib.Core.Path.{◌≡◌, sym, ap, ap₂, ◌∙◌}
use mathlib.Core.Bool.{cond}
use mathlib.Core.List.{List}
use Prim.Native.Nat.{ℕ, ◌*◌}
use native.Mathlib.Nat.{add-zero}
use native.Mathlib.Omega.{arith}
use lib.Dec.{eqb}
use lib.ListN.{length, take}
use lib.Seq.{take_all}
use Rattle.words.specs.Bytes.{part, elements_of}
use Rattle.slots.specs.declared.Slot.{Slot}
use Rattle.rules.specs.Settings.{Setting}
use Rattle.rules.specs.Columns.{Column, published_in}
use Rattle.rules.specs.Server.{Opened, Wait, Stage, takes, closed, ServerState}
use Rattle.rules.specs.WaitingList.{waits_in}
use Rattle.rules.specs.Table.{Lent, stage_open, totals_place, ids_place, decided_in, totals_in, ids_in, opened_in, stage_in, table_state}
use Rattle.rules.proofs.Tables.Parts.{Parts, Sized, assemble, placed, columns_in_lem, returns_are, decided_are, entered_are, least_is}
use Rattle.rules.proofs.Tables.Parts.{part_totals, part_ids}

abbrev pub opened_at : List Column → Parts → Opened
opened_at cs g = record { servers = g.servers; own = g.own; columns = cs; returns = g.returns; least = g.least }

unfoldable pub stage_at : ℕ → List Wait → Stage
stage_at b ws = cond (eqb b stage_open) (takes ws) closed

-- with the returns that wait
unfoldable pub known_at : Setting → List Column → Parts → List Wait → ServerState
known_at σ cs g ws = record {
  opened = opened_at cs g;
  stage = stage_at g.stage ws;
  used = elements_of 4 (take (4 * g.decided) g.ids);
  entered = g.entered;
  totals = elements_of σ.width g.totals;
}

module _ (σ : Setting) (cs : List Column) (g : Parts) (z : Sized σ cs g) where
  abbrev T : List ℕ
  T = assemble σ g

  pub totals_are : totals_in σ T ≡ elements_of σ.width g.totals
  totals_are =
      placed σ cs g z (λ n c N. elements_of σ.width (part (totals_place σ n c N) (σ.width * published_in c) T))
      ∙ ap (elements_of σ.width)
      (ap (λ (k : ℕ). part k (σ.width * published_in cs) T) (sym (add-zero (totals_place σ (length g.sheet) cs g.returns)))
      ∙ part_totals σ cs g z 0 (σ.width * published_in cs) (omega (arith, z.totals_long))
      ∙ take_all (σ.width * published_in cs) g.totals (omega (arith, z.totals_long)))

  pub ids_are : ids_in σ T ≡ elements_of 4 (take (4 * g.decided) g.ids)
  ids_are =
      placed σ cs g z (λ n c N. elements_of 4 (part (ids_place σ n c N) (4 * decided_in σ T) T))
      ∙ ap (elements_of 4)
      (ap₂ (λ (k m : ℕ). part k (4 * m) T) (sym (add-zero (ids_place σ (length g.sheet) cs g.returns))) (decided_are σ cs g z)
      ∙ part_ids σ cs g z 0 (4 * g.decided) (omega (arith, z.ids_long, z.decided_few)))

  pub opened_is : opened_in σ T ≡ opened_at cs g
  unfolding assemble
  opened_is =
      λ i. record {
        servers = g.servers;
        own = g.own;
        columns = columns_in_lem σ cs g z i;
        returns = returns_are σ cs g z i;
        least = least_is σ cs g z i;
      }

  module _ (xs : List Slot) (es : List ℕ) where
    abbrev lent : Lent
    lent = record { bytes = T; slots = xs; elements = es }

    stage_is : stage_in σ lent ≡ stage_at g.stage (waits_in cs xs es)
    unfolding assemble stage_in stage_at
    stage_is = λ i. cond (eqb g.stage stage_open) (takes (waits_in (columns_in_lem σ cs g z i) xs es)) closed

    pub known_is : table_state σ lent ≡ known_at σ cs g (waits_in cs xs es)
    unfolding table_state known_at
    known_is =
        λ i. record {
          opened = opened_is i;
          stage = stage_is i;
          used = ids_are i;
          entered = entered_are σ cs g z i;
          totals = totals_are i;
        }
