-- A call that writes: what stands in the buffer up to the written length are its bytes, and the rest is as it was. A call
-- that is refused leaves all as it was. Assumes the promise of the call.
use mathlib.Core.Path.{◌≡◌, refl, sym, ap, ◌∙◌}
use mathlib.Core.Bool.{Bool, true, false, cond}
use mathlib.Core.List.{List, ◌++◌}
use Prim.Native.Nat.{ℕ, ◌+◌}
use native.Mathlib.Nat.{zero-add}
use borrow.Author.Tests.{ne_eqb, eqb-true}
use lib.Dec.{eqb}
use lib.ListN.{length, take, drop}
use lib.Seq.{take_at, drop_at}
use Rattle.words.specs.Bytes.{splice}
use Rattle.records.specs.Answers.{only_if, if_done, Writes}
use Rattle.rules.specs.Ledger.{Answer, refused, wrote}
use Rattle.rules.specs.Table.{Lent}
use Rattle.waiting.specs.Changes.{unless_refused}
use Rattle.pool_server.specs.Calls.{Leaves}
use Rattle.calls.specs.Calls.{Untouched}

-- two answers that are equal where there is no refusal
pub answer_same : (f : ℕ) (x y : Answer) → (f ≡ 0 → x ≡ y) → cond (eqb f 0) x (refused f) ≡ cond (eqb f 0) y (refused f)
answer_same f x y h = go (eqb f 0) refl
  where
    go : (v : Bool) → eqb f 0 ≡ v → cond v x (refused f) ≡ cond v y (refused f)
    go true e = h (eqb-true f 0 e)
    go false e = refl

-- a table, a buffer and a number behind a pointer, after a refusal
pub table_kept : (f : ℕ) (new T T' : Lent) → Leaves f new T T' → (f ≡ 0 → ⊥) → T' ≡ T
unfolding unless_refused
table_kept f new T T' l z = l ∙ rw (ne_eqb f 0 z) refl

bytes_kept : (f : ℕ) (new out out' : List ℕ) → out' ≡ only_if f new out → (f ≡ 0 → ⊥) → out' ≡ out
unfolding only_if
bytes_kept f new out out' e z = e ∙ rw (ne_eqb f 0 z) refl

pub number_kept : (f new old x : ℕ) → x ≡ if_done f new old → (f ≡ 0 → ⊥) → x ≡ old
unfolding if_done
number_kept f new old x e z = e ∙ rw (ne_eqb f 0 z) refl

pub number_done : (f new old x : ℕ) → x ≡ if_done f new old → f ≡ 0 → x ≡ new
unfolding if_done
number_done f new old x e z = e ∙ rw z refl

module _ (f : ℕ) (bytes : List ℕ) (n : ℕ) (out : List ℕ) (w a : ℕ) (out' : List ℕ) (w' : ℕ)
    (W : Writes f bytes n out w a out' w') (long : f ≡ 0 → length bytes ≡ n) where
  out_done : f ≡ 0 → out' ≡ bytes ++ drop (0 + length bytes) out
  unfolding only_if splice
  out_done z = W.out_is ∙ rw z refl

  pub reads : f ≡ 0 → take w' out' ≡ bytes
  reads z = rw (out_done z, number_done f n w w' W.written_is z) (take_at bytes _ n (long z))

  past : f ≡ 0 → drop w' out' ≡ drop w' out
  past z =
      rw (out_done z, number_done f n w w' W.written_is z)
      (drop_at bytes (drop (0 + length bytes) out) n (long z) ∙ ap (λ (k : ℕ). drop k out) (zero-add (length bytes) ∙ long z))

  -- what it hands back
  pub hands : ◌≡◌ {A = Answer} (cond (eqb a 0) (wrote (take w' out')) (refused a)) (cond (eqb f 0) (wrote bytes) (refused f))
  hands =
      ap (λ (k : ℕ). cond (eqb k 0) (wrote (take w' out')) (refused k)) W.answer_is
      ∙ answer_same f (wrote (take w' out')) (wrote bytes) (λ z. ap wrote (reads z))

  -- what it does not touch
  pub untouched : (new T T' : Lent) → Leaves f new T T' → Untouched T out w a T' out' w'
  untouched new T T' l = record {
    at_refusal = λ h.
        let z : f ≡ 0 → ⊥ = λ q. h (W.answer_is ∙ q) in
        (table_kept f new T T' l z, bytes_kept f _ out out' W.out_is z, number_kept f n w w' W.written_is z);
    past_written = λ h. past (sym W.answer_is ∙ h);
  }
