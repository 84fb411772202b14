-- Where the given outputs are the products of the inputs, the run at a server whose factor is 1 is the run on the list.
-- Inputs are only added at the end, so that what holds of all inputs of the finished run holds at each step. Assumes nothing.
use mathlib.Core.Path.{◌≡◌, refl, sym, ◌∙◌, ap, ap₂}
use mathlib.Core.List.{List, [], ◌∷◌, ◌++◌, append-nil, append_assoc}
use Prim.Native.Nat.{ℕ, suc, ◌+◌, ◌<◌}
use native.Mathlib.Omega.{arith}
use lib.ListN.{length, get_or, length-append}
use lib.Seq.{get_or_at}
use Rattle.algebra.specs.Ops.{Field}
use Rattle.algebra.proofs.Ring.{one-mul}
use Rattle.rules.specs.Circuit.{Step, constant, entry, add, scale, multiply, test}
use Rattle.rules.specs.Run.{Meaning, Trace, nothing, make_wire, make_gate, wire_at, step_run, run_from, run}
use Rattle.rules.specs.Run.{at_server, on_list}

-- z has the inputs of s, then more
record More {X : Type 0} (s z : Trace X) : Type 0 where
  more_left : List X
  more_right : List X
  left_is : z.lefts ≡ s.lefts ++ more_left
  right_is : z.rights ≡ s.rights ++ more_right

module _ {X : Type 0} (μ : Meaning X) where
  abbrev no_more : {s z : Trace X} → z.lefts ≡ s.lefts → z.rights ≡ s.rights → More s z
  no_more {s} p q = record {
    more_left = [];
    more_right = [];
    left_is = p ∙ sym (append-nil s.lefts);
    right_is = q ∙ sym (append-nil s.rights);
  }

  step_more : (s : Trace X) (k : Step) → More s (step_run μ s k)
  unfolding step_run
  step_more s (constant c) = no_more refl refl
  step_more s (entry e) = no_more refl refl
  step_more s (add a b) = no_more refl refl
  step_more s (scale a c) = no_more refl refl
  step_more s (multiply a b) =
      record { more_left = wire_at μ s a ∷ []; more_right = wire_at μ s b ∷ []; left_is = refl; right_is = refl }
  step_more s (test a) = no_more refl refl

  more_more : {s z w : Trace X} → More s z → More z w → More s w
  more_more {s} a b = record {
    more_left = a.more_left ++ b.more_left;
    more_right = a.more_right ++ b.more_right;
    left_is = b.left_is ∙ ap (◌++ b.more_left) a.left_is ∙ append_assoc s.lefts _ _;
    right_is = b.right_is ∙ ap (◌++ b.more_right) a.right_is ∙ append_assoc s.rights _ _;
  }

  run_more : (ks : List Step) (s : Trace X) → More s (run_from μ s ks)
  unfolding run_from
  run_more [] s = no_more refl refl
  run_more (k ∷ ks) s = more_more (step_more s k) (run_more ks (step_run μ s k))

module _ (𝓕 : Field) (x h : ℕ → 𝓕.ops.F) where
  open 𝓕.ops use {F, ◌⊗◌, 𝟘, 𝟙, ι}

  infixl 70 ◌⊗◌
  abbrev server : Meaning F
  server = at_server 𝓕.ops 𝟙 x h

  abbrev list : Meaning F
  list = on_list 𝓕.ops x

  -- output t + 1 is the product of the inputs, for each multiplication of the trace
  abbrev pub Products : Trace F → Type 0
  Products z = (t : ℕ) → t < length z.lefts → h (suc t) ≡ get_or z.lefts t 𝟘 ⊗ get_or z.rights t 𝟘

  -- as many right inputs as left ones
  abbrev Even : Trace F → Type 0
  Even s = length s.lefts ≡ length s.rights

  step_even : (s : Trace F) (k : Step) → Even s → Even (step_run server s k)
  unfolding step_run
  step_even s (constant c) ev = ev
  step_even s (entry e) ev = ev
  step_even s (add a b) ev = ev
  step_even s (scale a c) ev = ev
  step_even s (multiply a b) ev = length-append s.lefts _ ∙ ap (◌+ 1) ev ∙ sym (length-append s.rights _)
  step_even s (test a) ev = ev

  -- the output v of a multiplication of u and w, where the run goes on to z
  output_true : (s : Trace F) (u w v : F) (z : Trace F) → More (make_wire v (make_gate u w s)) z → Even s → Products z
      → h (suc (length s.lefts)) ≡ u ⊗ w
  output_true s u w v z m ev pr = pr (length s.lefts) reached ∙ ap₂ ◌⊗◌ at_left at_right
    where
      left : z.lefts ≡ s.lefts ++ (u ∷ m.more_left)
      left = m.left_is ∙ append_assoc s.lefts (u ∷ []) m.more_left

      reached : length s.lefts < length z.lefts
      reached = omega (arith, ap length left, length-append s.lefts (u ∷ m.more_left))

      at_left : get_or z.lefts (length s.lefts) 𝟘 ≡ u
      at_left =
          ap (λ l. get_or l (length s.lefts) 𝟘) left ∙ get_or_at s.lefts u m.more_left 𝟘 (length s.lefts) refl

      at_right : get_or z.rights (length s.lefts) 𝟘 ≡ w
      at_right =
          ap (λ l. get_or l (length s.lefts) 𝟘) (m.right_is ∙ append_assoc s.rights (w ∷ []) m.more_right)
          ∙ get_or_at s.rights w m.more_right 𝟘 (length s.lefts) (sym ev)

  step_true : (s : Trace F) (k : Step) (ks : List Step) → Even s → Products (run_from server (step_run server s k) ks)
      → step_run server s k ≡ step_run list s k
  unfolding step_run
  step_true s (constant c) ks ev pr = ap (λ v. make_wire v s) (one-mul 𝓕 (ι c))
  step_true s (entry e) ks ev pr = refl
  step_true s (add a b) ks ev pr = refl
  step_true s (scale a c) ks ev pr = refl
  step_true s (multiply a b) ks ev pr =
      ap (λ v. make_wire v (make_gate (wire_at server s a) (wire_at server s b) s))
      (output_true s _ _ _ _ (run_more server ks (step_run server s (multiply a b))) ev pr)
  step_true s (test a) ks ev pr = refl

  true_from : (ks : List Step) (s : Trace F) → Even s → Products (run_from server s ks)
      → run_from server s ks ≡ run_from list s ks
  unfolding run_from
  true_from [] s ev pr = refl
  true_from (k ∷ ks) s ev pr =
      true_from ks (step_run server s k) (step_even s k ev) pr ∙ ap (λ z. run_from list z ks) (step_true s k ks ev pr)

  pub true_run : (ks : List Step) → Products (run server ks) → run server ks ≡ run list ks
  unfolding run
  true_run ks pr = true_from ks nothing refl pr
