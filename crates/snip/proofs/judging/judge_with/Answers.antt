-- `snip::judging::judge_with` meets its contract: each of the four numbers from the walk over the columns. Assumes nothing.
use mathlib.Core.Path.{◌≡◌, refl, sym, ap, ◌∙◌}
use mathlib.Core.List.{List}
use Prim.Native.Nat.{ℕ, suc, ◌+◌, ◌-◌, ◌<◌, ◌≤◌}
use native.Mathlib.Nat.{mod-lt}
use native.Mathlib.Omega.{arith}
use lib.Dec.{lit<}
use lib.ListN.{length, take, drop, length-drop}
use lib.Seq.{length-take-le}
use Rattle.algebra.specs.Lists.{tabulate}
use Rattle.algebra.specs.Interpolation.{weight}
use Rattle.field.specs.Residues.{residues, Elements}
use Rattle.field.proofs.Below.{member_below}
use Rattle.words.proofs.Below.{all_take, all_drop}
use Rattle.rules.specs.Columns.{columns_of}
use Rattle.rules.specs.Circuit.{gates_in}
use Rattle.rules.specs.Judging.{first_only}
use Rattle.snip.specs.declared.judging.Inputs.{Inputs}
use Rattle.snip.specs.declared.judging.Judged.{Judged}
use Rattle.snip.proofs.Numbers.{first_below, weights_to}
use Rattle.interpolation.proofs.Through.{interpolate_below}
use Rattle.snip.proofs.ShareRoom.{room}
use Rattle.snip.proofs.RoundNumbers.{d_from, e_from, h_from, tau_from}
use Rattle.snip.proofs.judging.judge_with.Goals as goal

-- four equal fields
whole : {d d' e e' h h' t t' : ℕ} → d ≡ d' → e ≡ e' → h ≡ h' → t ≡ t'
    → ◌≡◌ {A = Judged} (record { d = d; e = e; rh = h; tau = t }) (record { d = d'; e = e'; rh = h'; tau = t' })
whole p q u v = λ i. record { d = p i; e = q i; rh = u i; tau = v i }

-- the values of h
part_length : (xs : List ℕ) (l m : ℕ) → l + 3 + (m + m) ≤ length xs
    → length (take (l + 3 + (m + m) - (l + 2)) (drop (l + 2) xs)) ≡ suc (m + m)
part_length xs l m h =
    length-take-le (l + 3 + (m + m) - (l + 2)) (drop (l + 2) xs) (rw length-drop (omega arith)) ∙ omega arith

part_elements : (xs : List ℕ) (l m : ℕ) → Elements xs → Elements (take (l + 3 + (m + m) - (l + 2)) (drop (l + 2) xs))
part_elements xs l m h = all_take _ (l + 3 + (m + m) - (l + 2)) (all_drop _ (l + 2) h)

pub mul-constant-requires : goal.mul-constant-requires
mul-constant-requires c = (rw c.first_only-factor.ensures (first_below c.args.own), lit< tt)

pub inputs_with-at-requires : goal.inputs_with-at-requires
inputs_with-at-requires c =
    let m = room c.requires.share in
    let fits : c.args.shape.entries + 1 < length c.args.x.now = omega (arith, m.long) in
    let few : gates_in (columns_of c.args.sheet.now) ≤ 256 = omega (arith, m.gates_are, m.gates_few) in record { entries = (m.entries, fits, few, rw c.mul-constant.ensures (mod-lt _ (lit< tt)), c.requires.share.r_below); weights_value = c.requires.single_value ∙ ap (λ k. tabulate (weight residues k) (suc k)) m.gates_are }

pub overflow_add-first : goal.overflow_add-first
overflow_add-first c =
    let m = room c.requires.share in
    omega (arith, m.entries_few)

pub overflow_add-last : goal.overflow_add-last
overflow_add-last c =
    let m = room c.requires.share in
    omega (arith, m.entries_few)

pub overflow_add-last-2 : goal.overflow_add-last-2
overflow_add-last-2 c =
    let m = room c.requires.share in
    omega (arith, m.gates_few)

pub overflow_add-last-3 : goal.overflow_add-last-3
overflow_add-last-3 c =
    let m = room c.requires.share in
    omega (arith, m.entries_few, m.gates_few)

pub offset_bounds-x-first : goal.offset_bounds-x-first
offset_bounds-x-first c =
    let m = room c.requires.share in
    record { fits = omega (arith, m.entries_few) }

pub slice_bounds-interpolated-end : goal.slice_bounds-interpolated-end
slice_bounds-interpolated-end c =
    let m = room c.requires.share in
    omega (arith, m.long)

pub interpolated-h-requires : goal.interpolated-h-requires
interpolated-h-requires c =
    let m = room c.requires.share in
    let k = c.args.shape in
    let n = part_length c.args.x.now k.entries k.gates (omega (arith, m.long)) in record {
      elements = (
        part_elements c.args.x.now k.entries k.gates c.requires.share.elements,
        c.requires.share.r_below,
        rw n (omega arith),
        rw n (omega (arith, m.gates_few)),
      );
      weights_value = c.requires.double_value ∙ sym (weights_to n);
    }

pub tau_of-tau-requires : goal.tau_of-tau-requires
tau_of-tau-requires c =
    let m = room c.requires.share in record {
      entries = (m.entries, m.outputs);
      tests_value = (
        m.tests_are,
        m.tests_few,
        rw c.first_only-factor.ensures (first_below c.args.own),
        c.requires.share.s_below,
      );
    }

pub offset_bounds-x-last : goal.offset_bounds-x-last
offset_bounds-x-last c =
    let m = room c.requires.share in
    record { fits = omega (arith, m.entries_few, m.gates_few) }

pub bounds-x-last : goal.bounds-x-last
bounds-x-last c =
    let m = room c.requires.share in
    omega (arith, m.long)

pub sub-requires : goal.sub-requires
sub-requires c =
    let m = room c.requires.share in
    let i = c.inputs_with-at.ensures in
    (rw (ap (λ (u : Inputs). u.f) i) (interpolate_below _ _ _), member_below _ _ c.requires.share.elements)

pub mul-requires : goal.mul-requires
mul-requires c =
    let m = room c.requires.share in
    let i = c.inputs_with-at.ensures in
    (c.requires.share.r_below, rw (ap (λ (u : Inputs). u.g) i) (mod-lt _ (lit< tt)))

pub overflow_add-last-4 : goal.overflow_add-last-4
overflow_add-last-4 c =
    let m = room c.requires.share in
    omega (arith, m.entries_few, m.gates_few)

pub offset_bounds-x-last-2 : goal.offset_bounds-x-last-2
offset_bounds-x-last-2 c =
    let m = room c.requires.share in
    record { fits = omega (arith, m.entries_few, m.gates_few) }

pub bounds-x-last-2 : goal.bounds-x-last-2
bounds-x-last-2 c =
    let m = room c.requires.share in
    omega (arith, m.long)

pub sub-requires-2 : goal.sub-requires-2
sub-requires-2 c =
    let m = room c.requires.share in
    (rw c.mul.ensures (mod-lt _ (lit< tt)), member_below _ _ c.requires.share.elements)

pub mul-requires-2 : goal.mul-requires-2
mul-requires-2 c =
    let m = room c.requires.share in
    let h = c.interpolated-h.ensures in
    (c.requires.share.r_below, rw h (interpolate_below _ _ _))

pub returns : goal.returns
returns c =
    let m = room c.requires.share in
    let a = c.args in
    let cs = columns_of a.sheet.now in
    let k = first_only residues a.own in
    let xs = a.x.now in
    let i = c.inputs_with-at.ensures in
    let one = c.first_only-factor.ensures in
    let factor = c.mul-constant.ensures in
    let ec = factor ∙ ap (λ (t : ℕ). residues.◌⊗◌ t 2147483646) one in
    let n = part_length xs a.shape.entries a.shape.gates (omega (arith, m.long)) in
    let few : gates_in cs ≤ 256 = omega (arith, m.gates_are, m.gates_few) in
    let h = c.interpolated-h.ensures in
    let tau = c.tau_of-tau.ensures in
    whole
    (d_from cs k xs _ _ _ m.entries_are m.gates_are ec a.r _ _ (ap (λ (u : Inputs). u.f) i)
    c.sub.ensures)
    (e_from cs k xs _ _ _ m.entries_are m.gates_are ec a.r _ _ _ c.requires.share.elements few (first_below a.own)
    c.requires.share.r_below (ap (λ (u : Inputs). u.g) i)
    c.mul.ensures c.sub-2.ensures)
    (h_from cs k xs _ _ _ m.entries_are m.gates_are ec a.r _ _ _ refl n h c.mul-2.ensures)
    (tau_from cs k xs _ _ _ m.entries_are m.gates_are ec a.s _ _ one tau)
