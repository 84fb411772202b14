-- Making from seeds is making from the elements that the seeds stand for: they are as many as making needs, below p, and the share of each
-- server but the first is what its seed gives. Server 0's long message stands first, then the seed messages, all of one length, so each is
-- found at its place; a seed message brings what a long one would. Assumes nothing.
use mathlib.Core.Path.{◌≡◌, refl, sym, ap, ap₂, ◌∙◌}
use mathlib.Core.Bool.{Bool, true, ◌&&◌}
use mathlib.Core.List.{List, ◌++◌, flatten}
use Prim.Native.Nat.{ℕ, zero, suc, ◌+◌, ◌-◌, ◌*◌, ◌<◌}
use native.Mathlib.Nat.{add_comm, mul_comm}
use native.Mathlib.Omega.{arith}
use borrow.Author.Tests.{eqb-true}
use lib.Dec.{eqb}
use lib.ListN.{length, take, length-append}
use lib.Seq.{take_at, drop-append-add}
use Rattle.algebra.specs.Lists.{All, all[], all∷, count_from}
use Rattle.algebra.proofs.Members.{and_left, and_right, all_append, map_all, in_all}
use Rattle.words.specs.Bytes.{part, elements_of, all_below}
use Rattle.words.proofs.Splice.{length_part}
use Rattle.words.proofs.Below.{all_of_below, below_of_all}
use Rattle.records.proofs.Outcome.{or_zero}
use Rattle.rules.specs.Settings.{Setting, Facts}
use Rattle.rules.specs.Columns.{Column, sheet_fault, columns_of, servers_fault}
use Rattle.rules.specs.Judging.{share_size}
use Rattle.rules.specs.Making.{share_message, share_length, random_count, values_fault}
use Rattle.rules.specs.Seeds.{seed_size, seed_kind, seed_length, seed_message, seed_elements, seed_at, expanded, seeds_fault, seeded_length}
use Rattle.rules.specs.Seeds.{make_seeded_refusal, make_seeded_bytes}
use Rattle.rules.specs.Messages.{one_by_one}
use Rattle.rules.specs.Made.{share_made, MessageFor, long, short, MadeReturn, seeded_part, SeededBytes}
use Rattle.rules.proofs.Histories.MessageBytes.{length_headed, length_message, length_one_by_one, part_one_by_one}
use Rattle.rules.proofs.Histories.ShareMessages.{length_seed, seed_below}
use Rattle.rules.proofs.Histories.Checks.{check_passed}
use Rattle.rules.proofs.Returns.MadeMessages.{Makes, many_elements, makes_from, shared, share_drawn, made_return, read_back}

-- a property of all members of all lists
all_flatten : {P : ℕ → Type 0} {s : List (List ℕ)} → All (All P) s → All P (flatten s)
unfolding flatten
all_flatten all[] = all[]
all_flatten (all∷ p ps) = all_append p (all_flatten ps)

-- behind the first bytes
part_behind : (a n : ℕ) (s t : List ℕ) → part (length s + a) n (s ++ t) ≡ part a n t
part_behind a n s t = ap (take n) (drop-append-add s t a)

-- ---- what the seeds stand for
module _ (σ : Setting) (facts : Facts σ) (cs : List Column) (servers id : ℕ) (random seeds : List ℕ)
    (four : length (elements_of σ.width random) ≡ 4) where
  abbrev size : ℕ
  size = share_size cs

  abbrev given : ℕ → List ℕ
  given i = seed_elements σ (seed_at seeds i) id size

  given_long : (i : ℕ) → i < servers - 1 → length (given i) ≡ size
  given_long i l = length_seed σ facts (seed_at seeds i) id size

  expanded_many : length (expanded σ cs servers id random seeds) ≡ random_count servers cs
  unfolding expanded random_count
  expanded_many =
      length-append (elements_of σ.width random) (one_by_one given (servers - 1))
      ∙ ap₂ ◌+◌ four (length_one_by_one given size (servers - 1) given_long ∙ mul_comm size (servers - 1))
      ∙ add_comm 4 ((servers - 1) * size)

  expanded_below : all_below σ.modulus (elements_of σ.width random) ≡ true
      → all_below σ.modulus (expanded σ cs servers id random seeds) ≡ true
  unfolding expanded
  expanded_below h =
      below_of_all σ.modulus _
      (all_append (all_of_below σ.modulus (elements_of σ.width random) h)
      (all_flatten (map_all given (in_all (count_from 0 (servers - 1)) (λ i k. seed_below σ facts (seed_at seeds i) id size)))))

  pub expanded_part : (i : ℕ) → suc i < servers → part (4 + i * size) size (expanded σ cs servers id random seeds) ≡ given i
  unfolding expanded
  expanded_part i l =
      ap₂ (λ (a b : ℕ). part (a + b) size (elements_of σ.width random ++ one_by_one given (servers - 1))) (sym four) (mul_comm i size)
      ∙ part_behind (size * i) size (elements_of σ.width random) (one_by_one given (servers - 1))
      ∙ part_one_by_one given size (servers - 1) given_long i (omega arith)

-- ---- the bytes
module _ (σ : Setting) (facts : Facts σ) (sheet : List ℕ) (servers id : ℕ) (values random seeds : List ℕ)
    (four : length (elements_of σ.width random) ≡ 4) (whole : length seeds ≡ seed_size * (servers - 1))
    (m : Makes σ sheet servers (elements_of 4 values) (expanded σ (columns_of sheet) servers id random seeds)) where
  abbrev cols : List Column
  cols = columns_of sheet

  abbrev vs : List ℕ
  vs = elements_of 4 values

  abbrev zs : List ℕ
  zs = expanded σ cols servers id random seeds

  abbrev shares : ℕ → List ℕ
  shares = share_made σ sheet servers id vs zs

  abbrev first : List ℕ
  first = share_message σ id 0 (shares 0)

  abbrev seeded : ℕ → List ℕ
  seeded i = seed_message id (suc i) (seed_at seeds i)

  abbrev parts : ℕ → List ℕ
  parts = seeded_part σ sheet servers id values random seeds

  seed_whole : (i : ℕ) → i < servers - 1 → length (seed_at seeds i) ≡ seed_size
  seed_whole i l = length_part (seed_size * i) seed_size seeds (omega arith)

  seeded_long : (i : ℕ) → i < servers - 1 → length (seeded i) ≡ seed_length
  unfolding seed_message
  seeded_long i l = length_headed seed_kind id (suc i) (seed_at seeds i) ∙ ap (λ n. 6 + n) (seed_whole i l)

  first_long : length first ≡ share_length σ cols
  unfolding share_length
  first_long =
      length_message σ 33 id 0 (shares 0)
      ∙ ap (λ k. 6 + σ.width * k) ((shared σ facts sheet servers id vs zs m.several.0 m.enough m.below).share_length_lem 0)

  bytes_are : make_seeded_bytes σ sheet servers id values random seeds ≡ first ++ one_by_one seeded (servers - 1)
  unfolding make_seeded_bytes
  bytes_are = refl

  first_is : parts 0 ≡ first
  unfolding seeded_part
  first_is =
      ap (part 0 (share_length σ cols)) bytes_are ∙ take_at first (one_by_one seeded (servers - 1)) (share_length σ cols) first_long

  seed_is : (i : ℕ) → suc i < servers → parts (suc i) ≡ seeded i
  unfolding seeded_part
  seed_is i l =
      ap₂ (λ (a : ℕ) (v : List ℕ). part (a + seed_length * i) seed_length v) (sym first_long) bytes_are
      ∙ part_behind (seed_length * i) seed_length first (one_by_one seeded (servers - 1))
      ∙ part_one_by_one seeded seed_length (servers - 1) seeded_long i (omega arith)

  -- the message of each server
  share_is : (i : ℕ) → suc i < servers → given σ facts cols servers id random seeds four i ≡ shares (suc i)
  share_is i l =
      sym (share_drawn σ facts sheet servers id vs zs m.several.0 m.enough m.below i l
      ∙ expanded_part σ facts cols servers id random seeds four i l)

  each : (i : ℕ) → i < servers → MessageFor σ sheet servers id vs zs i (parts i)
  each zero l = long first_is
  each (suc i) l = short (seed_at seeds i) (seed_whole i (omega arith)) (omega arith) (share_is i l) (seed_is i l)

  written : MadeReturn σ sheet servers id vs zs parts
  written = made_return σ sheet servers id vs zs m parts each

  pub seeded_bytes : SeededBytes σ sheet servers id values random seeds
  unfolding seeded_length expanded
  seeded_bytes = record {
    length_is =
        ap length bytes_are
        ∙ length-append first (one_by_one seeded (servers - 1))
        ∙ ap₂ ◌+◌ first_long (length_one_by_one seeded seed_length (servers - 1) seeded_long);
    first_is = first_is;
    seed_is = seed_is;
    return = written;
    four_are = take_at (elements_of σ.width random) _ 4 four;
    drawn = λ i l. ((read_back σ facts sheet servers id vs zs parts written).brings (suc i) l).says ∙ sym (share_is i l);
  }

-- wherever making from seeds is not refused
pub makes_seeded : (σ : Setting) → Facts σ → (sheet : List ℕ) (servers id : ℕ) (values random seeds : List ℕ) (room : ℕ)
    → make_seeded_refusal σ sheet servers values random seeds room ≡ 0 → SeededBytes σ sheet servers id values random seeds
unfolding make_seeded_refusal seeds_fault
makes_seeded σ facts sheet servers id values random seeds room e =
    let cs : List Column = columns_of sheet in
    let c₁ = or_zero (sheet_fault sheet) _ e in
    let c₂ = or_zero (servers_fault servers) _ c₁.1 in
    let c₃ = or_zero (values_fault cs values) _ c₂.1 in
    let c₄ = or_zero (seeds_fault σ servers random seeds) _ c₃.1 in
    let fit : Bool = eqb (length random) (σ.width * 4) in
    let low : Bool = all_below σ.modulus (elements_of σ.width random) in
    let many : Bool = eqb (length seeds) (seed_size * (servers - 1)) in
    let all : fit && (low && many) ≡ true = check_passed (fit && (low && many)) 5 c₄.0 in
    let rest : low && many ≡ true = and_right fit (low && many) all in
    let four : length (elements_of σ.width random) ≡ 4 =
    many_elements σ facts random 4 (eqb-true _ _ (and_left fit (low && many) all)) in
    seeded_bytes σ facts sheet servers id values random seeds four (eqb-true _ _ (and_right low many rest))
    (makes_from σ facts sheet servers values (expanded σ cs servers id random seeds) c₁.0 c₂.0 c₃.0
    (expanded_many σ facts cs servers id random seeds four)
    (expanded_below σ facts cs servers id random seeds four (and_left low many rest)))
