-- Each message of a return made by the rules brings its share, and the shares add up to the encoding with its proof: the values are
-- legal and the random elements below p. What making writes is S such messages of one length, so each stands at its own place.
-- Assumes nothing.
use mathlib.Core.Path.{◌≡◌, refl, sym, ap, ◌∙◌, subst}
use mathlib.Core.Bool.{Bool, true, ◌&&◌}
use mathlib.Core.List.{List, ◌++◌, map, flatten}
use Prim.Native.Nat.{ℕ, zero, suc, ◌+◌, ◌-◌, ◌*◌, ◌≤◌, ◌<◌}
use native.Mathlib.Nat.{mul_comm, mul-le-mul_right}
use native.Mathlib.Omega.{arith}
use borrow.Author.Tests.{eqb-true}
use lib.Dec.{eqb}
use lib.ListN.{length, get_or, drop}
use lib.Seq.{get_or-take, get_or-drop}
use Rattle.algebra.specs.Lists.{All, tabulate, count_from}
use Rattle.algebra.specs.Modulo.{modulo}
use Rattle.algebra.proofs.Members.{and_left, and_right}
use Rattle.algebra.proofs.Sums.{sum_ext}
use Rattle.algebra.proofs.Tables.{length_tabulate, tabulate_cong, tabulate_get_d}
use Rattle.words.specs.Bytes.{part, elements_of, all_below}
use Rattle.words.proofs.Elements.{elements_whole}
use Rattle.words.proofs.Splice.{length_part}
use Rattle.words.proofs.Below.{all_of_below}
use Rattle.records.proofs.Outcome.{or_zero}
use Rattle.rules.specs.Settings.{Setting, Facts}
use Rattle.rules.specs.Columns.{Column, within, sheet_fault, columns_of, servers_fault}
use Rattle.rules.specs.Values.{legal_values, encoding}
use Rattle.rules.specs.Judging.{share_size, added_up}
use Rattle.rules.specs.Making.{share_of, made_whole, share_message, share_length, random_count, made_from, values_fault}
use Rattle.rules.specs.Making.{random_fault, make_refusal, make_bytes}
use Rattle.rules.specs.Seeds.{seed_message}
use Rattle.rules.specs.Messages.{one_by_one}
use Rattle.rules.specs.WholeRun.{Brings}
use Rattle.rules.specs.Made.{share_made, MessageFor, long, short, MadeReturn, element_read, ReadBack, made_part, MadeBytes}
use Rattle.rules.proofs.Circuits.Limits.{within_both}
use Rattle.rules.proofs.Circuits.Refusals.{sheet_limits_lem}
use Rattle.rules.proofs.Circuits.Encoding.{entry_below_modulus}
use Rattle.rules.proofs.Returns.Shares.{Made, made, added_is_whole}
use Rattle.rules.proofs.Histories.MessageBytes.{width_positive, length_one_by_one, part_one_by_one}
use Rattle.rules.proofs.Histories.MessageBytes.{length_message}
use Rattle.rules.proofs.Histories.ShareMessages.{elements_sound, seed_sound_lem}
use Rattle.rules.proofs.Histories.Checks.{check_passed}

-- a part, place by place
places_are_part : (a n : ℕ) (s : List ℕ) → a + n ≤ length s → tabulate (λ e. get_or s (a + e) 0) n ≡ part a n s
places_are_part a n s fits =
    tabulate_cong _ _ n (λ e l. sym (get_or-take n (drop a s) e 0 l ∙ get_or-drop a s e 0))
    ∙ ap (tabulate (λ e. get_or (part a n s) e 0)) (sym (length_part a n s fits))
    ∙ tabulate_get_d 0 (part a n s)

-- what making was handed, where it is not refused: the values and the random elements are numbers
pub record Makes (σ : Setting) (sheet : List ℕ) (servers : ℕ) (vs zs : List ℕ) : Type 0 where
  pub is_read : sheet_fault sheet ≡ 0
  pub several : (2 ≤ servers) × (servers ≤ 8)
  pub legal : legal_values (columns_of sheet) vs ≡ true
  pub enough : length zs ≡ random_count servers (columns_of sheet)
  pub below : all_below σ.modulus zs ≡ true

-- a message for each server
pub made_return : (σ : Setting) (sheet : List ℕ) (servers id : ℕ) (vs zs : List ℕ) → Makes σ sheet servers vs zs
    → (messages : ℕ → List ℕ) → ((i : ℕ) → i < servers → MessageFor σ sheet servers id vs zs i (messages i))
    → MadeReturn σ sheet servers id vs zs messages
made_return σ sheet servers id vs zs m messages each = record {
  is_read = m.is_read;
  several = m.several;
  legal = m.legal;
  enough = m.enough;
  below = m.below;
  message_for = each;
}

-- ---- the shares of such a return
module _ (σ : Setting) (facts : Facts σ) (sheet : List ℕ) (servers id : ℕ) (vs zs : List ℕ) (several : 2 ≤ servers)
    (enough : length zs ≡ random_count servers (columns_of sheet)) (below : all_below σ.modulus zs ≡ true) where
  abbrev cs : List Column
  cs = columns_of sheet

  abbrev shares : ℕ → List ℕ
  shares = share_made σ sheet servers id vs zs

  pub some : 0 < servers
  some = omega arith

  pub random_below : All (λ z. z < σ.modulus) zs
  random_below = all_of_below σ.modulus zs below

  pub shared : Made σ cs servers vs zs
  shared = made σ facts cs servers vs zs some random_below

  -- the share of each server but the first is a part of the random elements
  pub share_drawn : (i : ℕ) → suc i < servers → shares (suc i) ≡ part (4 + i * share_size cs) (share_size cs) zs
  unfolding share_of random_count
  share_drawn i l =
      let few : suc i * share_size cs ≤ (servers - 1) * share_size cs = mul-le-mul_right (share_size cs) (omega arith) in
      places_are_part (4 + i * share_size cs) (share_size cs) zs (omega (arith, few, enough))

-- ---- what the servers read
module _ (σ : Setting) (facts : Facts σ) (sheet : List ℕ) (servers id : ℕ) (vs zs : List ℕ) (messages : ℕ → List ℕ)
    (m : MadeReturn σ sheet servers id vs zs messages) where
  abbrev columns : List Column
  columns = columns_of sheet

  abbrev parts : ℕ → List ℕ
  parts = share_made σ sheet servers id vs zs

  each : Made σ columns servers vs zs
  each = shared σ facts sheet servers id vs zs m.several.0 m.enough m.below

  brings : (i : ℕ) → i < servers → Brings σ columns id i (messages i) (parts i)
  brings i l = by (m.message_for i l)
    where
      by : MessageFor σ sheet servers id vs zs i (messages i) → Brings σ columns id i (messages i) (parts i)
      by (long e) =
          subst (λ (v : List ℕ). Brings σ columns id i v (parts i)) (sym e)
          (elements_sound σ facts columns id i (parts i) (each.share_length_lem i) (each.share_below i))
      by (short seed n behind stands e) =
          subst (λ (v : List ℕ). Brings σ columns id i v (parts i)) (sym e)
          (subst (Brings σ columns id i (seed_message id i seed)) stands (seed_sound_lem σ facts columns id i seed n behind))

  entries_below : (e : ℕ) → get_or (encoding columns vs) e 0 < σ.modulus
  entries_below = entry_below_modulus σ facts columns vs (sheet_limits_lem sheet m.is_read).in_limits m.legal

  abbrev read : ℕ → ℕ → ℕ
  read = element_read σ sheet servers id vs zs messages

  -- what is read adds up as what was made does
  read_adds : (e : ℕ)
      → added_up (modulo σ.modulus) σ columns servers read e
      ≡ added_up (modulo σ.modulus) σ columns servers (λ i e. get_or (parts i) e 0) e
  unfolding added_up
  read_adds e = sum_ext (modulo σ.modulus) servers _ _ (λ i l. ap (λ (v : List ℕ). get_or v e 0) (brings i l).says)

  whole_adds : (e : ℕ) → added_up (modulo σ.modulus) σ columns servers read e ≡ get_or (made_whole σ columns servers vs zs) e 0
  whole_adds e =
      read_adds e
      ∙ added_is_whole σ facts columns servers vs zs (some σ facts sheet servers id vs zs m.several.0 m.enough m.below)
      (random_below σ facts sheet servers id vs zs m.several.0 m.enough m.below) entries_below e

  pub read_back : ReadBack σ sheet servers id vs zs messages
  read_back = record {
    brings = brings;
    adds_up = whole_adds;
    entries_add_up = λ e l. whole_adds e ∙ each.parts_are.entry_is e l;
  }

-- ---- what each check says
values_legal : (cs : List Column) (values : List ℕ) → values_fault cs values ≡ 0 → legal_values cs (elements_of 4 values) ≡ true
unfolding values_fault
values_legal cs values e = and_right (eqb (length values) (4 * length cs)) _ (check_passed _ 4 e)

module _ (σ : Setting) (facts : Facts σ) where
  -- as many elements as the bytes say
  pub many_elements : (s : List ℕ) (n : ℕ) → length s ≡ σ.width * n → length (elements_of σ.width s) ≡ n
  many_elements s n e = ap length (elements_whole σ.width (width_positive σ facts) s n e) ∙ length_tabulate _ n

  module _ (sheet : List ℕ) (servers : ℕ) (values : List ℕ) where
    -- the first checks are those of both ways of making
    pub makes_from : (random : List ℕ) → sheet_fault sheet ≡ 0 → servers_fault servers ≡ 0 → values_fault (columns_of sheet) values ≡ 0
        → length random ≡ random_count servers (columns_of sheet) → all_below σ.modulus random ≡ true
        → Makes σ sheet servers (elements_of 4 values) random
    makes_from random a b c enough below = record {
      is_read = a;
      several = within_both 2 8 servers (check_passed (within 2 8 servers) 1 b);
      legal = values_legal (columns_of sheet) values c;
      enough = enough;
      below = below;
    }

    pub makes : (random : List ℕ) (room : ℕ) → make_refusal σ sheet servers values random room ≡ 0
        → Makes σ sheet servers (elements_of 4 values) (elements_of σ.width random)
    unfolding make_refusal random_fault
    makes random room e =
        let cs : List Column = columns_of sheet in
        let c₁ = or_zero (sheet_fault sheet) _ e in
        let c₂ = or_zero (servers_fault servers) _ c₁.1 in
        let c₃ = or_zero (values_fault cs values) _ c₂.1 in
        let c₄ = or_zero (random_fault σ servers cs random) _ c₃.1 in
        let fit : Bool = eqb (length random) (σ.width * random_count servers cs) in
        let both = check_passed (fit && all_below σ.modulus (elements_of σ.width random)) 5 c₄.0 in
        makes_from (elements_of σ.width random) c₁.0 c₂.0 c₃.0
        (many_elements random (random_count servers cs) (eqb-true _ _ (and_left fit _ both)))
        (and_right fit _ both)

-- ---- the bytes of making
module _ (σ : Setting) (facts : Facts σ) (sheet : List ℕ) (servers id : ℕ) (values random : List ℕ)
    (m : Makes σ sheet servers (elements_of 4 values) (elements_of σ.width random)) where
  abbrev size : ℕ
  size = share_length σ (columns_of sheet)

  abbrev vs : List ℕ
  vs = elements_of 4 values

  abbrev zs : List ℕ
  zs = elements_of σ.width random

  abbrev messages : ℕ → List ℕ
  messages i = share_message σ id i (share_made σ sheet servers id vs zs i)

  -- the messages one after another
  from_is : (i n : ℕ) → made_from σ (columns_of sheet) servers vs zs id i n ≡ flatten (map messages (count_from i n))
  unfolding made_from flatten count_from
  from_is i zero = refl
  from_is i (suc n) = ap (λ (l : List ℕ). messages i ++ l) (from_is (suc i) n)

  bytes_are : make_bytes σ sheet servers id values random ≡ one_by_one messages servers
  unfolding make_bytes
  bytes_are = from_is 0 servers

  each_long : (i : ℕ) → length (messages i) ≡ size
  unfolding share_length
  each_long i =
      length_message σ 33 id i (share_made σ sheet servers id vs zs i)
      ∙ ap (λ k. 6 + σ.width * k)
      ((shared σ facts sheet servers id vs zs m.several.0 m.enough m.below).share_length_lem i)

  at_place : (i : ℕ) → i < servers → made_part σ sheet servers id values random i ≡ messages i
  at_place i l = ap (part (size * i) size) bytes_are ∙ part_one_by_one messages size servers (λ k h. each_long k) i l

  written : MadeReturn σ sheet servers id vs zs (made_part σ sheet servers id values random)
  written = made_return σ sheet servers id vs zs m (made_part σ sheet servers id values random) (λ i l. long (at_place i l))

  pub made_bytes : MadeBytes σ sheet servers id values random
  made_bytes = record {
    length_is =
        ap length bytes_are ∙ length_one_by_one messages size servers (λ k h. each_long k) ∙ mul_comm size servers;
    message_is = at_place;
    return = written;
    drawn = λ i l.
        ((read_back σ facts sheet servers id vs zs (made_part σ sheet servers id values random) written).brings (suc i) l).says
        ∙ share_drawn σ facts sheet servers id vs zs m.several.0 m.enough m.below i l;
  }

-- wherever making is not refused
pub makes_bytes : (σ : Setting) → Facts σ → (sheet : List ℕ) (servers id : ℕ) (values random : List ℕ) (room : ℕ)
    → make_refusal σ sheet servers values random room ≡ 0 → MadeBytes σ sheet servers id values random
makes_bytes σ facts sheet servers id values random room e =
    made_bytes σ facts sheet servers id values random (makes σ facts sheet servers values random room e)
