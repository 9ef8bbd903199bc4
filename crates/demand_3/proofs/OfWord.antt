-- Laws of the channel word: each part of it is read back from its place. By one law of a number that is put together. Assumes nothing.
use Prim.Native.Nat.{ℕ, ◌+◌, ◌*◌, ◌≤◌, ◌<◌, ◌/◌, ◌%◌, ◌^◌}
use mathlib.Core.Bool.{Bool, true, false, cond, ◌||◌}
use mathlib.Core.List.{List}
use mathlib.Core.Path.{◌≡◌, refl, sym, ◌∙◌}
use native.Mathlib.Nat.{mod-eq_of_lt}
use native.Mathlib.Omega.{arith}
use borrow.Author.Tests.{eqb-true, le-ltb}
use lib.Dec.{ltb, eqb}
use lib.IntN.{ℤ}
use Rattle.bits.specs.Bits.{bit_of, field_of, flag}
use Rattle.machine_data.specs.Data.{function_of}
use Rattle.selection.specs.declared.Selection.{Selection}
use Rattle.selection.specs.declared.Selection.TheVariants.{Nothing, Sg, Sbh}
use Rattle.stop.specs.Stop.{rank_of, level_of}
use Rattle.state.specs.declared.State.{State}
use Rattle.selection.specs.Selection.{is_effective}
use Rattle.channel_word.specs.Word.{shown_sg, is_held, placed, shown_cams, shown_nx, word_by}
use Rattle.channel_word.proofs.Widths.{sg_le}
use Rattle.advance.specs.After.{shown_word}
use Rattle.device.specs.Device.{word_rank}
use Rattle.demand_3.specs.Claims.{sg_less_one}
use Rattle.laws.proofs.Bools.{if_case}
use Rattle.bits.proofs.Fields.{part, flag_is, flag_small}
use Rattle.rank.proofs.Laws.{rank_le}

bit_is : (w n : ℕ) (b : Bool) → w / 2 ^ n % 2 ≡ flag b → bit_of w n ≡ b
unfolding bit_of
bit_is w n b e = flag_is b (w / 2 ^ n % 2) e

-- ---- the parts of a word

module _ (effective cancelled nx held fault : Bool) (cams sg rank : ℕ) (cams_small : cams < 256) (sg-small : sg < 4) (rank-small : rank ≤ 5) where
  abbrev w : ℕ
  w = placed (flag effective) (flag cancelled) cams sg (flag nx) rank (flag held) (flag fault)

  -- the parts of one bit
  record Flags : Type 0 where
    e1 : flag effective < 2
    c1 : flag cancelled < 2
    s1 : flag nx < 2
    h1 : flag held < 2

  flags : Flags
  flags = record { e1 = flag_small effective; c1 = flag_small cancelled; s1 = flag_small nx; h1 = flag_small held }

  placed_effective : bit_of w 0 ≡ effective
  placed_effective = let f = flags in bit_is w 0 effective (omega arith)

  placed_cancelled : bit_of w 2 ≡ cancelled
  placed_cancelled = let f = flags in bit_is w 2 cancelled (omega arith)

  placed_sg : field_of w 19 4 ≡ sg
  unfolding field_of
  placed_sg =
      let f = flags in
      part (2 ^ 19) 4 (flag effective + 2 ^ 2 * flag cancelled + 2 ^ 7 + 2 ^ 8 * cams) sg (flag nx + 2 ^ 3 * rank + 2 ^ 6 * flag held + 2 ^ 7 * flag fault) _
      (omega arith) sg-small (omega arith)

  placed_nx : bit_of w 21 ≡ nx
  placed_nx =
      let f = flags in
      bit_is w 21 nx
      (part (2 ^ 21) 2 (flag effective + 2 ^ 2 * flag cancelled + 2 ^ 7 + 2 ^ 8 * cams + 2 ^ 19 * sg) (flag nx) (2 ^ 2 * rank + 2 ^ 5 * flag held + 2 ^ 6 * flag fault) _
      (omega arith) (omega arith) (omega arith))

  placed_rank : field_of w 24 8 ≡ rank
  unfolding field_of
  placed_rank =
      let f = flags in
      part (2 ^ 24) 8 (flag effective + 2 ^ 2 * flag cancelled + 2 ^ 7 + 2 ^ 8 * cams + 2 ^ 19 * sg + 2 ^ 21 * flag nx) rank (flag held + 2 * flag fault) _
      (omega arith) (omega arith) (omega arith)

  placed_held : bit_of w 27 ≡ held
  placed_held =
      let f = flags in
      bit_is w 27 held
      (part (2 ^ 27) 2 (flag effective + 2 ^ 2 * flag cancelled + 2 ^ 7 + 2 ^ 8 * cams + 2 ^ 19 * sg + 2 ^ 21 * flag nx + 2 ^ 24 * rank) (flag held) (flag fault) _
      (omega arith) (omega arith) (omega arith))

  -- the device reads the same rank, where bit 2 stands for rank 5
  placed_word_rank : cancelled ≡ eqb rank 5 → word_rank w ≡ rank
  unfolding word_rank
  placed_word_rank e = go (bit_of w 2) (placed_cancelled ∙ e) (field_of w 24 8) placed_rank
    where
      go : (t : Bool) → t ≡ eqb rank 5 → (y : ℕ) → y ≡ rank → cond (t || ltb 5 y) 5 y ≡ rank
      go true p y q = sym (eqb-true rank 5 (sym p))
      go false p y q = simp (le-ltb 5 y (omega arith)) q

  record Parts : Type 0 where
    is_effective_lem : bit_of w 0 ≡ effective
    is_sg_lem : field_of w 19 4 ≡ sg
    is_rank : field_of w 24 8 ≡ rank
    is_held_lem : bit_of w 27 ≡ held
    is_word_rank : word_rank w ≡ rank

  parts : cancelled ≡ eqb rank 5 → Parts
  parts e =
      record {
        is_effective_lem = placed_effective;
        is_sg_lem = placed_sg;
        is_rank = placed_rank;
        is_held_lem = placed_held;
        is_word_rank = placed_word_rank e;
      }

-- ---- the word of a state

pub record Shows (w : ℕ) (s : State) : Type 0 where
  pub rank : field_of w 24 8 ≡ level_of s.stop
  pub word_rank_lem : word_rank w ≡ level_of s.stop
  pub held : bit_of w 27 ≡ is_held s.stop
  pub effective : bit_of w 0 ≡ is_effective s.kept.choice.effective
  pub sg : field_of w 19 4 ≡ sg_less_one s.kept.choice.effective

shown_sg_lem : (x : Selection) → sg_less_one x < 4 → shown_sg x ≡ sg_less_one x
shown_sg_lem Nothing h = refl
shown_sg_lem (Sg n o) h = mod-eq_of_lt h
shown_sg_lem Sbh h = refl

eight_cams : (d : List ℤ) (cams : ℕ) → shown_cams d cams < 256
eight_cams d cams = if_case (λ k. k < 256) (function_of d 2) _ _ (λ _. omega arith) (λ _. omega arith)

-- "21 n<nx"
pub shows_nx : (d : List ℤ) (s : State) (nx : Bool) → bit_of (shown_word d s nx) 21 ≡ shown_nx d nx
unfolding word_by
shows_nx d s nx =
    placed_nx (is_effective s.kept.choice.effective) (eqb (level_of s.stop) 5) (shown_nx d nx) (is_held s.stop) s.kept.fault.on
    (shown_cams d s.kept.cams) (shown_sg s.kept.choice.effective) (level_of s.stop)
    (eight_cams d s.kept.cams) (omega (arith, sg_le s.kept.choice.effective)) (rank_le (rank_of s.stop))

pub shows : (d : List ℤ) (s : State) (nx : Bool) → sg_less_one s.kept.choice.effective < 4 → Shows (shown_word d s nx) s
unfolding word_by
shows d s nx g =
    let sg = shown_sg_lem s.kept.choice.effective g in
    let p = parts (is_effective s.kept.choice.effective) (eqb (level_of s.stop) 5) (shown_nx d nx) (is_held s.stop) s.kept.fault.on
    (shown_cams d s.kept.cams) (shown_sg s.kept.choice.effective) (level_of s.stop)
    (eight_cams d s.kept.cams) (omega arith) (rank_le (rank_of s.stop)) refl in
    record {
      rank = p.is_rank;
      word_rank_lem = p.is_word_rank;
      held = p.is_held_lem;
      effective = p.is_effective_lem;
      sg = p.is_sg_lem ∙ sg;
    }
