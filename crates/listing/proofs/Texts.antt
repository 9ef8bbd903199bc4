-- The text of a kit, by its size, its words and its run. Assumes nothing.
use mathlib.Core.Path.{◌≡◌, sym, ap, ◌∙◌}
use mathlib.Core.Bool.{Bool, true, false, cond}
use mathlib.Core.List.{List}
use Prim.Native.Nat.{ℕ, ◌-◌, ◌*◌, ◌/◌, ◌≤◌}
use native.Mathlib.Omega.{arith}
use lib.ListN.{length}
use lib.Dec.{ltb}
use Rattle.kit_bytes.specs.KitBytes.{whole_words, words_of, overlaid}
use Rattle.kit_bytes.proofs.Words.{words_length, overlaid_all}
use Rattle.refusal.specs.declared.Refusal.TheVariants.{WrongLog}
use Rattle.refusal.specs.declared.Part.TheVariants.{Log}
use Rattle.std.proofs.Common.{Result}
use Rattle.refusal.specs.declared.KitRefusal.{KitRefusal}
use Rattle.kit_run.specs.KitRun.{kit_ran}
use Rattle.listing.specs.Listing.{refused_text, of_words, said, listed, answer_text, cycles_of, HasCycles, Rooms}
use Rattle.listing.proofs.Told.{Told, told}

-- ---- the room of a kit's words: each call for another has less to go, from too little by way of the largest to just enough

abbrev pub less : ℕ → ℕ → ℕ
less kit room = cond (ltb room (kit / 4)) 40000 (room - kit / 4)

-- ---- the words of a kit's bytes, and their run

module _ (kit room ran : List ℕ) (rooms : Rooms kit room ran) (fits : length room ≡ length kit / 4) where
  for_cycles : 3 * (length kit / 28) ≤ length ran
  for_cycles = rooms.for_cycles (omega (arith, rooms.whole))

  many : length (words_of kit) ≡ length kit / 4
  many = words_length kit (length kit / 4) (omega (arith, rooms.whole))

  there : Told (of_words (words_of kit)) ran (kit_ran (words_of kit) ran)
  there = told ran (words_of kit) (omega (arith, many, rooms.short)) (omega (arith, many, for_cycles))

  module _ {words : List ℕ} (read : words ≡ overlaid (words_of kit) room) {answer : Result ℕ KitRefusal} {out : List ℕ} (is : answer ≡ (kit_ran words ran).answer) (put : out ≡ (kit_ran words ran).out) where
    all_read : words ≡ words_of kit
    all_read = read ∙ overlaid_all (words_of kit) room (many ∙ sym fits)

    the_answer : answer ≡ (kit_ran (words_of kit) ran).answer
    the_answer = is ∙ ap (λ (l : List ℕ). (kit_ran l ran).answer) all_read

    the_output : out ≡ (kit_ran (words_of kit) ran).out
    the_output = put ∙ ap (λ (l : List ℕ). (kit_ran l ran).out) all_read

    pub run_there : HasCycles answer out
    run_there = (omega (arith, there.1, ap length the_output, ap cycles_of the_answer), omega (arith, there.2, ap length the_output, rooms.few_cycles))

    pub run_told : answer_text answer out ≡ of_words (words_of kit)
    run_told = (λ i. answer_text (the_answer i) (the_output i)) ∙ there.0

-- ---- the size of a kit

module _ (kit : List ℕ) {r : Bool} (asked : r ≡ whole_words (length kit)) where
  pub listed_whole : r ≡ true → of_words (words_of kit) ≡ listed kit
  unfolding said
  listed_whole t = simp (sym asked ∙ t)

  pub listed_odd : r ≡ false → refused_text (WrongLog 0) Log ≡ listed kit
  unfolding said
  listed_odd t = simp (sym asked ∙ t)
