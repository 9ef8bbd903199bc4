-- What reading a list leaves, by its answer. Assumes nothing.
use Rattle.std.specs.Prelude.{Result, Ok, Err}
use mathlib.Core.Path.{◌≡◌, sym, ap, ◌∙◌}
use mathlib.Core.List.{List}
use Prim.Native.Nat.{ℕ}
use native.Mathlib.Omega.{arith}
use lib.IntN.{ℤ}
use Rattle.refusal.specs.declared.Refusal.{Refusal}
use Rattle.refusal.specs.Refusal.{refusal_number, refusal_place}
use Rattle.list.specs.declared.ListRead.{ListRead}
use Rattle.list.specs.Reading.{read_list}
use Rattle.state.specs.declared.State.{State}
use Rattle.state.specs.State.{fresh_state}
use Rattle.channel.specs.Cycle.{fresh_channel}
use Rattle.image.specs.Image.{state_words}
use Rattle.channel_image.specs.Channels.{channel_from}
use Rattle.image_writing.specs.Written.{written_as, writing}
use Rattle.crossing_lists.specs.Answers.{list_number, list_place, list_left}
use Rattle.crossing_lists.proofs.Counts.{some_data}
use Rattle.axis_monitor.specs.Left.{ListLeft, left_by_list, list_into}
use Rattle.channel_image.proofs.Channels.{written}

module _ (words : List ℕ) (values : List ℤ) (state : List ℕ) {read : ListRead} (is : read ≡ read_list words) where
  -- what a list leaves, by its answer
  abbrev leaving : Result ℕ Refusal → ListLeft
  leaving a =
      let list = (read_list words).list in
      record {
        number = list_number a;
        place = list_place a;
        values = list_left a values list.values;
        state = list_left a state (state_words list.count fresh_state 0);
        channel = λ p. list_left a (channel_from values p state) (fresh_channel list);
      }

  pub taken : {used : ℕ} {s : State} {w : List ℕ} → read.answer ≡ Ok used → s ≡ fresh_state → written_as w ≡ writing read.list.count s 0 →
      left_by_list 0 read.list.values w used ≡ list_into words values state
  taken {used} {s} {w} e new put =
      let answer : (read_list words).answer ≡ Ok used = ap (λ (r : ListRead). r.answer) (sym is) ∙ e in
      let here : written_as w ≡ writing (read_list words).list.count fresh_state 0 = put ∙ (λ i. writing (is i).list.count (new i) 0) in
      let fresh : (p : List ℤ) → channel_from (read_list words).list.values p w ≡ fresh_channel (read_list words).list =
      λ p. written (read_list words).list.values p (read_list words).list.count fresh_state 0 (some_data words used answer).1 (omega arith) here in
      let whole : (p : List ℤ) → channel_from read.list.values p w ≡ fresh_channel (read_list words).list =
      λ p. ap (λ (r : ListRead). channel_from r.list.values p w) is ∙ fresh p in
      (λ i. record { number = 0; place = used; values = (is i).list.values; state = (here i).words; channel = λ p. whole p i }) ∙ ap leaving (sym answer)

  pub refused : {why : Refusal} {number at : ℕ} → read.answer ≡ Err why → number ≡ refusal_number why → at ≡ refusal_place why → left_by_list number values state at ≡ list_into words values state
  refused {why} e number at =
      let answer : (read_list words).answer ≡ Err why = ap (λ (r : ListRead). r.answer) (sym is) ∙ e in
      (λ i. left_by_list (number i) values state (at i)) ∙ ap leaving (sym answer)
