-- What an ask leaves, by the answer of its list. Assumes nothing.
use Rattle.std.specs.Prelude.{Result, Ok, Err}
use mathlib.Core.Path.{◌≡◌, sym, ap, ◌∙◌}
use mathlib.Core.List.{List, ◌++◌}
use Prim.Native.Nat.{ℕ, ◌≤◌, ◌<◌}
use native.Mathlib.Omega.{arith}
use borrow.Author.Tests.{ne_eqb}
use lib.IntN.{ℤ}
use Rattle.refusal.specs.declared.Refusal.{Refusal}
use Rattle.refusal.specs.Refusal.{refusal_number, refusal_place}
use Rattle.machine_data.specs.declared.MachineData.{MachineData}
use Rattle.inputs.specs.declared.Reading.{Reading}
use Rattle.report.specs.declared.Report.{Report}
use Rattle.codes.specs.declared.Causes.{Causes}
use Rattle.list.specs.declared.ListRead.{ListRead}
use Rattle.list.specs.Reading.{read_list}
use Rattle.crossing_lists.specs.Answers.{list_number, list_place, list_left}
use Rattle.crossing_lists.proofs.Counts.{some_data, no_data}
use Rattle.pending.specs.Pending.{told_of, asked_of}
use Rattle.image.specs.Image.{state_from, pending_words, front_in, directions_in}
use Rattle.image_writing.specs.Written.{Written, written_as, writing_pending}
use Rattle.channel_image.specs.Channels.{pending_of, channel_from}
use Rattle.channel_image.proofs.Channels.{whole_count}
use Rattle.axis_lists.specs.Left.{AskLeft, left_by_ask, ask_into}

-- a pending list of some data is there
here : (m : MachineData) → 1 ≤ m.count → pending_of m.values m.count ≡ m
here m h = simp (ne_eqb m.count 0 (λ e. omega arith))

module _ (words state : List ℕ) (p : List ℤ) (codes : List ℕ) (r : Reading) (o : Report) {read : ListRead} (is : read ≡ read_list words) {w : List ℕ}
    (put : written_as w ≡ writing_pending read.list.count state) where
  abbrev L : ListRead
  L = read_list words

  there : written_as w ≡ writing_pending L.list.count state
  there = put ∙ (λ i. writing_pending (is i).list.count state)

  -- what an ask leaves, by its answer
  abbrev leaving : Result ℕ Refusal → AskLeft
  leaving x =
      record {
        number = list_number x;
        place = list_place x;
        state = front_in state ++ (directions_in state ++ pending_words L.list.count);
        pending = list_left x p L.list.values;
        codes = list_left x codes (told_of L.list (state_from state) r o).codes;
        channel = λ values. (asked_of (channel_from values p state) words r o).channel;
      }

  -- the channel that the arrays then stand for, where the data of the pending list are these
  channel_is : (p' : List ℤ) → L.list.count < 4294967296 → pending_of p' L.list.count ≡ L.list → (values : List ℤ) →
      channel_from values p' w ≡ (asked_of (channel_from values p state) words r o).channel
  channel_is p' small is-list values =
      let same = ap (λ (x : Written). x.count) there in
      let kept = ap (λ (x : Written). x.state) there in
      let left = ap (pending_of p') (ap (λ (x : Written). x.pending) there ∙ whole_count L.list.count small) ∙ is-list in
      λ i. record { list = record { values = values; count = same i }; state = kept i; pending = left i }

  pub taken : {used : ℕ} {told : Causes} → read.answer ≡ Ok used → told ≡ told_of read.list (state_from state) r o →
      left_by_ask 0 w read.list.values told.codes used ≡ ask_into words state p codes r o
  taken {used} {told} e q =
      let answer : L.answer ≡ Ok used = ap (λ (x : ListRead). x.answer) (sym is) ∙ e in
      let some = some_data words used answer in
      let tells : told ≡ told_of L.list (state_from state) r o = q ∙ ap (λ (x : ListRead). told_of x.list (state_from state) r o) is in
      let channel : (values : List ℤ) → channel_from values read.list.values w ≡ (asked_of (channel_from values p state) words r o).channel =
      λ values. ap (λ (x : ListRead). channel_from values x.list.values w) is ∙ channel_is L.list.values some.1 (here L.list some.0) values in
      (λ i. record { number = 0; place = used; state = (there i).words; pending = (is i).list.values; codes = (tells i).codes; channel = λ values. channel values i })
      ∙ ap leaving (sym answer)

  pub refused : {why : Refusal} {number at : ℕ} → read.answer ≡ Err why → number ≡ refusal_number why → at ≡ refusal_place why →
      left_by_ask number w p codes at ≡ ask_into words state p codes r o
  refused {why} e number at =
      let answer : L.answer ≡ Err why = ap (λ (x : ListRead). x.answer) (sym is) ∙ e in
      let none = no_data words why answer in
      let few : L.list.count < 4294967296 = omega (arith, ap (λ (m : MachineData). m.count) none) in
      let channel = channel_is p few (ap (λ (m : MachineData). pending_of p m.count) none ∙ sym none) in
      (λ i. record { number = number i; place = at i; state = (there i).words; pending = p; codes = codes; channel = λ values. channel values i })
      ∙ ap leaving (sym answer)
