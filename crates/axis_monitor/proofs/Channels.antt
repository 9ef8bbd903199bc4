-- A cycle leaves the arrays of the channel after it. Assumes nothing.
use mathlib.Core.Path.{◌≡◌, refl, sym, ap, ◌∙◌}
use mathlib.Core.Bool.{Bool, true, false, cond}
use mathlib.Core.List.{List, ◌++◌}
use Prim.Native.Nat.{ℕ, ◌%◌, ◌<◌}
use lib.IntN.{ℤ}
use Rattle.machine_data.specs.declared.MachineData.{MachineData}
use Rattle.machine_data.specs.Data.{lent, function_of}
use Rattle.inputs.specs.declared.Reading.{Reading}
use Rattle.usable_inputs.specs.Usable.{usable_of}
use Rattle.codes.specs.declared.Causes.{Causes}
use Rattle.codes.specs.Codes.{causes_as}
use Rattle.state.specs.declared.Given.{Given}
use Rattle.state.specs.declared.State.{State}
use Rattle.advance.specs.declared.Advanced.{Advanced}
use Rattle.channel.specs.Outcome.{causes_in, advanced}
use Rattle.channel.proofs.Judging.{usable_cycle, usable_causes, unusable_cycle, unusable_causes}
use Rattle.directions.specs.declared.Directions.{Directions}
use Rattle.directions.specs.declared.Watched.{Watched}
use Rattle.directions.specs.Directions.{directions_next, overstepped, watched_of}
use Rattle.channel.specs.Cycle.{with_list, with_state, next}
use Rattle.image.specs.Image.{count_from, directions_from, state_from, front_words, direction_words, pending_words, directions_in}
use Rattle.channel_image.specs.Channels.{list_from, pending_of, channel_from}
use Rattle.image_writing.specs.Written.{Written, written_as, with_directions, writing_front, DirectionsWritten, directions_as, writing_directions}
use Rattle.channel_image.proofs.Channels.{whole_count}
use Rattle.axis_monitor.specs.Left.{WayLeft, left_by_way, guarding, words_over, writing_over, leaving, usable_leaves, unusable_leaves, left_by_cycle, guarded_in, cycle_on}

-- the words of the directions that are there before the front is put over them are those of y where they were written, and else as they were
abbrev Tail : Bool → Directions → List ℕ → DirectionsWritten → Type 0
Tail guarded y w z = (directions_in z.words ≡ cond guarded (direction_words y) (directions_in w)) × (z.directions ≡ cond guarded y (directions_from w))

-- what a way of a cycle leaves, by what its functions give
pub way_left : (guarded : Bool) (count : ℕ) {a r : Advanced} {causes : Causes} {many : ℕ} (w : List ℕ) {v u codes' : List ℕ} {z : DirectionsWritten} → r ≡ a → causes_as codes' many ≡ causes →
    directions_as v ≡ z → Tail guarded r.state.kept.directions w z → written_as u ≡ writing_front count r.state v →
    left_by_way r.word u codes' ≡ leaving guarded count a causes w
way_left guarded count {r = r} w {v} is listed there tail put =
    let words = ap (λ (x : DirectionsWritten). directions_in x.words) there ∙ tail.0 in
    let back = ap (λ (x : DirectionsWritten). x.directions) there ∙ tail.1 in
    let over : writing_front count r.state v ≡ writing_over guarded count r.state w =
    λ i. record { words = front_words count r.state ++ (words i ++ pending_words 0); state = with_directions r.state (back i); count = count % 4_294_967_296; pending = 0 } in
    let written_as = put ∙ over ∙ ap (λ (x : Advanced). writing_over guarded count x.state w) is in
    λ i. record { word = (is i).word; written = written_as i; codes = (listed i).codes }

-- by the function
pub guarded_tail : (d : List ℤ) (r : Reading) (x : Directions) (w : List ℕ) {y : Directions} → y ≡ (watched_of d r x).directions → Tail (function_of d 5) y w (guarding d r x w)
unfolding watched_of
guarded_tail d r x w {y} = go (function_of d 5)
  where
    go : (f : Bool) → y ≡ (cond {A = Watched} f (record { directions = directions_next d r x; overstepped = overstepped d r.position (directions_next d r x) }) (record { directions = x; overstepped = false })).directions →
        Tail f y w (cond f (writing_directions (directions_next d r x) w) (directions_as w))
    go true is = (ap direction_words (sym is), sym is)
    go false is = (refl, refl)

module _ (m : MachineData) (s : State) (g : Given) (w : List ℕ) where
  -- either way leaves what the cycle of the definitions does
  pub usable_way : usable_of m g.reading ≡ true → usable_leaves m s g w ≡ leaving (guarded_in m g) m.count (advanced m s g) (causes_in m s g) w
  unfolding usable_leaves
  usable_way u = simp u (λ i. leaving (function_of m.values 5) m.count (usable_cycle m s g u i) (usable_causes m s g u i) w)

  pub unusable_way : usable_of m g.reading ≡ false → unusable_leaves m s w ≡ leaving (guarded_in m g) m.count (advanced m s g) (causes_in m s g) w
  unfolding unusable_leaves
  unusable_way u = simp u (λ i. leaving false m.count (unusable_cycle m s g u i) (unusable_causes m s g u i) w)

-- a cycle that does not write the directions leaves them as they are
unwritten : (m : MachineData) (s : State) (g : Given) → cond (guarded_in m g) (next m s g).kept.directions s.kept.directions ≡ (next m s g).kept.directions
unfolding next watched_of
unwritten m s g = go (usable_of m g.reading) refl (function_of m.values 5) refl
  where
    go : (u : Bool) → usable_of m g.reading ≡ u → (f : Bool) → function_of m.values 5 ≡ f →
        cond (guarded_in m g) (next m s g).kept.directions s.kept.directions ≡ (next m s g).kept.directions
    go true p true q = simp (p, q)
    go true p false q = simp (p, q)
    go false p f q = simp p

module _ (values : List ℤ) (w : List ℕ) (g : Given) where
  pub cycled : {count n : ℕ} {w' codes' : List ℕ} → count ≡ count_from w → count < 4294967296 →
      left_by_way n w' codes' ≡ leaving (guarded_in (lent values count) g) count (advanced (lent values count) (state_from w) g) (causes_in (lent values count) (state_from w) g) w →
      left_by_cycle values n w' codes' ≡ cycle_on values w g
  unfolding state_from
  cycled {count} {w' = w'} is small left =
      let m = ap (lent values) is in
      let s = state_from w in
      let put = ap (λ (x : WayLeft). x.written) left in
      let word_is = ap (λ (x : WayLeft). x.word) left ∙ (λ i. (advanced (m i) s g).word) in
      let words_are = ap (λ (x : Written). x.words) put ∙ (λ i. words_over (guarded_in (m i) g) (is i) (advanced (m i) s g).state w) in
      let whole = ap (λ (x : Written). x.state) put ∙ ap (with_directions (next (lent values count) s g)) (unwritten (lent values count) s g) in
      let back = ap (λ (x : Written). x.count) put ∙ whole_count count small in
      let none = ap (λ (x : Written). x.pending) put in
      let kept : (p : List ℤ) → channel_from values p w' ≡ with_list (lent values count) (next (lent values count) s g) =
      λ p i. record { list = lent values (back i); state = whole i; pending = pending_of p (none i) } in
      let channel_is : (p : List ℤ) → channel_from values p w' ≡ with_state (channel_from values p w) (next (list_from values w) s g) =
      λ p. kept p ∙ (λ i. with_list (m i) (next (m i) s g)) in
      let codes_are = ap (λ (x : WayLeft). x.codes) left ∙ (λ i. (causes_in (m i) s g).codes) in
      λ i. record { word = word_is i; state = words_are i; codes = codes_are i; channel = λ p. channel_is p i }
