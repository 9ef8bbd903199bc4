-- A state that goes into words comes back, part by part. Assumes nothing.
use mathlib.Core.Path.{◌≡◌, refl, ap, ◌∙◌}
use mathlib.Core.List.{List, ◌++◌}
use Prim.Native.Nat.{ℕ, ◌%◌, ◌<◌}
use native.Mathlib.Omega.{arith}
use Rattle.state.specs.declared.State.{State}
use Rattle.crossing.proofs.Back.{signed_back, yes_back}
use Rattle.image_cases.proofs.Back.{byte_back, previous_back, watch_back, selection_back, stop_back}
use Rattle.directions.specs.declared.Directions.{Directions}
use Rattle.image.specs.Image.{count_from, pending_count, directions_from, state_from, front_words, direction_words, pending_words, state_words, front_in, directions_in, pending_in, Fits, DirectionsFit}
use Rattle.image_writing.specs.Written.{Written, written_as, writing, with_directions, writing_front, writing_pending, DirectionsWritten, directions_as, writing_directions}

-- what the words of the front are read as, over any others, and those of the directions, behind any front
module _ (count : ℕ) (s : State) (h : Fits s) where
  pub front_back : (x : Directions) (rest : List ℕ) → directions_from (front_words count s ++ rest) ≡ x → state_from (front_words count s ++ rest) ≡ with_directions s x
  unfolding state_from
  front_back x rest is = λ i.
      record {
        k = byte_back s.k h.k i;
        kept =
            record {
              cams = s.kept.cams;
              choice =
                  record {
                    chosen = yes_back s.kept.choice.chosen i;
                    effective = selection_back s.kept.choice.effective h.effective i;
                    reference = signed_back s.kept.choice.reference h.reference i;
                    left = s.kept.choice.left;
                  };
              differing = s.kept.differing;
              fault = record { on = yes_back s.kept.fault.on i; left = s.kept.fault.left };
              nx = record { run = s.kept.nx.run; on = yes_back s.kept.nx.on i };
              directions = is i;
            };
        stop = stop_back s.stop h.stop i;
        previous = previous_back s.previous h.previous i;
      }

pub directions_back : (x : Directions) → DirectionsFit x → (count : ℕ) (s : State) (rest : List ℕ) → directions_from (front_words count s ++ (direction_words x ++ rest)) ≡ x
directions_back x h count s rest = λ i.
    record {
      positive = record { run = x.positive.run; watch = watch_back x.positive.watch h.positive i };
      negative = record { run = x.negative.run; watch = watch_back x.negative.watch h.negative i };
    }

-- a channel that goes out and comes back is the same channel: its state, and the count of its list
pub comes_back : (count : ℕ) (s : State) (pending : ℕ) → Fits s → DirectionsFit s.kept.directions → state_from (state_words count s pending) ≡ s
unfolding state_words
comes_back count s pending h x =
    front_back count s h s.kept.directions (direction_words s.kept.directions ++ pending_words pending)
    (directions_back s.kept.directions x count s (pending_words pending))

counts_kept : (count : ℕ) (s : State) (pending : ℕ) →
    (count_from (state_words count s pending) ≡ count % 4_294_967_296) × (pending_count (state_words count s pending) ≡ pending % 4_294_967_296)
unfolding state_words
counts_kept count s pending = (refl, refl)

pub counts_come_back : (count : ℕ) (s : State) (pending : ℕ) → count < 4_294_967_296 → pending < 4_294_967_296 →
    (count_from (state_words count s pending) ≡ count) × (pending_count (state_words count s pending) ≡ pending)
counts_come_back count s pending h k = let e = counts_kept count s pending in (omega (arith, e.0), omega (arith, e.1))

-- ---- the words as the machine puts them together, where each part is its definition's

pub written_front : (count : ℕ) (s : State) → Fits s → (w : List ℕ) {v : List ℕ} → v ≡ front_words count s ++ (directions_in w ++ pending_words 0) → written_as v ≡ writing_front count s w
written_front count s h w e =
    let state = ap state_from e ∙ front_back count s h (directions_from w) (directions_in w ++ pending_words 0) refl in
    let back = ap count_from e in
    let none = ap pending_count e in
    λ i. record { words = e i; state = state i; count = back i; pending = none i }

-- the pending list's count over any words: what else they stand for stays
same_state : (pending : ℕ) (w : List ℕ) → state_from (front_in w ++ (directions_in w ++ pending_words pending)) ≡ state_from w
unfolding state_from
same_state pending w = refl

pub written_pending : (pending : ℕ) (w : List ℕ) {v : List ℕ} → v ≡ front_in w ++ (directions_in w ++ pending_words pending) → written_as v ≡ writing_pending pending w
written_pending pending w e =
    let state = ap state_from e ∙ same_state pending w in
    let back = ap count_from e in
    let kept = ap pending_count e in
    λ i. record { words = e i; state = state i; count = back i; pending = kept i }

pub written_directions : (x : Directions) → DirectionsFit x → (w : List ℕ) {v : List ℕ} → v ≡ front_in w ++ (direction_words x ++ pending_in w) → directions_as v ≡ writing_directions x w
written_directions x h w e =
    let back = ap directions_from e ∙ (λ i. record { positive = record { run = x.positive.run; watch = watch_back x.positive.watch h.positive i }; negative = record { run = x.negative.run; watch = watch_back x.negative.watch h.negative i } }) in
    λ i. record { words = e i; directions = back i }

-- all, one behind the other: words v with the directions of s, the front over them, and the pending list's count
pub written_all : (count : ℕ) (s : State) (pending : ℕ) (w : List ℕ) {v u t : List ℕ} → directions_as v ≡ writing_directions s.kept.directions w →
    written_as u ≡ writing_front count s v → written_as t ≡ writing_pending pending u → written_as t ≡ writing count s pending
unfolding state_words
written_all count s pending w {v} {u} put over last =
    let tail = ap (λ (x : DirectionsWritten). directions_in x.words) put in
    let back = ap (λ (x : DirectionsWritten). x.directions) put in
    let front = ap (λ (x : Written). front_in x.words) over in
    let kept = ap (λ (x : Written). directions_in x.words) over in
    let state = ap (λ (x : Written). x.state) over ∙ ap (with_directions s) back in
    let same = ap (λ (x : Written). x.count) over in
    last ∙ (λ i. record { words = front i ++ ((kept ∙ tail) i ++ pending_words pending); state = state i; count = same i; pending = pending % 4_294_967_296 })
