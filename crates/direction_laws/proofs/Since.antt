-- A watch that is kept from cycle to cycle stands, and a direction is overstepped, where W6 says so of numbered cycles, and only there. One proof for both
-- signs. Assumes nothing.
use Prim.Native.Nat.{ℕ, zero, suc, ◌≤◌, ◌<◌}
use mathlib.Core.Bool.{Bool, true, false, not, cond, true≢false}
use mathlib.Core.List.{List}
use mathlib.Core.Logic.{by_cases}
use mathlib.Core.Path.{◌≡◌, refl, sym, ap, ◌∙◌, subst}
use native.Mathlib.Decide.{dec_le}
use native.Mathlib.Nat.{not-suc-le-zero}
use native.Mathlib.Omega.{arith}
use borrow.Author.Tests.{ltb-true, lt-ltb}
use Rattle.std.specs.Prelude.{Option, None, Some, is_some}
use lib.Dec.{T, ltb}
use lib.IntN.{ℤ, pos}
use lib.Signed.{lt_z}
use lib.Ieee.Bits.{is_true}
use Rattle.machine_data.specs.Data.{number_of}
use Rattle.machine_data.proofs.Stands.{number_high}
use Rattle.runs.specs.Run.{run_next}
use Rattle.runs.specs.Running.{Running}
use Rattle.runs.specs.Since.{SetSince}
use Rattle.runs.proofs.Running.{above_running, running_above, still_running}
use Rattle.runs.proofs.Since
use Rattle.direction.specs.declared.Sign.{Sign}
use Rattle.direction.specs.declared.Direction.{Direction}
use Rattle.direction.specs.Direction.{ahead, furthest, watch_next, no_direction, direction_next, beyond_by}
use Rattle.direction.proofs.Extreme.{taken_in, left_out}
use Rattle.direction_laws.specs.Since.{bound, Beyond}
use Rattle.direction_laws.proofs.Signs.{through, back, itself, NotAhead, neither_ahead, turned_not_ahead, farther}

-- whether there is a watch
abbrev pub stands : Option ℤ → Bool
stands watch = is_some watch

part : {X Y : Type 0} (f : X → Y) (u : Bool) (x y : X) → f (cond u x y) ≡ cond u (f x) (f y)
part f true x y = refl
part f false x y = refl

-- ---- what one cycle does

module _ (d : List ℤ) (sign : Sign) (p : ℤ) (x : Direction) where
  run_next_lem : (free : Bool) → (direction_next d sign free p x).run ≡ run_next (not free) x.run
  unfolding direction_next run_next
  run_next_lem true = refl
  run_next_lem false = refl

  stands_next : (free : Bool) → stands (direction_next d sign free p x).watch ≡ cond free false (cond (ltb (number_of d 70) (direction_next d sign free p x).run) true (stands x.watch))
  unfolding direction_next
  stands_next true = refl
  stands_next false = go x.watch
    where
      begun : (t : Bool) → stands (cond t (Some p) None) ≡ cond t true false
      begun true = refl
      begun false = refl

      kept : (t : Bool) → true ≡ cond t true true
      kept true = refl
      kept false = refl

      go : (w : Option ℤ) → stands (watch_next d sign (run_next true x.run) p w) ≡ cond (ltb (number_of d 70) (run_next true x.run)) true (stands w)
      go None = begun (ltb (number_of d 70) (run_next true x.run))
      go (Some extreme) = kept (ltb (number_of d 70) (run_next true x.run))

-- ---- numbered cycles: x n is the direction before cycle n, d n the data of its list

module _ (usable free : ℕ → Bool) (position : ℕ → ℤ) (d : ℕ → List ℤ) (sign : Sign) (x : ℕ → Direction) (fresh : x 0 ≡ no_direction)
    (goes : (n : ℕ) → x (suc n) ≡ cond (usable n) (direction_next (d n) sign (free n) (position n) (x n)) (x n)) where
  abbrev delay : ℕ → ℕ
  delay n = number_of (d n) 70

  abbrev run : ℕ → ℕ
  run n = (x n).run

  abbrev on : ℕ → Bool
  on n = stands (x n).watch

  abbrev ran : ℕ → Bool
  ran n = ltb (delay n) (run (suc n))

  run_at : (n : ℕ) → run (suc n) ≡ cond (usable n) (run_next (bound free n) (run n)) (run n)
  run_at n =
      ap (λ (y : Direction). y.run) (goes n) ∙ part (λ (y : Direction). y.run) (usable n) _ _
      ∙ ap (λ (k : ℕ). cond (usable n) k (run n)) (run_next_lem (d n) sign (position n) (x n) (free n))

  on_at : (n : ℕ) → on (suc n) ≡ cond (usable n) (cond (free n) false (cond (ran n) true (on n))) (on n)
  on_at n = ap (λ (y : Direction). stands y.watch) (goes n) ∙ part (λ (y : Direction). stands y.watch) (usable n) _ _ ∙ go (usable n) refl
    where
      go : (u : Bool) → usable n ≡ u → cond u (stands (direction_next (d n) sign (free n) (position n) (x n)).watch) (on n) ≡ cond u (cond (free n) false (cond (ran n) true (on n))) (on n)
      go true q =
          let counted : (direction_next (d n) sign (free n) (position n) (x n)).run ≡ run (suc n) = sym (ap (λ (y : Direction). y.run) (goes n ∙ ap (λ (b : Bool). cond b (direction_next (d n) sign (free n) (position n) (x n)) (x n)) q)) in
          stands_next (d n) sign (position n) (x n) (free n) ∙ ap (λ (k : ℕ). cond (free n) false (cond (ltb (delay n) k) true (on n))) counted
      go false q = refl

  small : (n : ℕ) → delay n ≤ 1000
  small n = number_high (d n) 70 1000 (omega arith) refl

  none : run 0 ≡ 0
  none = ap (λ (y : Direction). y.run) fresh

  tells : (n : ℕ) → T (usable n) → T (ran n) → Running usable (bound free) (delay n) n
  tells n u t = above_running usable (bound free) run none run_at (delay n) n (small n) u (ltb-true (delay n) (run (suc n)) (is_true (ran n) t))

  told : (n : ℕ) → Running usable (bound free) (delay n) n → T (ran n)
  told n r = subst T (sym (lt-ltb (delay n) (run (suc n)) (running_above usable (bound free) run none run_at (delay n) n (small n) r))) tt

  apart : (n : ℕ) → T (bound free n) → T (free n) → ⊥
  apart n = go (free n)
    where
      go : (b : Bool) → T (not b) → T b → ⊥
      go true t f = t
      go false t f = f

  off : on 0 ≡ false
  off = ap (λ (y : Direction). stands y.watch) fresh

  -- the watch stands after cycle n
  pub set_watch : (n : ℕ) → T (on (suc n)) → SetSince usable (bound free) free delay n
  set_watch n t = Since.set_since usable (bound free) free delay on ran off on_at tells told apart (suc n) t

  pub watch_set : (n : ℕ) → SetSince usable (bound free) free delay n → T (on (suc n))
  watch_set n s = Since.since_set usable (bound free) free delay on ran off on_at tells told apart (suc n) s

  -- ---- how it goes on

  -- it was ended in no usable cycle behind cycle a and before n
  abbrev NotEnded : ℕ → ℕ → Type 0
  NotEnded a n = (i : ℕ) → a < i → i < n → T (usable i) → T (free i) → ⊥

  kept_on : (a n : ℕ) → a < n → T (on (suc a)) → NotEnded a n → T (on n)
  kept_on a zero l t h = absurd (not-suc-le-zero l)
  kept_on a (suc n) l t h =
      by_cases (dec_le (suc a) n)
      (λ (low : a < n). Since.stays usable (bound free) free delay on ran off on_at tells told apart n (h n low (omega arith)) (kept_on a n low t (λ i p q. h i p (omega (arith, q)))))
      (λ k. subst (λ (j : ℕ). T (on (suc j))) (omega (arith, l, k)) t)

  watch_at : (n : ℕ) → (x (suc n)).watch ≡ cond (usable n) (cond (free n) None (watch_next (d n) sign (run_next true (run n)) (position n) (x n).watch)) (x n).watch
  unfolding direction_next
  watch_at n =
      ap (λ (y : Direction). y.watch) (goes n) ∙ part (λ (y : Direction). y.watch) (usable n) _ _
      ∙ ap (λ (w : Option ℤ). cond (usable n) w (x n).watch) (part (λ (y : Direction). y.watch) (free n) _ _)

  -- the extreme of the watch before cycle n: the position of a cycle in which the watch stood, and no other since is ahead of it
  record Extreme (n : ℕ) (e : ℤ) : Type 0 where
    at : ℕ
    before : at < n
    used : T (usable at)
    watched : T (on (suc at))
    not_ended : NotEnded at n
    is : position at ≡ e
    highest : (i : ℕ) → i < n → T (usable i) → T (on (suc i)) → NotEnded i n → NotAhead (ahead sign (position i) e)

  -- an extreme stays where a cycle is unusable, or its position is not ahead
  stays_extreme : (n : ℕ) (e : ℤ) → Extreme n e → (T (usable n) → T (free n) → ⊥) → (T (usable n) → NotAhead (ahead sign (position n) e)) → Extreme (suc n) e
  stays_extreme n e y bound-here not-ahead =
      record {
        at = y.at;
        before = omega (arith, y.before);
        used = y.used;
        watched = y.watched;
        not_ended = λ i p q. by_cases (dec_le (suc i) n) (λ (l : i < n). y.not_ended i p l) (λ l. subst (λ (j : ℕ). T (usable j) → T (free j) → ⊥) (omega (arith, q, l)) bound-here);
        is = y.is;
        highest =
            λ i p u t h.
            by_cases (dec_le (suc i) n) (λ (l : i < n). y.highest i l u t (λ j a b. h j a (omega (arith, b))))
            (λ l. let same : n ≡ i = omega (arith, p, l) in subst (λ (j : ℕ). NotAhead (ahead sign (position j) e)) same (not-ahead (subst (λ (j : ℕ). T (usable j)) (sym same) u)));
      }

  -- the position of cycle n is the extreme, where none since is ahead of it
  new_extreme : (n : ℕ) → T (usable n) → T (on (suc n)) →
      ((i : ℕ) → i < n → T (usable i) → T (on (suc i)) → NotEnded i (suc n) → NotAhead (ahead sign (position i) (position n))) → Extreme (suc n) (position n)
  new_extreme n used standing others =
      record {
        at = n;
        before = omega arith;
        used = used;
        watched = standing;
        not_ended = λ i p q _ _. omega (arith, p, q);
        is = refl;
        highest =
            λ i p u t h.
            by_cases (dec_le (suc i) n) (λ (l : i < n). others i l u t h)
            (λ l. let same : n ≡ i = omega (arith, p, l) in subst (λ (j : ℕ). NotAhead (ahead sign (position j) (position n))) same (subst NotAhead (sym (itself sign (position n))) (λ z. z)));
      }

  extreme_at : (n : ℕ) (e : ℤ) → (x n).watch ≡ Some e → Extreme n e
  extreme_at zero e q = absurd (true≢false (sym (ap stands q) ∙ off))
  extreme_at (suc n) e q = go (usable n) refl (free n) refl (x n).watch refl (sym (watch_at n) ∙ q) (extreme_at n)
    where
      standing : T (on (suc n))
      standing = subst (λ (w : Option ℤ). T (stands w)) (sym q) tt

      bound_if : free n ≡ false → T (usable n) → T (free n) → ⊥
      bound_if e u f = subst T e f

      go : (u : Bool) → usable n ≡ u → (f : Bool) → free n ≡ f → (w : Option ℤ) → (x n).watch ≡ w →
          cond u (cond f None (watch_next (d n) sign (run_next true (run n)) (position n) w)) w ≡ Some e → ((e' : ℤ) → (x n).watch ≡ Some e' → Extreme n e') → Extreme (suc n) e
      go false p f r w z k rest = stays_extreme n e (rest e (z ∙ k)) (λ u _. subst T p u) (λ u. absurd (subst T p u))
      go true p true r w z k rest = absurd (true≢false (sym (ap stands k)))
      go true p false r None z k rest = begun (ltb (number_of (d n) 70) (run_next true (run n))) k
        where
          begun : (t : Bool) → cond t (Some (position n)) None ≡ Some e → Extreme (suc n) e
          begun true k =
              let is : position n ≡ e = cc in
              subst (Extreme (suc n)) is
              (new_extreme n (subst T (sym p) tt) standing
              (λ i l u t h. absurd (subst (λ (w : Option ℤ). T (stands w)) z (kept_on i n l t (λ j a b. h j a (omega (arith, b)))))))
          begun false k = absurd (true≢false (sym (ap stands k)))
      go true p false r (Some before) z k rest = moved (lt_z (pos 0) (ahead sign (position n) before)) refl (rest before z)
        where
          is : furthest sign before (position n) ≡ e
          is = cc

          moved : (t : Bool) → lt_z (pos 0) (ahead sign (position n) before) ≡ t → Extreme n before → Extreme (suc n) e
          moved true c y =
              subst (Extreme (suc n)) (taken_in sign before (position n) c ∙ is)
              (new_extreme n (subst T (sym p) tt) standing
              (λ i l u t h.
              subst NotAhead (through sign (position i) before (position n))
              (neither_ahead (ahead sign (position i) before) (ahead sign before (position n)) (y.highest i l u t (λ j a b. h j a (omega (arith, b))))
              (subst NotAhead (sym (back sign (position n) before)) (turned_not_ahead (ahead sign (position n) before) (subst T (sym c) tt))))))
          moved false c y =
              subst (Extreme (suc n)) (left_out sign before (position n) c ∙ is)
              (stays_extreme n before y (bound_if r) (λ u t. subst T c t))

  -- ---- overstepped

  pub beyond_since : (n : ℕ) → T (beyond_by (d n) sign (position n) (x (suc n)).watch) → Beyond usable free position delay sign (number_of (d n) 69) n
  beyond_since n = go (x (suc n)).watch refl
    where
      go : (w : Option ℤ) → (x (suc n)).watch ≡ w → T (beyond_by (d n) sign (position n) w) → Beyond usable free position delay sign (number_of (d n) 69) n
      go None q t = absurd t
      go (Some e) q t =
          let y = extreme_at (suc n) e q in
          record {
            at = y.at;
            not_later = omega (arith, y.before);
            used = y.used;
            watched = set_watch y.at y.watched;
            never_ended = λ i p l. y.not_ended i p (omega (arith, l));
            far = subst (λ (z : ℤ). T (lt_z (pos (number_of (d n) 69)) (ahead sign z (position n)))) (sym y.is) t;
          }

  pub since_beyond : (n : ℕ) → Beyond usable free position delay sign (number_of (d n) 69) n → T (beyond_by (d n) sign (position n) (x (suc n)).watch)
  since_beyond n b =
      let stood = watch_set b.at b.watched in
      let not_ended : NotEnded b.at (suc n) = λ i p l. b.never_ended i p (omega (arith, l)) in
      go (x (suc n)).watch refl stood not_ended (kept_on b.at (suc n) (omega (arith, b.not_later)) stood not_ended)
    where
      go : (w : Option ℤ) → (x (suc n)).watch ≡ w → T (on (suc b.at)) → NotEnded b.at (suc n) → T (on (suc n)) → T (beyond_by (d n) sign (position n) w)
      go None q stood not_ended t = absurd (subst (λ (w : Option ℤ). T (stands w)) q t)
      go (Some e) q stood not_ended t =
          let y = extreme_at (suc n) e q in
          let not-ahead = y.highest b.at (omega (arith, b.not_later)) b.used stood not_ended in
          subst (λ (z : ℤ). T (lt_z (pos (number_of (d n) 69)) z)) (through sign e (position b.at) (position n))
          (farther (number_of (d n) 69) (ahead sign e (position b.at)) (ahead sign (position b.at) (position n))
          (subst NotAhead (back sign e (position b.at)) not-ahead) b.far)

  -- ---- with one delay: the watch stands after a usable cycle if and only if the bit has been 0 in more than so many usable cycles running, this one the last

  module _ (t : ℕ) (one : (n : ℕ) → delay n ≡ t) where
    pub watch_running : (n : ℕ) → T (usable n) → T (on (suc n)) → Running usable (bound free) t n
    watch_running n u h =
        let s = set_watch n h in
        still_running usable (bound free) run none run_at t (subst (λ (k : ℕ). k ≤ 1000) (one 0) (small 0)) s.last
        (subst (λ (k : ℕ). Running usable (bound free) k s.last) (one s.last) s.long_enough) n s.not_later
        (λ i low high v. is_bound (free i) (s.never_ended i low high v)) u
      where
        is_bound : (b : Bool) → (T b → ⊥) → T (not b)
        is_bound true h = h tt
        is_bound false h = tt

    pub running_watch : (n : ℕ) → Running usable (bound free) t n → T (on (suc n))
    running_watch n r =
        watch_set n
        (record { last = n; not_later = omega arith; long_enough = subst (λ (k : ℕ). Running usable (bound free) k n) (sym (one n)) r; never_ended = λ i low high _ _. omega (arith, low, high) })

  -- ---- where the function is off in every cycle, none stands

  pub none_stands : ((n : ℕ) → usable n ≡ false) → (n : ℕ) → x n ≡ no_direction
  none_stands never zero = fresh
  none_stands never (suc n) = goes n ∙ ap (λ (u : Bool). cond u (direction_next (d n) sign (free n) (position n) (x n)) (x n)) (never n) ∙ none_stands never n
