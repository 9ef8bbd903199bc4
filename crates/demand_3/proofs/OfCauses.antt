-- Laws of a table of causes: one that stands is no stronger than the strongest, and all but 13 make the cycle a fresh one. By induction on the table.
-- Assumes nothing.
use Prim.Native.Nat.{ℕ, ◌≤◌, max}
use mathlib.Core.Bool.{Bool, true, false, not, cond, ◌&&◌, ◌||◌, true≢false}
use mathlib.Core.List.{List, [], ◌∷◌}
use mathlib.Core.Path.{◌≡◌, refl, sym, ◌∙◌}
use native.Mathlib.Omega.{arith}
use borrow.Author.Tests.{eqb-true, ne_eqb}
use lib.Dec.{T, eqb}
use Rattle.rank.specs.declared.Rank.TheVariants.{None}
use Rattle.rank.specs.Rank.{rank_number}
use Rattle.rank.proofs.Laws.{stronger_max}
use Rattle.causes.specs.declared.Cause.{Cause}
use Rattle.causes.specs.Causes.{is_fresh, strongest_of, fresh_of}
use Rattle.demand_3.specs.Claims.{cause_of}
use Rattle.laws.proofs.Bools.{or_left, or_right}

-- ---- a row and the rows behind it

head_rank : (c : Cause) (cs : List Cause) → T c.stands → rank_number c.rank ≤ rank_number (strongest_of (c ∷ cs))
unfolding strongest_of
head_rank c cs t = go c.stands t (stronger_max (cond c.stands c.rank None) (strongest_of cs))
  where
    go : (b : Bool) → T b → rank_number (strongest_of (c ∷ cs)) ≡ max (rank_number (cond b c.rank None)) (rank_number (strongest_of cs)) →
        rank_number c.rank ≤ rank_number (strongest_of (c ∷ cs))
    go true t e = omega arith
    go false t e = absurd t

tail_rank : (c : Cause) (cs : List Cause) → rank_number (strongest_of cs) ≤ rank_number (strongest_of (c ∷ cs))
unfolding strongest_of
tail_rank c cs = omega (arith, stronger_max (cond c.stands c.rank None) (strongest_of cs))

fresh_head : (c : Cause) → T c.stands → (c.code ≡ 13 → ⊥) → T (is_fresh c)
fresh_head c t h = go c.stands t (eqb c.code 13) (ne_eqb c.code 13 h)
  where
    go : (a : Bool) → T a → (b : Bool) → b ≡ false → T (a && not b)
    go true t true e = absurd (true≢false e)
    go true t false e = tt
    go false t b e = absurd t

-- ---- the cause of a code

pub no_stronger : (x : ℕ) (cs : List Cause) → T (cause_of x cs).stands → rank_number (cause_of x cs).rank ≤ rank_number (strongest_of cs)
unfolding cause_of
no_stronger x [] t = absurd t
no_stronger x (c ∷ cs) t = go (eqb c.code x) (no_stronger x cs) t
  where
    go : (b : Bool) → (T (cause_of x cs).stands → rank_number (cause_of x cs).rank ≤ rank_number (strongest_of cs)) → T (cond b c (cause_of x cs)).stands →
        rank_number (cond b c (cause_of x cs)).rank ≤ rank_number (strongest_of (c ∷ cs))
    go true ih u = head_rank c cs u
    go false ih u = omega (arith, ih u, tail_rank c cs)

pub makes_fresh : (x : ℕ) → (x ≡ 13 → ⊥) → (cs : List Cause) → T (cause_of x cs).stands → T (fresh_of cs)
unfolding cause_of fresh_of
makes_fresh x h [] t = absurd t
makes_fresh x h (c ∷ cs) t = go (eqb c.code x) refl (makes_fresh x h cs) t
  where
    go : (b : Bool) → eqb c.code x ≡ b → (T (cause_of x cs).stands → T (fresh_of cs)) → T (cond b c (cause_of x cs)).stands → T (is_fresh c || fresh_of cs)
    go true e ih u = or_left (is_fresh c) (fresh_of cs) (fresh_head c u (λ q. h (sym (eqb-true c.code x e) ∙ q)))
    go false e ih u = or_right (is_fresh c) (fresh_of cs) (ih u)
