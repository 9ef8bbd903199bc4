-- The list of a table has each code that stands, in W4's order: one proof for every table whose codes rise and of which at most 13 stand. Assumes nothing.
use Prim.Native.Nat.{ℕ, zero, suc, ◌+◌, ◌≤◌, ◌<◌}
use mathlib.Core.Path.{◌≡◌, refl, sym, ap, ◌∙◌, subst}
use mathlib.Core.Bool.{Bool, true, false, cond, ◌&&◌, true≢false}
use mathlib.Core.List.{List, [], ◌∷◌, ◌++◌}
use mathlib.Core.Logic.{inl, inr}
use lib.Dec.{eqb}
use lib.ListN.{length, replicate}
use lib.Seq.{take-take, take_at}
use native.Mathlib.Omega.{arith}
use borrow.Author.Tests.{eqb-true, eq-eqb}
use Rattle.bits.specs.Bits.{flag}
use Rattle.rank.specs.Rank.{rank_number}
use Rattle.causes.specs.declared.Cause.{Cause}
use Rattle.code_places.specs.Places.{rank_count, stands_at, of_rank, below, in_order}
use Rattle.codes.specs.Codes.{codes_most, padded, causes_of}
use Rattle.codes_order.specs.Lists.{occurrences, wanted, rank_in, strength, Before, Each, Sorted, codes_of, Lists, Rising}
use Rattle.code_places.proofs.Ranks.{weigh, one_more}

-- ---- each code that stands, and no other

module _ (k : ℕ) where
  counted : (xs : List ℕ) → occurrences k xs ≡ weigh (λ x. flag (eqb x k)) xs
  unfolding occurrences
  counted [] = refl
  counted (x ∷ xs) = omega (arith, counted xs)

  each_wanted : (rows : List Cause) → weigh (λ x. flag (eqb x k)) (in_order rows) ≡ wanted k rows
  unfolding wanted below of_rank
  each_wanted [] = refl
  each_wanted (c ∷ cs) = one_more (λ x. flag (eqb x k)) c cs ∙ go c.stands (each_wanted cs)
    where
      go : (b : Bool) → weigh (λ x. flag (eqb x k)) (in_order cs) ≡ wanted k cs → cond b (flag (eqb c.code k)) 0 + weigh (λ x. flag (eqb x k)) (in_order cs) ≡ flag (b && eqb c.code k) + wanted k cs
      go true e = omega (arith, e)
      go false e = omega (arith, e)

-- ---- the order

-- the table ranks the codes of some of its rows as these do
abbrev Ranked : List Cause → List Cause → Type 0
Ranked rows [] = Unit {0}
Ranked rows (c ∷ cs) = (rank_in rows c.code ≡ c.rank) × Ranked rows cs

ranked_later : (c : Cause) (rows : List Cause) (n : ℕ) (cs : List Cause) → c.code ≤ n → Rising n cs → Ranked rows cs → Ranked (c ∷ rows) cs
unfolding rank_in
ranked_later c rows n [] h r e = tt
ranked_later c rows n (d ∷ cs) h r e = (go (eqb c.code d.code) refl, ranked_later c rows d.code cs (omega (arith, h, r.0)) r.1 e.1)
  where
    apart : c.code ≡ d.code → ⊥
    apart q = omega (arith, q, h, r.0)

    go : (b : Bool) → eqb c.code d.code ≡ b → cond b c.rank (rank_in rows d.code) ≡ d.rank
    go true q = absurd (apart (eqb-true c.code d.code q))
    go false q = e.0

ranked : (n : ℕ) (rows : List Cause) → Rising n rows → Ranked rows rows
unfolding rank_in
ranked n [] r = tt
ranked n (c ∷ cs) r = (simp (eq-eqb c.code c.code refl), ranked_later c cs c.code cs (omega arith) r.1 (ranked c.code cs r.1))

module _ {P Q : ℕ → Type 0} where
  each_too : ((k : ℕ) → P k → Q k) → (xs : List ℕ) → Each P xs → Each Q xs
  each_too h [] e = tt
  each_too h (x ∷ xs) e = (h x e.0, each_too h xs e.1)

each_both : (P : ℕ → Type 0) (xs ys : List ℕ) → Each P xs → Each P ys → Each P (xs ++ ys)
each_both P [] ys e f = f
each_both P (x ∷ xs) ys e f = (e.0, each_both P xs ys e.1 f)

module _ (rows : List Cause) where
  own_rank : (r : ℕ) (c : Cause) → stands_at r c ≡ true → rank_in rows c.code ≡ c.rank → strength rows c.code ≡ r
  own_rank r c q e = ap rank_number e ∙ go c.stands q
    where
      go : (b : Bool) → b && eqb (rank_number c.rank) r ≡ true → rank_number c.rank ≡ r
      go true h = eqb-true (rank_number c.rank) r h
      go false h = absurd (true≢false (sym h))

  -- code k is of rank r, and above p
  abbrev Of : ℕ → ℕ → ℕ → Type 0
  Of r p k = (strength rows k ≡ r) × (p < k)

  codes_of_lem : (r p : ℕ) (cs : List Cause) → Rising p cs → Ranked rows cs → Each (Of r p) (of_rank r cs)
  unfolding of_rank
  codes_of_lem r p [] h e = tt
  codes_of_lem r p (c ∷ cs) h e =
      go (stands_at r c) refl (each_too (λ k x. (x.0, omega (arith, x.1, h.0))) (of_rank r cs) (codes_of_lem r c.code cs h.1 e.1))
    where
      go : (b : Bool) → stands_at r c ≡ b → Each (Of r p) (of_rank r cs) → Each (Of r p) (cond b (c.code ∷ of_rank r cs) (of_rank r cs))
      go true q rest = ((own_rank r c q e.0, h.0), rest)
      go false q rest = rest

  -- "equal ranks by code"
  by_code : (r p : ℕ) (cs : List Cause) → Rising p cs → Ranked rows cs → Sorted (Before rows) (of_rank r cs)
  unfolding of_rank
  by_code r p [] h e = tt
  by_code r p (c ∷ cs) h e = go (stands_at r c) refl (by_code r c.code cs h.1 e.1) (codes_of_lem r c.code cs h.1 e.1)
    where
      go : (b : Bool) → stands_at r c ≡ b → Sorted (Before rows) (of_rank r cs) → Each (Of r c.code) (of_rank r cs) → Sorted (Before rows) (cond b (c.code ∷ of_rank r cs) (of_rank r cs))
      go true q s behind = (each_too (λ k x. inr (own_rank r c q e.0 ∙ sym x.0, x.1)) (of_rank r cs) behind, s)
      go false q s behind = s

  stronger_first : (r : ℕ) (xs ys : List ℕ) → Each (λ k. strength rows k ≡ r) xs → Each (λ k. strength rows k < r) ys → Sorted (Before rows) xs → Sorted (Before rows) ys → Sorted (Before rows) (xs ++ ys)
  stronger_first r [] ys e f s t = t
  stronger_first r (x ∷ xs) ys e f s t =
      (each_both (Before rows x) xs ys s.0 (each_too (λ k l. inl (omega (arith, l, e.0))) ys f), stronger_first r xs ys e.1 f s.1 t)

  module _ (p : ℕ) (rising : Rising p rows) where
    weaker : (n : ℕ) → Each (λ k. strength rows k < n) (below n rows)
    unfolding below
    weaker zero = tt
    weaker (suc r) =
        each_both (λ k. strength rows k < suc r) (of_rank r rows) (below r rows)
        (each_too (λ k x. omega (arith, x.0)) (of_rank r rows) (codes_of_lem r p rows rising (ranked p rows rising)))
        (each_too (λ k x. omega (arith, x)) (below r rows) (weaker r))

    -- "strongest rank first, those without a rank last"
    by_rank_lem : (n : ℕ) → Sorted (Before rows) (below n rows)
    unfolding below
    by_rank_lem zero = tt
    by_rank_lem (suc r) =
        stronger_first r (of_rank r rows) (below r rows) (each_too (λ k x. x.0) (of_rank r rows) (codes_of_lem r p rows rising (ranked p rows rising))) (weaker r)
        (by_code r p rows rising (ranked p rows rising)) (by_rank_lem r)

-- ---- both, of a table's list

module _ (n : ℕ) (rows : List Cause) (rising : Rising n rows) (few : length (in_order rows) ≤ codes_most) where
  codes_are : codes_of (causes_of rows) ≡ in_order rows
  unfolding causes_of
  codes_are = take-take (length (in_order rows)) codes_most (in_order rows ++ replicate codes_most 0) few ∙ take_at (in_order rows) (replicate codes_most 0) (length (in_order rows)) refl

  pub lists : Lists rows (causes_of rows)
  unfolding causes_of
  lists =
      record {
        each = λ k. ap (occurrences k) codes_are ∙ counted k (in_order rows) ∙ each_wanted k rows;
        sorted = subst (Sorted (Before rows)) (sym codes_are) (by_rank_lem rows n rising rank_count);
        count_is = sym (ap length codes_are);
        rest = ap padded (sym codes_are);
      }
