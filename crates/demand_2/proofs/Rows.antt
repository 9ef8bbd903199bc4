-- Laws of a table of causes: whether one is fresh, and the strongest, by its rows that stand. By induction on the rows. Assumes nothing.
use mathlib.Core.Bool.{Bool, true, false, not, ◌&&◌, true≢false}
use mathlib.Core.List.{List, [], ◌∷◌, Memᴰ}
use mathlib.Core.Path.{◌≡◌, refl, sym, ap, ◌∙◌}
use borrow.Author.Tests.{eqb-true, eq-eqb}
use lib.Dec.{eqb}
use Rattle.laws.proofs.Bools.{neither}
use Rattle.causes.specs.declared.Cause.{Cause}
use Rattle.causes.specs.Causes.{is_fresh, fresh_of}

-- all that stand are 13
abbrev pub NoneFresh : List Cause → Type 0
NoneFresh rows = (c : Cause) → Memᴰ c rows → c.stands ≡ true → c.code ≡ 13

stale : (c : Cause) → is_fresh c ≡ false → c.stands ≡ true → c.code ≡ 13
stale c e h = go c.stands h (eqb c.code 13) refl e
  where
    go : (a : Bool) → a ≡ true → (b : Bool) → eqb c.code 13 ≡ b → (a && not b) ≡ false → c.code ≡ 13
    go true h true q e = eqb-true c.code 13 q
    go true h false q e = absurd (true≢false e)
    go false h b q e = absurd (true≢false (sym h))

not_fresh : (c : Cause) → (c.stands ≡ true → c.code ≡ 13) → is_fresh c ≡ false
not_fresh c h = go c.stands refl
  where
    go : (a : Bool) → c.stands ≡ a → (a && not (eqb c.code 13)) ≡ false
    go true q = rw (eq-eqb c.code 13 (h q))
    go false q = refl

pub none_fresh : (rows : List Cause) → fresh_of rows ≡ false → NoneFresh rows
unfolding fresh_of
none_fresh [] e c m h = elim m [ ]
none_fresh (x ∷ xs) e c (Memᴰ.head q) h =
    ap (λ (r : Cause). r.code) q ∙ stale x (neither (is_fresh x) (fresh_of xs) e).0 (sym (ap (λ (r : Cause). r.stands) q) ∙ h)
none_fresh (x ∷ xs) e c (Memᴰ.tail m) h = none_fresh xs (neither (is_fresh x) (fresh_of xs) e).1 c m h

pub fresh_none : (rows : List Cause) → NoneFresh rows → fresh_of rows ≡ false
unfolding fresh_of
fresh_none [] h = refl
fresh_none (x ∷ xs) h = rw (not_fresh x (h x (Memᴰ.head refl)), fresh_none xs (λ c m. h c (Memᴰ.tail m)))
