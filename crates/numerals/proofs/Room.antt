-- What the answer about a buffer's room says of a text. Assumes nothing.
use mathlib.Core.Path.{◌≡◌, sym, subst, ◌∙◌}
use mathlib.Core.Bool.{Bool, true, false}
use mathlib.Core.List.{List}
use Prim.Native.Nat.{ℕ, ◌+◌, ◌≤◌, ◌<◌}
use native.Mathlib.Omega.{arith}
use lib.ListN.{length}
use lib.Dec.{leb}
use borrow.Author.Tests.{leb-true, leb-false}
use Rattle.numerals.specs.Written.{splice, written, Puts}
use Rattle.numerals.proofs.Splices.{written_room, written_none}

module _ (at many : ℕ) (text out : List ℕ) (size : length text ≡ many) {r : Bool} (room : r ≡ leb (at + many) (length out)) where
  pub fits : r ≡ true → at + many ≤ length out
  fits t = leb-true (at + many) (length out) (sym room ∙ t)

  pub fits_text : r ≡ true → at + length text ≤ length out
  fits_text t = omega (arith, fits t, size)

  pub put_there : r ≡ true → {out' : List ℕ} → out' ≡ splice at text out → out' ≡ written at text out
  put_there t e = e ∙ sym (written_room at text out (fits_text t))

  pub put_nowhere : r ≡ false → out ≡ written at text out
  put_nowhere t = sym (written_none at text out (omega (arith, leb-false (at + many) (length out) (sym room ∙ t), size)))

-- a text at the front of a buffer, put there or not by its length
module _ (most : ℕ) (text out : List ℕ) {told : ℕ} (size : told ≡ length text) (few : told ≤ most) where
  pub puts_there : told ≤ length out → {after : List ℕ} → after ≡ splice 0 text out → Puts most text told out after
  puts_there room e = record { value = size; out_after = e ∙ sym (written_room 0 text out (omega arith)); upper_bound = few }

  pub puts_nowhere : length out < told → Puts most text told out out
  puts_nowhere none = record { value = size; out_after = sym (written_none 0 text out (omega arith)); upper_bound = few }

-- the same of a text that is this one, and of more bytes at most
pub puts_same : {most : ℕ} {text other : List ℕ} → text ≡ other → {told : ℕ} {before after : List ℕ} → Puts most text told before after → Puts most other told before after
puts_same {most} e {told} {before} {after} p = subst (λ (t : List ℕ). Puts most t told before after) e p

pub puts_within : {most more : ℕ} → most ≤ more → {text : List ℕ} {told : ℕ} {before after : List ℕ} → Puts most text told before after → Puts more text told before after
puts_within h p = record { value = p.value; out_after = p.out_after; upper_bound = omega (arith, p.upper_bound) }
