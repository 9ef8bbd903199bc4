-- A text put into a lent buffer.
use Rattle.std.specs.Prelude.{ℕ, ◌+◌, ◌≡◌, ◌≤◌, cond, List, ◌++◌, length, take, drop, leb}

-- the text from a place on; what stands before and behind it is not touched
abbrev pub splice : ℕ → List ℕ → List ℕ → List ℕ
splice at text out = take at out ++ (text ++ drop (at + length text) out)

-- a buffer without room for the text is left as it was
unfoldable pub written : ℕ → List ℕ → List ℕ → List ℕ
written at text out = cond (leb (at + length text) (length out)) (splice at text out) out

-- a text of so many bytes at most is put at a buffer's front, where there is room for it, and its length is told
pub record Puts (most : ℕ) (text : List ℕ) (told : ℕ) (before after : List ℕ) : Type 0 where
  pub value : told ≡ length text
  pub out_after : after ≡ written 0 text before
  pub upper_bound : told ≤ most
