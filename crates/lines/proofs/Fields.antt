-- Fields put one behind the other. Assumes nothing.
use mathlib.Core.Path.{◌≡◌, ap, ◌∙◌}
use mathlib.Core.List.{List, [], ◌∷◌, ◌++◌, append_assoc}
use Prim.Native.Nat.{ℕ, ◌+◌, ◌≤◌}
use native.Mathlib.Omega.{arith}
use lib.ListN.{length, set, length-append}
use lib.Seq.{append_snoc}
use Rattle.numerals.specs.Numerals.{digits, width}
use Rattle.numerals.specs.Written.{splice, written}
use Rattle.numerals.proofs.Laws.{length_digits}
use Rattle.numerals.proofs.Splices.{store-splice, length-splice, written_room, splice_behind}
use Rattle.lines.specs.declared.Line.{Line}
use Rattle.lines.specs.declared.RefusalLine.{RefusalLine}
use Rattle.lines.specs.Lines.{spaced, ended, cycle_line, refused_word, refusal_line}
use Rattle.lines.proofs.Sizes.{line_size, refusal_size}

-- a text behind what stands there already, at a place that is its end
pub behind : (at : ℕ) (t f l : List ℕ) (p : ℕ) {out out' : List ℕ} → out ≡ splice at t l → p ≡ at + length t → out' ≡ splice p f out → at + length (t ++ f) ≤ length l → out' ≡ splice at (t ++ f) l
behind at t f l p e place put room = put ∙ (λ i. splice (place i) f (e i)) ∙ splice_behind at t f l room

-- digits and the byte behind them
module _ (base at many n : ℕ) (out : List ℕ) (room : at + many + 1 ≤ length out) {out' : List ℕ} (put : out' ≡ written at (digits base many n) out) where
  size : length (digits base many n) ≡ many
  size = length_digits base many n

  there : out' ≡ splice at (digits base many n) out
  there = put ∙ written_room at (digits base many n) out (omega (arith, size))

  pub same_size : length out' ≡ length out
  same_size = ap length there ∙ length-splice at (digits base many n) out (omega (arith, size))

  pub field_put : (end : ℕ) → set out' (at + many) end ≡ splice at (digits base many n ++ end ∷ []) out
  field_put end =
      behind at (digits base many n) (end ∷ []) out (at + many) there (omega (arith, size)) (store-splice out' (at + many) end (omega (arith, same_size)))
      (omega (arith, length-append (digits base many n) (end ∷ []), size))

-- four texts, one behind the other
pub four_put : (at : ℕ) (l t u v w : List ℕ) (q r s : ℕ) {one two three all : List ℕ} → one ≡ splice at t l → two ≡ splice q u one → three ≡ splice r v two → all ≡ splice s w three →
    q ≡ at + length t → r ≡ q + length u → s ≡ r + length v → s + length w ≤ length l → all ≡ splice at (t ++ u ++ v ++ w) l
four_put at l t u v w q r s a b c d e f g room =
    let x = length-append t u in
    let y = length-append (t ++ u) v in
    let z = length-append (t ++ u ++ v) w in
    let first = behind at t u l q a e b (omega (arith, x)) in
    let second = behind at (t ++ u) v l r first (omega (arith, x)) c (omega (arith, x, y)) in
    behind at (t ++ u ++ v) w l s second (omega (arith, x, y)) d (omega (arith, x, y, z))

-- fields and the bytes that end them, as a line has them
pub spaced_fields : (f g h rest : List ℕ) → (f ++ 32 ∷ []) ++ (g ++ 32 ∷ []) ++ (h ++ 32 ∷ []) ++ rest ≡ spaced f (spaced g (spaced h rest))
spaced_fields f g h rest =
    append_assoc ((f ++ 32 ∷ []) ++ (g ++ 32 ∷ [])) (h ++ 32 ∷ []) rest
    ∙ append_assoc (f ++ 32 ∷ []) (g ++ 32 ∷ []) ((h ++ 32 ∷ []) ++ rest)
    ∙ append_snoc f 32 ((g ++ 32 ∷ []) ++ ((h ++ 32 ∷ []) ++ rest))
    ∙ ap (spaced f) (append_snoc g 32 ((h ++ 32 ∷ []) ++ rest) ∙ ap (spaced g) (append_snoc h 32 rest))

digits_end : (base many n end : ℕ) → length (digits base many n ++ end ∷ []) ≡ many + 1
digits_end base many n end = length-append (digits base many n) (end ∷ []) ∙ ap (λ (k : ℕ). k + 1) (length_digits base many n)

-- the fields of a line, as they are put
module _ (at : ℕ) (x : Line) (l : List ℕ) (room : at + length (cycle_line x) ≤ length l) {m w : ℕ} (wide : m ≡ width 10 x.cycle) (device-wide : w ≡ width 16 x.device) where
  pub line_put : {one two three all : List ℕ} (a b d : ℕ) → one ≡ splice at (digits 10 m x.cycle ++ 32 ∷ []) l → a ≡ at + m + 1 → two ≡ splice a (digits 16 8 x.a ++ 32 ∷ []) one → b ≡ a + 8 + 1 →
      three ≡ splice b (digits 16 8 x.b ++ 32 ∷ []) two → d ≡ b + 8 + 1 → all ≡ splice d (digits 16 w x.device ++ 10 ∷ []) three → all ≡ splice at (cycle_line x) l
  line_put a b d e at_a f at_b g at_d h =
      let first = digits_end 10 m x.cycle 32 in
      let second = digits_end 16 8 x.a 32 in
      let third = digits_end 16 8 x.b 32 in
      let last = digits_end 16 w x.device 10 in
      four_put at l (digits 10 m x.cycle ++ 32 ∷ []) (digits 16 8 x.a ++ 32 ∷ []) (digits 16 8 x.b ++ 32 ∷ []) (digits 16 w x.device ++ 10 ∷ []) a b d e f g h
      (omega (arith, first)) (omega (arith, second)) (omega (arith, third)) (omega (arith, last, line_size x))
      ∙ ap (λ (t : List ℕ). splice at t l) (spaced_fields (digits 10 m x.cycle) (digits 16 8 x.a) (digits 16 8 x.b) (digits 16 w x.device ++ 10 ∷ [])
      ∙ (λ i. spaced (digits 10 (wide i) x.cycle) (spaced (digits 16 8 x.a) (spaced (digits 16 8 x.b) (ended (digits 16 (device-wide i) x.device))))))

-- the same of a refusal
module _ (r : RefusalLine) (l : List ℕ) (room : length (refusal_line r) ≤ length l) {m w : ℕ} (wide : m ≡ width 10 r.number) (place-wide : w ≡ width 10 r.place) where
  pub refusal_put : {one two three all : List ℕ} (p q : ℕ) → one ≡ splice 0 (refused_word ++ 32 ∷ []) l → two ≡ splice 8 (digits 10 m r.number ++ 32 ∷ []) one → p ≡ 8 + m + 1 →
      three ≡ splice p (digits 10 w r.place ++ 32 ∷ []) two → q ≡ p + w + 1 → all ≡ splice q (ended (r.letter ∷ [])) three → all ≡ splice 0 (refusal_line r) l
  refusal_put p q e f at_p g at_q h =
      let x = digits_end 10 m r.number 32 in
      let y = digits_end 10 w r.place 32 in
      four_put 0 l (refused_word ++ 32 ∷ []) (digits 10 m r.number ++ 32 ∷ []) (digits 10 w r.place ++ 32 ∷ []) (ended (r.letter ∷ [])) 8 p q e f g h
      (omega arith) (omega (arith, x)) (omega (arith, y)) (omega (arith, refusal_size r))
      ∙ ap (λ (t : List ℕ). splice 0 t l) (spaced_fields refused_word (digits 10 m r.number) (digits 10 w r.place) (ended (r.letter ∷ []))
      ∙ (λ i. spaced refused_word (spaced (digits 10 (wide i) r.number) (spaced (digits 10 (place-wide i) r.place) (ended (r.letter ∷ []))))))
