-- A run's lines, a cycle at a time. Assumes nothing.
use Rattle.std.proofs.Common.{◌≡◌, refl, sym, ap, ◌∙◌, List, [], ◌∷◌, ◌++◌, ℕ, zero, suc, ◌+◌, ◌*◌, ◌/◌, ◌≤◌, ◌<◌, min, length, get_or, take, drop, arith, append_assoc, append-nil, length-append}
use Rattle.std.proofs.Math.Nat.{min_comm}
use Rattle.std.proofs.lemmas.List.{take_min, take_more, take-append-drop, length-take-le}
use Rattle.std.specs.Simd.{first_chunks}
use Rattle.numerals.specs.Numerals.{width}
use Rattle.numerals.specs.Written.{splice, written}
use Rattle.numerals.proofs.Laws.{width_most}
use Rattle.numerals.proofs.Splices.{length-splice, written_room}
use Rattle.lines.specs.declared.Line.{Line}
use Rattle.lines.specs.Lines.{cycle_line}
use Rattle.lines.proofs.Fields.{behind}
use Rattle.run_text.specs.RunText.{lines_from, run_text, line_of, lines_of}

-- a cycle of a kit's log has 4 digits at most
pub few_digits : (cycle : ℕ) → cycle < 10_000 → width 10 cycle ≤ 4
few_digits cycle h = width_most 10 (omega arith) 3 cycle (omega arith)

-- the lines of the first cycles, and of those behind them
pub lines_append : (i : ℕ) (xs ys : List (List ℕ)) → lines_of i (xs ++ ys) ≡ lines_of i xs ++ lines_of (i + length xs) ys
lines_append i [] ys = ap (λ (j : ℕ). lines_of j ys) {x = i} {y = i + 0} (omega arith)
lines_append i (x ∷ xs) ys =
    ap (λ (t : List ℕ). cycle_line (line_of i x) ++ t) (lines_append (i + 1) xs ys ∙ ap (λ (j : ℕ). lines_of (i + 1) xs ++ lines_of j ys) {x = i + 1 + length xs} {y = i + suc (length xs)} (omega arith))
    ∙ sym (append_assoc (cycle_line (line_of i x)) (lines_of (i + 1) xs) (lines_of (i + suc (length xs)) ys))

module _ (cycles : List (List ℕ)) where
  pub lines_more : (i : ℕ) → i < length cycles → lines_of 0 (take (i + 1) cycles) ≡ lines_of 0 (take i cycles) ++ cycle_line (line_of i (get_or cycles i []))
  lines_more i h =
      let place : 0 + length (take i cycles) ≡ i = ap (λ (n : ℕ). 0 + n) (length-take-le i cycles (omega arith)) ∙ omega arith in
      ap (lines_of 0) (take_more cycles i [] h)
      ∙ lines_append 0 (take i cycles) (get_or cycles i [] ∷ [])
      ∙ ap (λ (j : ℕ). lines_of 0 (take i cycles) ++ lines_of j (get_or cycles i [] ∷ [])) place
      ∙ ap (λ (t : List ℕ). lines_of 0 (take i cycles) ++ t) (append-nil (cycle_line (line_of i (get_or cycles i []))))

  pub lines_part : (n : ℕ) → length (lines_of 0 (take n cycles)) ≤ length (lines_of 0 cycles)
  lines_part n =
      let all = lines_append 0 (take n cycles) (drop n cycles) in
      omega (arith, ap length all, length-append (lines_of 0 (take n cycles)) (lines_of (0 + length (take n cycles)) (drop n cycles)), ap (λ (c : List (List ℕ)). length (lines_of 0 c)) (take-append-drop n cycles))

  module _ (i : ℕ) (h : i < length cycles) {x : Line} (is : x ≡ line_of i (get_or cycles i [])) {r : ℕ} (size : r ≡ length (cycle_line x)) where
    pub longer : lines_of 0 (take (i + 1) cycles) ≡ lines_of 0 (take i cycles) ++ cycle_line x
    longer = lines_more i h ∙ ap (λ (y : Line). lines_of 0 (take i cycles) ++ cycle_line y) (sym is)

    pub short_line : length cycles ≤ 2340 → r ≤ width 10 x.cycle + 28 → r ≤ 32
    short_line short few = omega (arith, ap (λ (y : Line). width 10 y.cycle) is, few_digits (i + 1) (omega arith))

    pub length_longer : {n : ℕ} → n ≡ length (lines_of 0 (take i cycles)) → n + r ≡ length (lines_of 0 (take (i + 1) cycles))
    length_longer e = omega (arith, e, size, ap length longer, length-append (lines_of 0 (take i cycles)) (cycle_line x))

    pub put_on : (out : List ℕ) {at : ℕ} {now after : List ℕ} → at ≡ length (lines_of 0 (take i cycles)) → now ≡ splice 0 (lines_of 0 (take i cycles)) out → after ≡ written at (cycle_line x) now →
        length (lines_of 0 cycles) ≤ length out → after ≡ splice 0 (lines_of 0 (take (i + 1) cycles)) out
    put_on out {at} {now} {after} e stands put room =
        let done = lines_of 0 (take i cycles) in
        let same : length now ≡ length out = ap length stands ∙ length-splice 0 done out (omega (arith, lines_part i)) in
        let fits : length (lines_of 0 (take (i + 1) cycles)) ≤ length out = omega (arith, lines_part (i + 1)) in
        behind 0 done (cycle_line x) out at stands (omega arith)
        (put ∙ written_room at (cycle_line x) now (omega (arith, length_longer e)))
        (omega (arith, ap length longer))
        ∙ ap (λ (t : List ℕ). splice 0 t out) (sym longer)

three : (k : ℕ) → 3 * suc k ≡ suc (suc (suc (3 * k)))
three k = omega arith

-- the lines of whole cycles are those of their words, one behind the other
pub lines_chunked : (i k n : ℕ) (words : List ℕ) → 3 * n ≤ length words → length words < 3 * n + 3 → lines_of i (take k (first_chunks 3 n words)) ≡ lines_from (i + 1) (take (3 * k) words)
unfolding lines_from
lines_chunked i zero n words least most = refl
lines_chunked i (suc k) zero [] least most = ap (λ (m : ℕ). lines_from (i + 1) (take m [])) (sym (three k))
lines_chunked i (suc k) zero (a ∷ []) least most = ap (λ (m : ℕ). lines_from (i + 1) (take m (a ∷ []))) (sym (three k))
lines_chunked i (suc k) zero (a ∷ b ∷ []) least most = ap (λ (m : ℕ). lines_from (i + 1) (take m (a ∷ b ∷ []))) (sym (three k))
lines_chunked i (suc k) zero (a ∷ b ∷ d ∷ words) least most = absurd (omega (arith, most))
lines_chunked i (suc k) (suc n) [] least most = absurd (omega (arith, least))
lines_chunked i (suc k) (suc n) (a ∷ []) least most = absurd (omega (arith, least))
lines_chunked i (suc k) (suc n) (a ∷ b ∷ []) least most = absurd (omega (arith, least))
lines_chunked i (suc k) (suc n) (a ∷ b ∷ d ∷ words) least most =
    ap (λ (t : List ℕ). cycle_line (line_of i (a ∷ b ∷ d ∷ [])) ++ t)
    (lines_chunked (i + 1) k n words (omega (arith, least)) (omega (arith, most)) ∙ ap (λ (j : ℕ). lines_from j (take (3 * k) words)) {x = i + 1 + 1} {y = suc (i + 1)} (omega arith))
    ∙ ap (λ (m : ℕ). lines_from (i + 1) (take m (a ∷ b ∷ d ∷ words))) (sym (three k))

-- of a run no more than 2,340 cycles are listed
pub run_lines : (words : List ℕ) {cycles : List (List ℕ)} → cycles ≡ first_chunks 3 (length words / 3) words → {n : ℕ} → n ≡ min (length cycles) 2340 → lines_of 0 (take n cycles) ≡ run_text words
run_lines words {cycles} is least =
    ap (λ (n : ℕ). lines_of 0 (take n cycles)) (least ∙ min_comm (length cycles) 2340)
    ∙ ap (lines_of 0) (take_min 2340 cycles)
    ∙ ap (λ (c : List (List ℕ)). lines_of 0 (take 2340 c)) is
    ∙ lines_chunked 0 2340 (length words / 3) words (omega arith) (omega arith)
