-- How long lines are. Assumes nothing.
use mathlib.Core.Path.{◌≡◌, ◌∙◌}
use mathlib.Core.List.{List, [], ◌∷◌}
use Prim.Native.Nat.{ℕ, ◌+◌, ◌≤◌, ◌<◌}
use native.Mathlib.Omega.{arith}
use lib.ListN.{length, length-append}
use Rattle.numerals.specs.Numerals.{digits, width, numeral}
use Rattle.numerals.proofs.Laws.{length_digits, width_most}
use Rattle.lines.specs.declared.Line.{Line}
use Rattle.lines.specs.declared.RefusalLine.{RefusalLine}
use Rattle.lines.specs.Lines.{spaced, ended, cycle_line, refused_word, refusal_line}

spaced_size : (f rest : List ℕ) → length (spaced f rest) ≡ length f + length rest + 1
spaced_size f rest = length-append f (32 ∷ rest) ∙ omega arith

ended_size : (f : List ℕ) → length (ended f) ≡ length f + 1
ended_size f = length-append f (10 ∷ [])

pub line_size : (l : Line) → length (cycle_line l) ≡ width 10 l.cycle + width 16 l.device + 20
line_size l =
    let last = ended (numeral 16 l.device) in
    let second = spaced (digits 16 8 l.b) last in
    omega (
      arith,
      spaced_size (numeral 10 l.cycle) (spaced (digits 16 8 l.a) second),
      spaced_size (digits 16 8 l.a) second,
      spaced_size (digits 16 8 l.b) last,
      ended_size (numeral 16 l.device),
      length_digits 10 (width 10 l.cycle) l.cycle,
      length_digits 16 8 l.a,
      length_digits 16 8 l.b,
      length_digits 16 (width 16 l.device) l.device,
    )

pub refusal_size : (r : RefusalLine) → length (refusal_line r) ≡ width 10 r.number + width 10 r.place + 12
refusal_size r =
    let last = ended (r.letter ∷ []) in
    let second = spaced (numeral 10 r.place) last in
    omega (
      arith,
      spaced_size refused_word (spaced (numeral 10 r.number) second),
      spaced_size (numeral 10 r.number) second,
      spaced_size (numeral 10 r.place) last,
      length_digits 10 (width 10 r.number) r.number,
      length_digits 10 (width 10 r.place) r.place,
    )

-- numbers of the machine have so many digits at most
pub decimal_most : (n : ℕ) → n < 18446744073709551616 → width 10 n ≤ 20
decimal_most n h = width_most 10 (omega arith) 19 n (omega arith)

pub hex_most : (n : ℕ) → n < 4294967296 → width 16 n ≤ 8
hex_most n h = width_most 16 (omega arith) 7 n (omega arith)
