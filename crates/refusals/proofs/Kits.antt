-- The lists of a kit are refused, with which and why, if and only if ListsFault says so. Assumes nothing.
use mathlib.Core.Path.{◌≡◌, refl, ap, ◌∙◌, subst}
use mathlib.Core.Logic.{◌↔◌}
use mathlib.Core.List.{List}
use Prim.Native.Nat.{ℕ}
use lib.ListN.{drop}
use Rattle.std.specs.Prelude.{Result, Ok, Err}
use Rattle.laws.proofs.Never.{never}
use Rattle.refusal.specs.declared.Refusal.{Refusal}
use Rattle.refusal.specs.declared.Part.{Part}
use Rattle.refusal.specs.declared.KitRefusal.{KitRefusal}
use Rattle.list.specs.declared.ListRead.{ListRead}
use Rattle.list.specs.Reading.{read_list}
use Rattle.list.proofs.Accepts.{accepted, whole_answer, whole_refusal}
use Rattle.kit.specs.Kit.{in_part, first, second, read_kit}
use Rattle.refusals.specs.ListsFault.{ListsFault, in_a, in_b}
use Rattle.refusals.proofs.Lists.{refused}

-- what is so of the refusal that is given
pub as_given : (F : Refusal → Part → Type 0) {x why : Refusal} {p part : Part} → in_part x p ≡ in_part why part → F x p → F why part
as_given F {x} {why} {p} {part} e f =
    let same : ◌≡◌ {A = KitRefusal} (record { why = x; part = p }) (record { why = why; part = part }) = cc in
    subst (λ (r : KitRefusal). F r.why r.part) same f

pub refused_kit : (s : List ℕ) (why : Refusal) (part : Part) → ((read_kit s).answer ≡ in_part why part) ↔ ListsFault s why part
unfolding read_kit
refused_kit s why part = (go (read_list s).answer refl, back)
  where
    back : {p : Part} → ListsFault s why p → (first s (read_list s) (read_list s).answer).answer ≡ in_part why p
    back (in_a f) = ap (λ (r : ListRead). (first s r r.answer).answer) ((refused s why).1 f)
    back (in_b {n} {a} low is f) =
        ap (λ (r : ListRead). (first s r r.answer).answer) ((accepted s a n).1 (low, is))
        ∙ ap (λ (r : ListRead). (second n a r r.answer).answer) ((refused (drop n s) why).1 f)

    at_second : (n : ℕ) → (read_list s).answer ≡ Ok n → (x : Result ℕ Refusal) → (read_list (drop n s)).answer ≡ x →
        (second n (read_list s).list (read_list (drop n s)) x).answer ≡ in_part why part → ListsFault s why part
    at_second n h (Ok m) g e = never (cc)
    at_second n h (Err x) g e =
        let front = (accepted s (read_list s).list n).0 (whole_answer s n h) in
        as_given (ListsFault s) e (in_b front.0 front.1 ((refused (drop n s) x).0 (whole_refusal (drop n s) x g)))

    go : (x : Result ℕ Refusal) → (read_list s).answer ≡ x → (first s (read_list s) x).answer ≡ in_part why part → ListsFault s why part
    go (Ok n) h e = at_second n h (read_list (drop n s)).answer refl e
    go (Err x) h e = as_given (ListsFault s) e (in_a ((refused s x).0 (whole_refusal s x h)))
