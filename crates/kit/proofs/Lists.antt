-- A kit by what was read of its two lists, and when both are accepted. Assumes nothing.
use mathlib.Core.Path.{◌≡◌, refl, sym, ap, ◌∙◌}
use mathlib.Core.Logic.{◌↔◌}
use mathlib.Core.List.{List}
use Prim.Native.Nat.{ℕ, ◌+◌, ◌-◌, ◌≤◌}
use native.Mathlib.Nat.{le_of_eq}
use native.Mathlib.Omega.{arith}
use lib.ListN.{take, drop, length, length-drop}
use lib.Seq.{take_all}
use Rattle.std.specs.Prelude.{Result, Ok, Err}
use Rattle.laws.proofs.Never.{never}
use Rattle.refusal.specs.declared.Refusal.{Refusal}
use Rattle.refusal.specs.declared.KitRefusal.{KitRefusal}
use Rattle.refusal.specs.declared.Part.TheVariants.{ListA, ListB}
use Rattle.machine_data.specs.declared.MachineData.{MachineData}
use Rattle.list.specs.declared.ListRead.{ListRead}
use Rattle.list.specs.Reading.{read_list, accepted_list}
use Rattle.list.proofs.Accepts.{used_words, accepted, whole_answer}
use Rattle.kit.specs.Kit.{in_part, first, second, read_kit}
use Rattle.kit.specs.declared.KitRead.{KitRead}
use Rattle.kit.specs.AreLists.{AreLists, accepted_kit}

-- `&s[n..]` is what stands behind n words
pub rest_is : (s : List ℕ) (n : ℕ) → take (length s - n) (drop n s) ≡ drop n s
rest_is s n = take_all (length s - n) (drop n s) (le_of_eq (length-drop n s))

module _ (s : List ℕ) {r : ListRead} (read : r ≡ read_list s) where
  pub by_first : {x : Result ℕ Refusal} → r.answer ≡ x → first s r x ≡ read_kit s
  unfolding read_kit
  by_first h = ap (first s r) (sym h) ∙ ap (λ (y : ListRead). first s y y.answer) read

  pub first_used : {n : ℕ} → r.answer ≡ Ok n → n ≤ length s
  first_used {n} h = used_words s n (ap (λ (y : ListRead). y.answer) (sym read) ∙ h)

  module _ {n : ℕ} (h : r.answer ≡ Ok n) {t : ListRead} (behind : t ≡ read_list (take (length s - n) (drop n s))) where
    there : t ≡ read_list (drop n s)
    there = behind ∙ ap read_list (rest_is s n)

    pub by_second : {x : Result ℕ Refusal} → t.answer ≡ x → second n r.list t x ≡ read_kit s
    by_second g = ap (second n r.list t) (sym g) ∙ ap (λ (y : ListRead). second n r.list y y.answer) there ∙ by_first h

    pub both_used : {m : ℕ} → t.answer ≡ Ok m → n + m ≤ length s
    both_used {m} g =
        let b = used_words (drop n s) m (ap (λ (y : ListRead). y.answer) (sym there) ∙ g) in
        omega (arith, first_used h, length-drop n s)

-- the lists of a kit are accepted, with these data and the log from there on, if and only if they are lists
pub accepted_kit_lem : (s : List ℕ) (a b : MachineData) (log : ℕ) → (read_kit s ≡ accepted_kit a b log) ↔ AreLists s a b log
unfolding read_kit
accepted_kit_lem s a b log = (λ e. go (read_list s).answer refl e, made)
  where
    answer : {x y : KitRead} → x ≡ y → x.answer ≡ y.answer
    answer e = ap (λ (r : KitRead). r.answer) e

    second_go : (n : ℕ) → (read_list s).answer ≡ Ok n → (x : Result ℕ Refusal) → (read_list (drop n s)).answer ≡ x →
        second n (read_list s).list (read_list (drop n s)) x ≡ accepted_kit a b log → AreLists s a b log
    second_go n h (Ok m) g e =
        let sum : ◌≡◌ {A = Result ℕ KitRefusal} (Ok (n + m)) (Ok log) = answer e in
        record {
          n = n;
          m = m;
          list_a = (accepted s a n).0 (whole_answer s n h ∙ ap (λ (d : MachineData). accepted_list d n) (ap (λ (r : KitRead). r.a) e));
          list_b = (accepted (drop n s) b m).0 (whole_answer (drop n s) m g ∙ ap (λ (d : MachineData). accepted_list d m) (ap (λ (r : KitRead). r.b) e));
          behind = cc;
        }
    second_go n h (Err why) g e = let no : ◌≡◌ {A = Result ℕ KitRefusal} (in_part why ListB) (Ok log) = answer e in never (cc)

    go : (x : Result ℕ Refusal) → (read_list s).answer ≡ x → first s (read_list s) x ≡ accepted_kit a b log → AreLists s a b log
    go (Ok n) h e = second_go n h (read_list (drop n s)).answer refl e
    go (Err why) h e = let no : ◌≡◌ {A = Result ℕ KitRefusal} (in_part why ListA) (Ok log) = answer e in never (cc)

    made : AreLists s a b log → first s (read_list s) (read_list s).answer ≡ accepted_kit a b log
    made t =
        ap (λ (r : ListRead). first s r r.answer) ((accepted s a t.n).1 t.list_a)
        ∙ ap (λ (r : ListRead). second t.n a r r.answer) ((accepted (drop t.n s) b t.m).1 t.list_b)
        ∙ ap (accepted_kit a b) (sym t.behind)

-- the log of an accepted kit begins inside it or right behind it
pub kit_used : (s : List ℕ) (log : ℕ) → (read_kit s).answer ≡ Ok log → log ≤ length s
unfolding read_kit
kit_used s log = go (read_list s).answer refl
  where
    at_second : (n : ℕ) → (read_list s).answer ≡ Ok n → (x : Result ℕ Refusal) → (read_list (drop n s)).answer ≡ x →
        (second n (read_list s).list (read_list (drop n s)) x).answer ≡ Ok log → log ≤ length s
    at_second n h (Ok m) g e =
        let sum : n + m ≡ log = cc in
        omega (arith, sum, both_used s refl h (ap read_list (sym (rest_is s n))) g)
    at_second n h (Err why) g e = never (cc)

    go : (x : Result ℕ Refusal) → (read_list s).answer ≡ x → (first s (read_list s) x).answer ≡ Ok log → log ≤ length s
    go (Ok n) h e = at_second n h (read_list (drop n s)).answer refl e
    go (Err why) h e = never (cc)
