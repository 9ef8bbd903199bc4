-- A cycle is alike under two rules that agree in it; and under the rules of now it is the one of the contracts. Assumes nothing.
use mathlib.Core.Path.{◌≡◌, refl, sym, ap, ◌∙◌}
use mathlib.Core.Bool.{Bool, true, false, not, cond, ◌&&◌, true≢false}
use mathlib.Core.List.{List}
use Rattle.std.specs.Prelude.{None}
use Rattle.machine_data.specs.declared.MachineData.{MachineData}
use Rattle.stop.specs.declared.Stop.TheVariants.{Cancelled}
use Rattle.usable_inputs.specs.Usable.{bits_usable, usable_of}
use Rattle.speed.specs.declared.Step.{Step}
use Rattle.nx_signal.specs.Signal.{signal_next}
use Rattle.fault.specs.Fault.{fault_next}
use Rattle.causes.specs.declared.Cause.{Cause}
use Rattle.causes.specs.Causes.{unusable_table, strongest_of, fresh_of}
use Rattle.state.specs.declared.State.{State}
use Rattle.state.specs.declared.Given.{Given}
use Rattle.judge.specs.declared.Findings.{Findings}
use Rattle.judge.specs.Causes.{choice_in, differing_in, differences_in, any_differs, fault_in, table, usable_rows, rows_of}
use Rattle.advance.specs.After.{usable_next, shown_word}
use Rattle.channel.specs.Cycle.{strongest_in, clears_in, next}
use Rattle.channel.specs.Word.{word}
use Rattle.as_before.specs.Rules.{Rules, now}
use Rattle.as_before.specs.Cycle.{step_under, differences_under, fault_under, stops_under, watched_under, table_under, usable_rows_under, rows_under, usable_next_under, next_under, word_under}

-- ---- the rules of now

module _ (m : MachineData) (s : State) (g : Given) where
  pub rows_now : rows_of m s g ≡ rows_under now m s g
  unfolding rows_of usable_rows differences_in fault_in usable_of bits_usable
  rows_now = refl

  pub next_now : next m s g ≡ next_under now m s g
  unfolding next clears_in strongest_in rows_of usable_rows differences_in fault_in usable_of bits_usable
  next_now = refl

  -- in a usable cycle n<nx is shown as it goes on
  pub word_now : word m s g ≡ word_under now m s g
  unfolding word next clears_in strongest_in rows_of usable_rows differences_in fault_in usable_of bits_usable
  word_now = ap (shown_word m.values (next_under now m s g)) (go (now.usable m g.reading) (usable_next_under now m s g) _)
    where
      go : (u : Bool) (x y : State) → u && (cond u x y).kept.nx.on ≡ u && x.kept.nx.on
      go true x y = refl
      go false x y = refl

-- ---- rules that agree

-- a test's two ways, the first needed only where it is taken
ways : {X : Type 0} {x y z w : X} (a b : Bool) → a ≡ b → (a ≡ true → x ≡ y) → z ≡ w → cond a x z ≡ cond b y w
ways true true e f h = f refl
ways true false e f h = absurd (true≢false e)
ways false true e f h = absurd (true≢false (sym e))
ways false false e f h = h

-- of something that each way comes to
pub ways_to : {X Y : Type 0} (f : X → Y) (x y z : X) (a b : Bool) → a ≡ b → (a ≡ true → f x ≡ f y) → f (cond a x z) ≡ f (cond b y z)
ways_to f x y z true true e h = h refl
ways_to f x y z true false e h = absurd (true≢false e)
ways_to f x y z false true e h = absurd (true≢false (sym e))
ways_to f x y z false false e h = refl

and_ways : {x y : Bool} (a b : Bool) → a ≡ b → (a ≡ true → x ≡ y) → (a && x) ≡ (b && y)
and_ways true true e f = f refl
and_ways true false e f = absurd (true≢false e)
and_ways false true e f = absurd (true≢false (sym e))
and_ways false false e f = refl

module _ (p q : Rules) (m : MachineData) (s : State) (g : Given) where
  -- in a cycle: in what it asks of them, and where it is usable in cause 13, the directions, what the rows come to, and n<nx
  pub record Agree : Type 0 where
    pub usable : p.usable m g.reading ≡ q.usable m g.reading
    pub ratio : p.ratio m.values g.reading.inputs ≡ q.ratio m.values g.reading.inputs
    pub rise : p.rise m.count s.k ≡ q.rise m.count s.k
    pub differs : p.differs m s.k g.report ≡ q.differs m s.k g.report
    pub stops : p.usable m g.reading ≡ true → stops_under p m s g ≡ q.stops m.values (choice_in m s g).effective (fault_under p m s g)
    pub watched : p.usable m g.reading ≡ true → watched_under p m s g ≡ watched_under q m s g
    pub strongest : p.usable m g.reading ≡ true → strongest_of (p.guard.rows (table_under p m s g)) ≡ strongest_of (q.guard.rows (table_under p m s g))
    pub fresh : p.usable m g.reading ≡ true → fresh_of (p.guard.rows (table_under p m s g)) ≡ fresh_of (q.guard.rows (table_under p m s g))
    pub nx : p.usable m g.reading ≡ true → p.nx m.values (step_under p m s g) s.kept.nx ≡ q.nx m.values (step_under p m s g) s.kept.nx

  module _ (same : Agree) where
    step_same : step_under p m s g ≡ step_under q m s g
    step_same = λ i. record { moved = (step_under p m s g).moved; ratio = same.ratio i }

    differences_same : differences_under p m s g ≡ differences_under q m s g
    differences_same = λ i. record { position = (differences_under p m s g).position; inputs = (differences_under p m s g).inputs; datum = same.differs i }

    fault_same : fault_under p m s g ≡ fault_under q m s g
    fault_same = λ i. fault_next m.values (any_differs (differences_same i)) s.kept.fault

    -- in a usable cycle
    module _ (u : p.usable m g.reading ≡ true) where
      stops_same : stops_under p m s g ≡ stops_under q m s g
      stops_same = same.stops u ∙ ap (q.stops m.values (choice_in m s g).effective) fault_same

      table_same : table_under p m s g ≡ table_under q m s g
      table_same = λ i. table m.values s.stop g.reading (choice_in m s g) (step_same i) (differences_same i) (stops_same i) (same.watched u i).overstepped

    -- the causes, where the rules have the same rows of them
    pub rows_same : ((rows : List Cause) → p.guard.rows rows ≡ q.guard.rows rows) → rows_under p m s g ≡ rows_under q m s g
    rows_same alike = ways (p.usable m g.reading) (q.usable m g.reading) same.usable (λ u. alike (table_under p m s g) ∙ ap q.guard.rows (table_same u)) refl

    -- what they come to
    strongest_same : strongest_of (rows_under p m s g) ≡ strongest_of (rows_under q m s g)
    strongest_same = ways_to strongest_of (usable_rows_under p m s g) (usable_rows_under q m s g) unusable_table (p.usable m g.reading) (q.usable m g.reading) same.usable (λ u. same.strongest u ∙ ap (λ (rows : List Cause). strongest_of (q.guard.rows rows)) (table_same u))

    fresh_same : fresh_of (rows_under p m s g) ≡ fresh_of (rows_under q m s g)
    fresh_same = ways_to fresh_of (usable_rows_under p m s g) (usable_rows_under q m s g) unusable_table (p.usable m g.reading) (q.usable m g.reading) same.usable (λ u. same.fresh u ∙ ap (λ (rows : List Cause). fresh_of (q.guard.rows rows)) (table_same u))

    -- the state asks nothing else of the rows
    usable_next_same : p.usable m g.reading ≡ true → usable_next_under p m s g ≡ usable_next_under q m s g
    usable_next_same u =
        λ i.
        let found : Findings =
        record { step = step_same i; nx = signal_next m.values (step_same i) s.kept.nx; choice = choice_in m s g; directions = (same.watched u i).directions; differing = differing_in s g; fault = fault_same i; rows = usable_rows_under p m s g } in
        let n = usable_next m s g found (g.acknowledged && not (fresh_same i)) (strongest_same i) in
        record { k = same.rise i; kept = n.kept; stop = n.stop; previous = n.previous }

    -- the state after it
    pub next_same : next_under p m s g ≡ next_under q m s g
    next_same =
        ways (p.usable m g.reading) (q.usable m g.reading) same.usable usable_next_same
        (λ i. record { k = same.rise i; kept = s.kept; stop = Cancelled; previous = None })

    -- its word
    pub word_same : word_under p m s g ≡ word_under q m s g
    word_same =
        let shown : p.usable m g.reading && p.nx m.values (step_under p m s g) s.kept.nx ≡ q.usable m g.reading && q.nx m.values (step_under q m s g) s.kept.nx =
        and_ways (p.usable m g.reading) (q.usable m g.reading) same.usable (λ u. same.nx u ∙ ap (λ (x : Step). q.nx m.values x s.kept.nx) step_same) in
        λ i. shown_word m.values (next_same i) (shown i)
